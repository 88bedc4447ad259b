-- The encoding: a codeword for each message, each codeword once, sums to sums, and pivots as early as can be. Assumes nothing.
use Rattle.integers.proofs.Prelude.{◌≡◌, refl, sym, ap, ap₂, subst, ◌∙◌, Bool, true, false, not, List, [], ◌∷◌, ◌++◌, ℕ, zero, suc, ◌+◌, ◌-◌, ◌*◌, ◌%◌}
use Rattle.integers.proofs.Prelude.{◌<◌, arith, not-false, T, eqb, length, get_or, drop, length-append, get_or-append, get_or-append-add}
use Rattle.integers.proofs.Prelude.{append_assoc, dec_lt, take_at, drop_at, get_or-drop}
use native.Mathlib.Nat.{add-zero, zero-add, suc-add}
use mathlib.Core.Logic.{◌↔◌}
use Rattle.integers.specs.Sum.{sum_ℕ}
use Rattle.integers.proofs.Sums.{sum_ℕ_same, sum_ℕ_split, sum_ℕ_first, sum_ℕ_zero}
use Rattle.lists.specs.Tabulated.{part}
use Rattle.lists.specs.Entries.{some, total}
use Rattle.lists.proofs.Entries.{total_entries}
use Rattle.model.specs.Causes.{◌if◌}
use Rattle.model.specs.Code.{Code}
use Rattle.model.specs.Sound.{Sound}
use Rattle.model.specs.Words.{bit_at}
use Rattle.model.specs.Points.{Bits, Codeword}
use Rattle.model.specs.Reflection.{sum_of_words}
use Rattle.model.specs.Composition.{word_of_zeros}
use Rattle.model.specs.Encoding.{element, Column, pivot, other, reduced, is_other, others, inner_product, encoded_in, message_in, frames_in, message_length, encoded, message_of}
use Rattle.model.specs.Encoding.{Dependent, is_pivot, others_before, Encodes}
use Rattle.model.proofs.Sound.{sound_at}
use Rattle.model.proofs.Composition.{zero_at, zero_bits, sum_codeword}
use Rattle.model.proofs.Reduction.{rest_bits, more_bits, no_bits, check_sum, small_if, Meets, columns, codewords}

-- ---- the word of a message
pub length_encoded : (cs : List Column) (m : List ℕ) → length (encoded_in cs m) ≡ length cs
unfolding encoded_in
length_encoded [] m = refl
length_encoded (other ∷ cs) m = ap suc (length_encoded cs (drop 1 m))
length_encoded (pivot q ∷ cs) m = ap suc (length_encoded cs m)

rest_small : (m : List ℕ) → ((i : ℕ) → bit_at m i < 2) → (i : ℕ) → bit_at (drop 1 m) i < 2
rest_small [] h i = h i
rest_small (x ∷ m) h i = h (suc i)

pub encoded_bits : (n : ℕ) (cs : List Column) (m : List ℕ) → length cs ≡ n → ((i : ℕ) → bit_at m i < 2) → Bits n (encoded_in cs m)
unfolding encoded_in
encoded_bits zero [] m e h = no_bits
encoded_bits (suc n) [] m e h = absurd (omega arith)
encoded_bits zero (c ∷ cs) m e h = absurd (omega arith)
encoded_bits (suc n) (other ∷ cs) m e h = more_bits n _ _ (h 0) (encoded_bits n cs (drop 1 m) (omega arith) (rest_small m h))
encoded_bits (suc n) (pivot q ∷ cs) m e h = more_bits n _ _ (omega arith) (encoded_bits n cs m (omega arith) h)

-- in another column stands the entry that has as many before it as there are other columns before
encoded_at : (cs : List Column) (m : List ℕ) (j : ℕ) → j < length cs → is_other (get_or cs j other) ≡ true
    → bit_at (encoded_in cs m) j ≡ bit_at m (sum_ℕ j (λ i. 1 if is_other (get_or cs i other)))
unfolding encoded_in
encoded_at [] m j l h = absurd (omega arith)
encoded_at (other ∷ cs) m zero l h = refl
encoded_at (pivot q ∷ cs) m zero l h = absurd (subst T (sym h) tt)
encoded_at (other ∷ cs) m (suc j) l h =
    encoded_at cs (drop 1 m) j (omega arith) h ∙ get_or-drop 1 m (sum_ℕ j (λ i. 1 if is_other (get_or cs i other))) 0
    ∙ ap (bit_at m) (sym (sum_ℕ_first j (λ i. 1 if is_other (get_or (other ∷ cs) i other))))
encoded_at (pivot q ∷ cs) m (suc j) l h =
    encoded_at cs m j (omega arith) h ∙ ap (bit_at m) (sym (sum_ℕ_first j (λ i. 1 if is_other (get_or (pivot q ∷ cs) i other)) ∙ zero-add _))

encoded_meets : (cs : List Column) (m : List ℕ) → Meets cs (encoded_in cs m)
unfolding encoded_in
encoded_meets [] m = tt
encoded_meets (other ∷ cs) m = encoded_meets cs (drop 1 m)
encoded_meets (pivot q ∷ cs) m = (omega arith, encoded_meets cs m)

-- ---- the message of a word
pub length_message : (cs : List Column) (w : List ℕ) → length (message_in cs w) ≡ others cs
unfolding message_in
length_message [] w = refl
length_message (other ∷ cs) w = omega (arith, length_message cs (drop 1 w))
length_message (pivot q ∷ cs) w = omega (arith, length_message cs (drop 1 w))

message_small : (cs : List Column) (w : List ℕ) → ((i : ℕ) → bit_at w i < 2) → (i : ℕ) → bit_at (message_in cs w) i < 2
unfolding message_in
message_small [] w h i = omega arith
message_small (other ∷ cs) w h zero = h 0
message_small (other ∷ cs) w h (suc i) = message_small cs (drop 1 w) (rest_small w h) i
message_small (pivot q ∷ cs) w h i = message_small cs (drop 1 w) (rest_small w h) i

-- it stands in the word that was made of it,
first_rest : (n : ℕ) (m : List ℕ) → length m ≡ suc n → bit_at m 0 ∷ drop 1 m ≡ m
first_rest n [] e = absurd (omega arith)
first_rest n (x ∷ m) e = refl

read_back : (cs : List Column) (m : List ℕ) → length m ≡ others cs → message_in cs (encoded_in cs m) ≡ m
unfolding encoded_in message_in
read_back [] [] e = refl
read_back [] (x ∷ m) e = absurd (omega arith)
read_back (other ∷ cs) m e =
    let long : length m ≡ suc (others cs) = omega (arith, e) in
    ap (λ (l : List ℕ). bit_at m 0 ∷ l) (read_back cs (drop 1 m) (rest m long)) ∙ first_rest (others cs) m long
  where
    rest : (m : List ℕ) → length m ≡ suc (others cs) → length (drop 1 m) ≡ others cs
    rest [] e = absurd (omega arith)
    rest (x ∷ m) e = omega arith
read_back (pivot q ∷ cs) m e = read_back cs m (omega (arith, e))

-- and a word that meets the matrix is made of its message
word_back : (n : ℕ) (cs : List Column) (w : List ℕ) → length cs ≡ n → Bits n w → Meets cs w → encoded_in cs (message_in cs w) ≡ w
unfolding encoded_in message_in
word_back n [] [] e b h = refl
word_back n [] (x ∷ w) e b h = absurd (omega (arith, b.long))
word_back n (c ∷ cs) [] e b h = absurd (omega (arith, b.long))
word_back zero (c ∷ cs) (x ∷ w) e b h = absurd (omega arith)
word_back (suc n) (other ∷ cs) (x ∷ w) e b h = ap (λ (l : List ℕ). x ∷ l) (word_back n cs w (omega arith) (rest_bits n x w b) h)
word_back (suc n) (pivot q ∷ cs) (x ∷ w) e b h =
    let ih = word_back n cs w (omega arith) (rest_bits n x w b) h.1 in
    let fixed : inner_product q w % 2 ≡ x = omega (arith, h.0, b.binary 0) in
    rw ih (ap (λ (y : ℕ). y ∷ w) fixed)

-- messages add up as words do
message_sum : (cs : List Column) (w u : List ℕ) → length w ≡ length cs → length u ≡ length cs
    → message_in cs (sum_of_words w u) ≡ sum_of_words (message_in cs w) (message_in cs u)
unfolding message_in sum_of_words
message_sum [] w u e f = refl
message_sum (c ∷ cs) [] u e f = absurd (omega arith)
message_sum (c ∷ cs) (x ∷ w) [] e f = absurd (omega arith)
message_sum (other ∷ cs) (x ∷ w) (y ∷ u) e f = ap (λ (l : List ℕ). (x + y) % 2 ∷ l) (message_sum cs w u (omega arith) (omega arith))
message_sum (pivot q ∷ cs) (x ∷ w) (y ∷ u) e f = message_sum cs w u (omega arith) (omega arith)

-- ---- many frames
pub length_frames : (cs : List Column) (f : ℕ) (ms : List ℕ) → length (frames_in cs f ms) ≡ f * length cs
unfolding frames_in
length_frames cs zero ms = omega arith
length_frames cs (suc f) ms =
    length-append (frames_in cs f ms) (encoded_in cs (part (others cs) f ms)) ∙ omega (arith, length_frames cs f ms, length_encoded cs (part (others cs) f ms))

-- the part of frame g
pub frame_part : (cs : List Column) (f : ℕ) (ms rest : List ℕ) (g : ℕ) → g < f → part (length cs) g (frames_in cs f ms ++ rest) ≡ encoded_in cs (part (others cs) g ms)
unfolding frames_in
frame_part cs zero ms rest g h = absurd (omega arith)
frame_part cs (suc f) ms rest g h =
    ap (part (length cs) g) (append_assoc (frames_in cs f ms) w rest) ∙ by (dec_lt g f) (frame_part cs f ms (w ++ rest) g)
  where
    w : List ℕ
    w = encoded_in cs (part (others cs) f ms)

    by : Dec (g < f) → (g < f → part (length cs) g (frames_in cs f ms ++ (w ++ rest)) ≡ encoded_in cs (part (others cs) g ms))
        → part (length cs) g (frames_in cs f ms ++ (w ++ rest)) ≡ encoded_in cs (part (others cs) g ms)
    by (yes l) ih = ih l
    by (no l) ih =
        let e : g ≡ f = omega arith in
        rw (e, drop_at (frames_in cs f ms) (w ++ rest) (f * length cs) (length_frames cs f ms)) (take_at w rest (length cs) (length_encoded cs (part (others cs) f ms)))

-- ---- a word whose last 1 stands in column j, before `more` zeros
abbrev with_last_one : List ℕ → ℕ → List ℕ
with_last_one front more = front ++ (1 ∷ word_of_zeros more)

product_zeros : (q : List ℕ) (n : ℕ) → inner_product q (word_of_zeros n) ≡ 0
product_zeros [] n = refl
product_zeros (a ∷ q) zero = refl
product_zeros (a ∷ q) (suc n) = rw (product_zeros q n) (omega arith)

zeros_meet : (cs : List Column) (n : ℕ) → Meets cs (word_of_zeros n)
zeros_meet [] n = tt
zeros_meet (c ∷ cs) zero = tt
zeros_meet (other ∷ cs) (suc n) = zeros_meet cs n
zeros_meet (pivot q ∷ cs) (suc n) = (rw (product_zeros q n), zeros_meet cs n)

-- there is one in each other column
record LastOne (cs : List Column) (j more : ℕ) : Type 0 where
  front : List ℕ
  before : Bits j front
  meets : Meets cs (with_last_one front more)

last_one : (j more : ℕ) (cs : List Column) → length cs ≡ j + suc more → is_other (get_or cs j other) ≡ true → LastOne cs j more
last_one zero more [] e h = absurd (omega arith)
last_one zero more (other ∷ cs) e h = record { front = []; before = no_bits; meets = zeros_meet cs more }
last_one zero more (pivot q ∷ cs) e h = absurd (subst T (sym h) tt)
last_one (suc j) more [] e h = absurd (omega arith)
last_one (suc j) more (c ∷ cs) e h = by c (last_one j more cs (omega arith) h)
  where
    by : (c : Column) → LastOne cs j more → LastOne (c ∷ cs) (suc j) more
    by other x = record { front = 0 ∷ x.front; before = more_bits j 0 x.front (omega arith) x.before; meets = x.meets }
    by (pivot q) x =
        let y = inner_product q (with_last_one x.front more) % 2 in
        record { front = y ∷ x.front; before = more_bits j y x.front (omega arith) x.before; meets = (omega arith, x.meets) }

-- and in no pivot
no_last_one : (j more : ℕ) (cs : List Column) (front : List ℕ) → length front ≡ j → j < length cs → Meets cs (with_last_one front more) → is_other (get_or cs j other) ≡ true
no_last_one j more [] front e l h = absurd (omega arith)
no_last_one zero more (other ∷ cs) [] e l h = refl
no_last_one zero more (pivot q ∷ cs) [] e l h = absurd (omega (arith, h.0, product_zeros q more))
no_last_one zero more (c ∷ cs) (x ∷ front) e l h = absurd (omega arith)
no_last_one (suc j) more (c ∷ cs) [] e l h = absurd (omega arith)
no_last_one (suc j) more (other ∷ cs) (x ∷ front) e l h = no_last_one j more cs front (omega arith) (omega arith) h
no_last_one (suc j) more (pivot q ∷ cs) (x ∷ front) e l h = no_last_one j more cs front (omega arith) (omega arith) h.1

-- a column's sum over such a word
last_bits : (j more : ℕ) (front : List ℕ) → Bits j front → Bits (j + suc more) (with_last_one front more)
last_bits zero more [] b = rw (zero-add (suc more)) (more_bits more 1 (word_of_zeros more) (omega arith) (zero_bits more))
last_bits zero more (x ∷ front) b = absurd (omega (arith, b.long))
last_bits (suc j) more [] b = absurd (omega (arith, b.long))
last_bits (suc j) more (x ∷ front) b = rw (suc-add j (suc more)) (more_bits (j + suc more) x _ (b.binary 0) (last_bits j more front (rest_bits j x front b)))

last_sum : (j more : ℕ) (front : List ℕ) (f : ℕ → ℕ) → length front ≡ j
    → sum_ℕ (j + suc more) (λ c. f c * bit_at (with_last_one front more) c) ≡ sum_ℕ j (λ c. f c * bit_at front c) + f j
last_sum j more front f e =
    let w = with_last_one front more in
    let past : (i : ℕ) → bit_at w (j + i) ≡ bit_at (1 ∷ word_of_zeros more) i = λ i. ap (λ (n : ℕ). bit_at w (n + i)) (sym e) ∙ get_or-append-add front (1 ∷ word_of_zeros more) i 0 in
    sum_ℕ_split j (suc more) (λ c. f c * bit_at w c)
    ∙ ap₂ ◌+◌
    (sum_ℕ_same j (λ c. f c * bit_at w c) (λ c. f c * bit_at front c) (λ c l. ap (λ (y : ℕ). f c * y) (get_or-append front (1 ∷ word_of_zeros more) 0 c (omega arith))))
    (sum_ℕ_first more (λ i. f (j + i) * bit_at w (j + i))
    ∙ rw (
      past 0,
      add-zero j,
      sum_ℕ_zero more (λ i. f (j + suc i) * bit_at w (j + suc i)) (λ i l. ap (λ (y : ℕ). f (j + suc i) * y) (past (suc i) ∙ zero_at more i) ∙ omega arith),
    ) (omega arith))

-- ---- of a code
module _ (k : Code) (s : Sound k) where
  abbrev n : ℕ
  n = k.bits

  abbrev check : ℕ → List ℕ
  check i = get_or k.checks i []

  -- a check's sum over a word, by the entries of its row
  check_row : (i : ℕ) → i < length k.checks → (x : ℕ → ℕ) → sum_ℕ n (λ c. element (check i) c * x c) ≡ total x (check i)
  check_row i l x = check_sum n 0 x (check i) (sound_at n k.checks s.checks i l).rising

  module _ (j : ℕ) (l : j < n) where
    abbrev more : ℕ
    more = n - suc j

    all : n ≡ j + suc more
    all = omega arith

    -- an even sum of such a word tells that its front makes column j
    last_even : (front : List ℕ) → length front ≡ j → (i : ℕ) → i < length k.checks
        → (total (bit_at (with_last_one front more)) (check i) % 2 ≡ 0) ↔ (sum_ℕ j (λ c. element (check i) c * bit_at front c) % 2 ≡ element (check i) j)
    last_even front e i h =
        let sum : total (bit_at (with_last_one front more)) (check i) ≡ sum_ℕ j (λ c. element (check i) c * bit_at front c) + element (check i) j
        = sym (check_row i h (bit_at (with_last_one front more))) ∙ ap (λ (m : ℕ). sum_ℕ m (λ c. element (check i) c * bit_at (with_last_one front more) c)) all ∙ last_sum j more front (element (check i)) e in
        let small = small_if (some (eqb j) (check i)) in
        (λ g. omega (arith, sum, small, g), λ g. omega (arith, sum, small, g))

    last_word : (front : List ℕ) → Bits j front → Bits n (with_last_one front more)
    last_word front b = subst (λ (m : ℕ). Bits m (with_last_one front more)) (sym all) (last_bits j more front b)

    depends : is_other (get_or (reduced k) j other) ≡ true → Dependent k j
    depends h =
        let x = last_one j more (reduced k) (columns k ∙ all) h in
        let c = (codewords k s (with_last_one x.front more) (last_word x.front x.before)).1 x.meets in
        record { chosen = x.front; earlier = x.before; sum = λ i g. (last_even x.front x.before.long i g).0 (c.even i g) }

    no_pivot : Dependent k j → is_other (get_or (reduced k) j other) ≡ true
    no_pivot d =
        let b = last_word d.chosen d.earlier in
        let c : Codeword k (with_last_one d.chosen more) = record { word = b; even = λ i g. (last_even d.chosen d.earlier.long i g).1 (d.sum i g) } in
        no_last_one j more (reduced k) d.chosen d.earlier.long (omega (arith, columns k)) ((codewords k s (with_last_one d.chosen more) b).0 c)

    dependent : (is_pivot k j ≡ false) ↔ Dependent k j
    dependent = (λ h. depends (not-false _ h), λ d. ap not (no_pivot d))

    earliest : (is_pivot k j ≡ true) ↔ (Dependent k j → ⊥)
    earliest = (λ h d. clash (is_pivot k j) h (dependent.1 d), λ h. by (is_pivot k j) refl h)
      where
        clash : (t : Bool) → t ≡ true → t ≡ false → ⊥
        clash t e f = absurd (subst T (sym e ∙ f) tt)

        by : (t : Bool) → is_pivot k j ≡ t → (Dependent k j → ⊥) → t ≡ true
        by true e h = refl
        by false e h = absurd (h (dependent.0 e))

  others_before_lem : (j : ℕ) → sum_ℕ j (λ i. 1 if is_other (get_or (reduced k) i other)) ≡ others_before k j
  others_before_lem j = sum_ℕ_same j (λ i. 1 if is_other (get_or (reduced k) i other)) (λ i. 1 if not (is_pivot k i)) (λ i l. twice (is_other (get_or (reduced k) i other)))
    where
      twice : (t : Bool) → 1 if t ≡ 1 if not (not t)
      twice true = refl
      twice false = refl

  pub encoding : Encodes k
  encoding = record {
    columns = columns k;
    earliest = earliest;
    dependent = dependent;
    counted = total_entries (λ c. 1 if is_other c) (reduced k) other ∙ ap (λ (m : ℕ). sum_ℕ m (λ j. 1 if is_other (get_or (reduced k) j other))) (columns k) ∙ others_before_lem n;
    rising = λ m j l h. encoded_at (reduced k) m j (omega (arith, columns k)) (not-false _ h) ∙ ap (bit_at m) (others_before_lem j);
    codeword = codeword;
    read_back = λ m b. read_back (reduced k) m b.long;
    some_message = λ w c. (message w c, back w c);
    one_message = λ m l a b e. sym (read_back (reduced k) m a.long) ∙ ap (message_of k) e ∙ read_back (reduced k) l b.long;
    sum = λ m l a b. sums m l a b;
  }
    where
      codeword : (m : List ℕ) → Bits (message_length k) m → Codeword k (encoded k m)
      codeword m b = (codewords k s (encoded k m) (encoded_bits n (reduced k) m (columns k) b.binary)).1 (encoded_meets (reduced k) m)

      message : (w : List ℕ) → Codeword k w → Bits (message_length k) (message_of k w)
      message w c = record { long = length_message (reduced k) w; binary = message_small (reduced k) w c.word.binary }

      back : (w : List ℕ) → Codeword k w → encoded k (message_of k w) ≡ w
      back w c = word_back n (reduced k) w (columns k) c.word ((codewords k s w c.word).0 c)

      -- the sum of both words is a codeword, and the message that stands in it is the sum of both
      sums : (m l : List ℕ) → Bits (message_length k) m → Bits (message_length k) l → encoded k (sum_of_words m l) ≡ sum_of_words (encoded k m) (encoded k l)
      sums m l a b =
          let w = encoded k m in
          let u = encoded k l in
          let e : message_of k (sum_of_words w u) ≡ sum_of_words m l
          = message_sum (reduced k) w u (length_encoded (reduced k) m) (length_encoded (reduced k) l)
          ∙ ap₂ sum_of_words (read_back (reduced k) m a.long) (read_back (reduced k) l b.long) in
          ap (encoded k) (sym e) ∙ back (sum_of_words w u) (sum_codeword k w u (codeword m a) (codeword l b))
