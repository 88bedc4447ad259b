-- Reflections compose, and extensions add up. Assumes nothing.
use Rattle.integers.proofs.Prelude.{◌≡◌, refl, sym, ap, ap₂, ◌∙◌, List, [], ◌∷◌, ◌++◌, ℕ, zero, suc, ◌+◌, ◌%◌, ◌<◌, arith, dec_lt, ℤ, pos, neg_ℤ, length, get_or, take}
use Rattle.integers.proofs.Prelude.{get_or-eq_default, length-take-le, get_or-take}
use lib.IntN.{neg_ℤ-neg_ℤ}
use lib.ListN.{length-replicate}
use lib.Seq.{ext_get_or}
use Rattle.lists.specs.Entries.{total, Each}
use Rattle.lists.proofs.Tabulated.{length_tab}
use Rattle.lists.proofs.Entries.{total_same}
use Rattle.model.specs.Code.{Code}
use Rattle.model.specs.Sound.{Sound}
use Rattle.model.specs.Splitting.{system_of, member}
use Rattle.model.specs.Iteration.{at}
use Rattle.model.specs.Words.{bit_at}
use Rattle.model.specs.Points.{Bits, Codeword, Point, point_of}
use Rattle.model.specs.Reflection.{negated_if, reflect, sum_of_words}
use Rattle.model.specs.Composition.{word_of_zeros, sum_of_all, chained, Sums, Composes, Extends}
use Rattle.model.proofs.Points.{Even, even_point, point_begins, point_even, point, points}
use Rattle.model.proofs.Reflection.{reflect_at}
use Rattle.model.proofs.Rows.{two}
use Rattle.model.proofs.Demand3.{total_sum, sum_entry}

-- ---- sums of words
pub length_sum : (w u : List ℕ) → length (sum_of_words w u) ≡ length w
unfolding sum_of_words
length_sum w u = length_tab (length w) (λ i. (bit_at w i + bit_at u i) % 2)

-- every entry, also past the end
sum_at : (w u : List ℕ) → length u ≡ length w → (i : ℕ) → bit_at (sum_of_words w u) i ≡ (bit_at w i + bit_at u i) % 2
sum_at w u h i = by (dec_lt i (length w))
  where
    by : Dec (i < length w) → bit_at (sum_of_words w u) i ≡ (bit_at w i + bit_at u i) % 2
    by (yes l) = sum_entry w u i l
    by (no l) =
        let a : bit_at w i ≡ 0 = get_or-eq_default w 0 (omega arith) in
        let b : bit_at u i ≡ 0 = get_or-eq_default u 0 (omega arith) in
        get_or-eq_default (sum_of_words w u) 0 (omega (arith, length_sum w u)) ∙ rw (a, b)

pub zero_at : (n i : ℕ) → bit_at (word_of_zeros n) i ≡ 0
zero_at zero i = refl
zero_at (suc n) zero = refl
zero_at (suc n) (suc i) = zero_at n i

module _ (n : ℕ) where
  pub zero_bits : Bits n (word_of_zeros n)
  zero_bits = record { long = length-replicate n 0; binary = λ i. rw (zero_at n i) (omega arith) }

  module _ (w u : List ℕ) (a : Bits n w) (b : Bits n u) where
    -- an entry of a sum
    entry : (i : ℕ) → bit_at (sum_of_words w u) i ≡ (bit_at w i + bit_at u i) % 2
    entry = sum_at w u (b.long ∙ sym a.long)

    pub sum_bits : Bits n (sum_of_words w u)
    sum_bits = record { long = length_sum w u ∙ a.long; binary = λ i. rw (entry i) (omega arith) }

    -- words are equal where all entries are
    same_words : ((i : ℕ) → bit_at w i ≡ bit_at u i) → w ≡ u
    same_words h = ext_get_or 0 w u (a.long ∙ sym b.long) (λ i l. h i)

  -- what holds of the zero word and of sums holds of a sum of any number
  all_sums : (P : List ℕ → Type 0) → P (word_of_zeros n) → ((w u : List ℕ) → P w → P u → P (sum_of_words w u)) → (ws : List (List ℕ)) → Each P ws → P (sum_of_all n ws)
  all_sums P z s [] h = z
  all_sums P z s (w ∷ ws) h = s w (sum_of_all n ws) h.0 (all_sums P z s ws h.1)

  pub all_bits : (ws : List (List ℕ)) → Each (Bits n) ws → Bits n (sum_of_all n ws)
  all_bits = all_sums (Bits n) zero_bits sum_bits

  order : (w u : List ℕ) → Bits n w → Bits n u → sum_of_words w u ≡ sum_of_words u w
  order w u a b =
      same_words (sum_of_words w u) (sum_of_words u w) (sum_bits w u a b) (sum_bits u w b a) (λ i. omega (arith, entry w u a b i, entry u w b a i))

  grouping : (w u v : List ℕ) → Bits n w → Bits n u → Bits n v → sum_of_words (sum_of_words w u) v ≡ sum_of_words w (sum_of_words u v)
  grouping w u v a b c =
      let wu = sum_bits w u a b in
      let uv = sum_bits u v b c in
      same_words _ _ (sum_bits _ v wu c) (sum_bits w _ a uv) (λ i. omega (arith, entry _ v wu c i, entry w u a b i, entry w _ a uv i, entry u v b c i))

  -- two words change places
  exchange : (ws vs : List (List ℕ)) (w u : List ℕ) → Bits n w → Bits n u → Each (Bits n) vs
      → sum_of_all n (ws ++ (w ∷ u ∷ vs)) ≡ sum_of_all n (ws ++ (u ∷ w ∷ vs))
  exchange [] vs w u a b h =
      let rest = sum_of_all n vs in
      let c = all_bits vs h in
      sym (grouping w u rest a b c) ∙ ap (λ (x : List ℕ). sum_of_words x rest) (order w u a b) ∙ grouping u w rest b a c
  exchange (x ∷ ws) vs w u a b h = ap (sum_of_words x) (exchange ws vs w u a b h)

  pub sums : Sums n
  sums = record {
    word = sum_bits;
    order = order;
    grouping = grouping;
    zero_word = λ w a. same_words _ w (sum_bits w _ a zero_bits) a (λ i. omega (arith, entry w _ a zero_bits i, zero_at n i, a.binary i));
    twice = λ w a. same_words _ _ (sum_bits w w a a) zero_bits (λ i. omega (arith, entry w w a a i, zero_at n i));
    neighbours = exchange;
  }

-- ---- reflections
turned_turned : (a b : ℕ) (z : ℤ) → a < 2 → b < 2 → negated_if b (negated_if a z) ≡ negated_if ((a + b) % 2) z
turned_turned a b z =
    two (λ a. b < 2 → negated_if b (negated_if a z) ≡ negated_if ((a + b) % 2) z)
    (two (λ b. negated_if b z ≡ negated_if ((0 + b) % 2) z) refl refl b)
    (two (λ b. negated_if b (neg_ℤ z) ≡ negated_if ((1 + b) % 2) z) refl (neg_ℤ-neg_ℤ z) b) a

pub length_reflect : (w : List ℕ) (costs : List ℤ) → length (reflect w costs) ≡ length costs
unfolding reflect
length_reflect w costs = length_tab (length costs) (λ i. negated_if (bit_at w i) (at costs i))

-- reflected costs are equal to costs of their length where all entries are
reflected_is : (w : List ℕ) (costs others : List ℤ) → length others ≡ length costs
    → ((i : ℕ) → negated_if (bit_at w i) (at costs i) ≡ at others i) → reflect w costs ≡ others
reflected_is w costs others h e =
    ext_get_or (pos 0) (reflect w costs) others (length_reflect w costs ∙ sym h) (λ i l. reflect_at w costs i ∙ e i)

module _ (n : ℕ) where
  two_words : (costs : List ℤ) (w u : List ℕ) → Bits n w → Bits n u → reflect u (reflect w costs) ≡ reflect (sum_of_words w u) costs
  two_words costs w u a b =
      reflected_is u (reflect w costs) (reflect (sum_of_words w u) costs) (length_reflect _ costs ∙ sym (length_reflect w costs)) (λ i.
      ap (negated_if (bit_at u i)) (reflect_at w costs i)
      ∙ turned_turned (bit_at w i) (bit_at u i) (at costs i) (a.binary i) (b.binary i)
      ∙ ap (λ (x : ℕ). negated_if x (at costs i)) (sym (entry n w u a b i))
      ∙ sym (reflect_at (sum_of_words w u) costs i))

  zero_reflects : (costs : List ℤ) → reflect (word_of_zeros n) costs ≡ costs
  zero_reflects costs = reflected_is (word_of_zeros n) costs costs refl (λ i. rw (zero_at n i))

  chain_is : (ws : List (List ℕ)) (costs : List ℤ) → Each (Bits n) ws → chained ws costs ≡ reflect (sum_of_all n ws) costs
  chain_is [] costs h = sym (zero_reflects costs)
  chain_is (w ∷ ws) costs h = chain_is ws (reflect w costs) h.1 ∙ two_words costs w (sum_of_all n ws) h.0 (all_bits n ws h.1)

pub composes : (costs : List ℤ) → Composes costs
composes costs =
    let n = length costs in
    let by : List ℕ → List ℤ = λ w. reflect w costs in
    record {
      sum = two_words n costs;
      order = λ w u a b. two_words n costs w u a b ∙ ap by ((sums n).order w u a b) ∙ sym (two_words n costs u w b a);
      zero_word = zero_reflects n costs;
      twice = λ w a. two_words n costs w w a a ∙ ap by ((sums n).twice w a) ∙ zero_reflects n costs;
      chains = λ ws h. chain_is n ws costs h;
    }

-- ---- codewords and their points
zero_total : (x : ℕ → ℕ) → ((i : ℕ) → x i ≡ 0) → (c : List ℕ) → total x c ≡ 0
zero_total x h [] = refl
zero_total x h (i ∷ c) = omega (arith, h i, zero_total x h c)

-- where each of two is even at three places, so is their sum
even_sum : (x y : ℕ → ℕ) (i j l : ℕ) → (x i + x j + x l) % 2 ≡ 0 → (y i + y j + y l) % 2 ≡ 0
    → ((x i + y i) % 2 + (x j + y j) % 2 + (x l + y l) % 2) % 2 ≡ 0
even_sum x y i j l h k =
    ap (λ (n : ℕ). n % 2) (omega arith) ∙ total_sum x y (i ∷ j ∷ l ∷ []) ∙ omega arith

module _ (k : Code) where
  zero_codeword : Codeword k (word_of_zeros k.bits)
  zero_codeword = record {
    word = zero_bits k.bits;
    even = λ j h. rw (zero_total (bit_at (word_of_zeros k.bits)) (zero_at k.bits) (get_or k.checks j []));
  }

  module _ (w u : List ℕ) (a : Codeword k w) (b : Codeword k u) where
    pub sum_codeword : Codeword k (sum_of_words w u)
    sum_codeword = record {
      word = sum_bits k.bits w u a.word b.word;
      even = λ j h.
          let c = get_or k.checks j [] in
          rw (total_same (bit_at (sum_of_words w u)) (λ i. (bit_at w i + bit_at u i) % 2) (entry k.bits w u a.word b.word) c)
          (total_sum (bit_at w) (bit_at u) c ∙ omega (arith, a.even j h, b.even j h));
    }

    -- the sum of the points is a point over the sum, and there is only one
    module _ (s : Sound k) where
      abbrev p : List ℕ
      p = point_of k w

      abbrev q : List ℕ
      q = point_of k u

      both : (i : ℕ) → bit_at (sum_of_words p q) i ≡ (bit_at p i + bit_at q i) % 2
      both = entry (system_of k).variables p q (point k s w a).point (point k s u b).point

      even : Even (bit_at (sum_of_words p q)) (system_of k).members (system_of k).triples
      even t h =
          let m : ℕ → ℕ = member (system_of k).members t in
          rw (both (m 0), both (m 1), both (m 2)) (even_sum (bit_at p) (bit_at q) (m 0) (m 1) (m 2) (point_even k s w a t h) (point_even k s u b t h))

      sum_point : Point (system_of k) (sum_of_words p q)
      sum_point = even_point k s (sum_of_words p q) (sum_bits (system_of k).variables p q (point k s w a).point (point k s u b).point) even

      begins : take k.bits (sum_of_words p q) ≡ sum_of_words w u
      unfolding system_of
      begins =
          let n = k.bits in
          let long : length (take n (sum_of_words p q)) ≡ n = length-take-le n (sum_of_words p q) (omega (arith, sum_point.point.long, s.bits_least)) in
          ext_get_or 0 (take n (sum_of_words p q)) (sum_of_words w u) (long ∙ sym sum_codeword.word.long) (λ i l.
          get_or-take n (sum_of_words p q) i 0 (omega arith)
          ∙ both i
          ∙ ap₂ (λ (x y : ℕ). (x + y) % 2) (point_begins k s w a.word.long i (omega arith)) (point_begins k s u b.word.long i (omega arith))
          ∙ sym (entry n w u a.word b.word i))

      pub extension_sum : point_of k (sum_of_words w u) ≡ sum_of_words p q
      extension_sum = sym ((points k s).only (sum_of_words w u) (sum_of_words p q) sum_point begins)

pub all_codewords : (k : Code) (ws : List (List ℕ)) → Each (Codeword k) ws → Codeword k (sum_of_all k.bits ws)
all_codewords k = all_sums k.bits (Codeword k) (zero_codeword k) (sum_codeword k)

pub extends : (k : Code) → Sound k → Extends k
extends k s = record { zero_word = zero_codeword k; codeword = sum_codeword k; sum = λ w u a b. extension_sum k w u a b s }
