-- Lines of numbers: how long they are, and how they grow. Assumes nothing.
use Rattle.integers.proofs.Prelude.{◌≡◌, refl, sym, ap, ◌∙◌, List, [], ◌∷◌, ◌++◌, append_assoc, append-nil, ℕ, zero, suc, ◌+◌, ◌-◌, ◌*◌, ◌/◌, ◌≤◌, ◌<◌, arith}
use Rattle.integers.proofs.Prelude.{add-one, length, get_or, take, drop, length-append, length-take-le, take_at, take-append-drop, take-suc, drop_at}
use lib.ListN.{replicate, length-replicate, replicate-append-replicate}
use Rattle.lists.specs.Entries.{total}
use Rattle.lists.proofs.Entries.{total_append}
use Rattle.model.specs.Text.{decimal}
use Rattle.model.specs.Alist.{fill, line_of}
use Rattle.text.specs.Appended.{Appended}
use Rattle.text.proofs.Appended.{long}
use Rattle.text.proofs.Decimals.{leading_none, leading_more, decimal_length}
use Rattle.exporter.specs.Lines.{spaced}

-- ---- how many digits
pub one_digit : (x : ℕ) → x < 10 → length (decimal x) ≡ 1
one_digit x h = decimal_length x ∙ rw (leading_none x h)

pub more_digits : (x : ℕ) → 10 ≤ x → length (decimal x) ≡ length (decimal (x / 10)) + 1
more_digits x h = decimal_length x ∙ rw (leading_more x h)

-- ---- numbers, each with a space behind it
-- the bytes of a number and of what follows it
abbrev pub field : ℕ → ℕ
field x = length (decimal x) + 1

pub length_spaced : (l : List ℕ) → length (spaced l) ≡ total field l
unfolding spaced
length_spaced [] = refl
length_spaced (x ∷ l) = length-append (decimal x) (32 ∷ spaced l) ∙ omega (arith, length_spaced l)

pub some_spaced : (l : List ℕ) → 1 ≤ length l → 1 ≤ length (spaced l)
unfolding spaced
some_spaced [] h = absurd (omega arith)
some_spaced (x ∷ l) h = omega (arith, length-append (decimal x) (32 ∷ spaced l))

pub spaced_append : (l k : List ℕ) → spaced (l ++ k) ≡ spaced l ++ spaced k
unfolding spaced
spaced_append [] k = refl
spaced_append (x ∷ l) k = rw (spaced_append l k) (sym (append_assoc (decimal x) (32 ∷ spaced l) (spaced k)))

-- one more
pub spaced_next : (l : List ℕ) (i : ℕ) → i < length l → spaced (take (i + 1) l) ≡ spaced (take i l) ++ (decimal (get_or l i 0) ++ (32 ∷ []))
unfolding spaced
spaced_next l i h = rw (add-one i, take-suc l i 0 h) (spaced_append (take i l) (get_or l i 0 ∷ []))

-- and there is room for it where there is room for all
pub spaced_room : (l : List ℕ) (i : ℕ) → i < length l → length (spaced (take i l)) + field (get_or l i 0) ≤ length (spaced l)
spaced_room l i h =
    let here = spaced (take i l) in
    let one = decimal (get_or l i 0) ++ (32 ∷ []) in
    omega (
      arith,
      ap (λ (k : List ℕ). length (spaced k)) (take-append-drop (i + 1) l),
      ap length (spaced_append (take (i + 1) l) (drop (i + 1) l)),
      length-append (spaced (take (i + 1) l)) (spaced (drop (i + 1) l)),
      ap length (spaced_next l i h),
      length-append here one,
      length-append (decimal (get_or l i 0)) (32 ∷ []),
    )

total_zeros : (n : ℕ) → total field (replicate n 0) ≡ 2 * n
unfolding decimal
total_zeros zero = refl
total_zeros (suc n) = omega (arith, total_zeros n)

pub length_zeros : (n : ℕ) → length (spaced (replicate n 0)) ≡ 2 * n
length_zeros n = length_spaced (replicate n 0) ∙ total_zeros n

pub zeros_next : (n : ℕ) → spaced (replicate (n + 1) 0) ≡ spaced (replicate n 0) ++ (48 ∷ 32 ∷ [])
unfolding spaced decimal
zeros_next n = ap spaced (sym (replicate-append-replicate n 1 0)) ∙ spaced_append (replicate n 0) (0 ∷ [])

-- ---- a line
-- all but its end
inner : ℕ → List ℕ → List ℕ
inner x [] = decimal x
inner x (y ∷ l) = decimal x ++ (32 ∷ inner y l)

inner_line : (x : ℕ) (l : List ℕ) → line_of (x ∷ l) ≡ inner x l ++ (10 ∷ [])
unfolding inner line_of
inner_line x [] = refl
inner_line x (y ∷ l) = rw (inner_line y l) (sym (append_assoc (decimal x) (32 ∷ inner y l) (10 ∷ [])))

inner_spaced : (x : ℕ) (l : List ℕ) → spaced (x ∷ l) ≡ inner x l ++ (32 ∷ [])
unfolding inner spaced
inner_spaced x [] = refl
inner_spaced x (y ∷ l) = rw (inner_spaced y l) (sym (append_assoc (decimal x) (32 ∷ inner y l) (32 ∷ [])))

pub length_line : (l : List ℕ) → 1 ≤ length l → length (line_of l) ≡ total field l
length_line [] h = absurd (omega arith)
length_line (x ∷ l) h =
    omega (
      arith,
      ap length (inner_line x l),
      length-append (inner x l) (10 ∷ []),
      ap length (inner_spaced x l),
      length-append (inner x l) (32 ∷ []),
      length_spaced (x ∷ l),
    )

-- of a list that is filled
pub length_filled : (most : ℕ) (l : List ℕ) → 1 ≤ most → length l ≤ most → length (line_of (fill most l)) ≡ total field l + 2 * (most - length l)
length_filled most l some h =
    let zeros : List ℕ = replicate (most - length l) 0 in
    length_line (l ++ zeros) (omega (arith, length-append l zeros, length-replicate {A = ℕ} (most - length l) 0))
    ∙ total_append field l zeros ∙ omega (arith, total_zeros (most - length l))

-- ---- written: a byte in the place of the last
module _ {at : ℕ} {a b c : List ℕ} {next end : ℕ} where
  replaced : (t : List ℕ) (x y : ℕ) → Appended at (t ++ (x ∷ [])) a b next → Appended (next - 1) (y ∷ []) b c end → Appended at (t ++ (y ∷ [])) a c end
  replaced t x y p q =
      let old = take at a ++ t in
      let after = drop (at + length (t ++ (x ∷ []))) a in
      let more : (z : ℕ) → length (t ++ (z ∷ [])) ≡ length t + 1 = λ z. length-append t (z ∷ []) in
      let size : length old ≡ next - 1 = length-append (take at a) t ∙ omega (arith, length-take-le at a (omega (arith, p.ends, p.fits)), p.ends, more x) in
      let here : take (next - 1) b ≡ old = ap (take (next - 1)) (p.list ∙ simp append_assoc) ∙ take_at old (x ∷ after) (next - 1) size in
      let rest : drop (next - 1 + 1) b ≡ after
      = ap (drop (next - 1 + 1)) (p.list ∙ simp append_assoc)
      ∙ drop_at (old ++ (x ∷ [])) after (next - 1 + 1) (length-append old (x ∷ []) ∙ omega (arith, size)) in
      let same : length (t ++ (x ∷ [])) ≡ length (t ++ (y ∷ [])) = omega (arith, more x, more y) in
      record {
        list = q.list ∙ rw (here, rest, same) (simp append_assoc);
        ends = omega (arith, p.ends, q.ends, more x, more y);
        fits = omega (arith, q.fits, long p);
      }

  -- the last space becomes a line feed
  pub ended : (l : List ℕ) → 1 ≤ length l → Appended at (spaced l) a b next → Appended (next - 1) (10 ∷ []) b c end → Appended at (line_of l) a c end
  ended [] h p q = absurd (omega arith)
  ended (x ∷ l) h p q = rw (inner_line x l) (replaced (inner x l) 32 10 (rw (inner_spaced x l) at p) q)

-- a list that is filled to its own length
pub fill_none : (l : List ℕ) → fill (length l) l ≡ l
fill_none l = let z : length l - length l ≡ 0 = omega arith in rw z (append-nil l)
