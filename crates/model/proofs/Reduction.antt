-- The reduced check matrix: what a word has to meet is the same before and after. Assumes nothing.
use Rattle.integers.proofs.Prelude.{◌≡◌, refl, sym, ap, ap₂, ◌∙◌, Bool, true, false, ◌||◌, List, [], ◌∷◌, ℕ, zero, suc, ◌+◌, ◌*◌, ◌%◌, ◌<◌, arith}
use Rattle.integers.proofs.Prelude.{eqb-true, ne_eqb, eq-eqb, eqb, length}
use mathlib.Core.Logic.{◌↔◌}
use lib.ListN.{replicate, length-replicate}
use Rattle.integers.specs.Sum.{sum_ℕ}
use Rattle.integers.proofs.Sums.{sum_ℕ_same, sum_ℕ_add, sum_ℕ_zero, sum_ℕ_first, sum_ℕ_only}
use Rattle.lists.specs.Tabulated.{tab}
use Rattle.lists.specs.Entries.{some, total, Each}
use Rattle.lists.proofs.Entries.{each_at, each_in}
use Rattle.model.specs.Causes.{◌if◌}
use Rattle.model.specs.Code.{Code}
use Rattle.model.specs.Sound.{Rising, SoundChecks, Sound}
use Rattle.model.specs.Words.{bit_at}
use Rattle.model.specs.Points.{Bits, Codeword}
use Rattle.model.specs.Reflection.{sum_of_words}
use Rattle.model.specs.Encoding.{element, row_of, Column, pivot, other, cleared, reduced_by, reduced, inner_product}

-- ---- words, entry by entry
pub rest_bits : (n x : ℕ) (w : List ℕ) → Bits (suc n) (x ∷ w) → Bits n w
rest_bits n x w b = record { long = omega (arith, b.long); binary = λ i. b.binary (suc i) }

pub more_bits : (n x : ℕ) (w : List ℕ) → x < 2 → Bits n w → Bits (suc n) (x ∷ w)
more_bits n x w l b = record { long = ap suc b.long; binary = at }
  where
    at : (i : ℕ) → bit_at (x ∷ w) i < 2
    at zero = l
    at (suc i) = b.binary i

pub no_bits : Bits 0 []
no_bits = record { long = refl; binary = λ i. omega arith }

-- ---- products
pub product_none : (q : List ℕ) → inner_product q [] ≡ 0
product_none [] = refl
product_none (a ∷ q) = refl

-- of a sum of rows, at a word
product_sum : (n : ℕ) (r q w : List ℕ) → length r ≡ n → Bits n w → inner_product (sum_of_words r q) w % 2 ≡ (inner_product r w + inner_product q w) % 2
unfolding sum_of_words
product_sum n [] q [] e b = rw (product_none q)
product_sum n [] q (x ∷ w) e b = absurd (omega (arith, b.long))
product_sum n (a ∷ r) q [] e b = rw (product_none q)
product_sum zero (a ∷ r) q (x ∷ w) e b = absurd (omega arith)
product_sum (suc n) (a ∷ r) [] (x ∷ w) e b = by x (b.binary 0) (product_sum n r [] w (omega arith) (rest_bits n x w b))
  where
    by : (x : ℕ) → x < 2 → inner_product (sum_of_words r []) w % 2 ≡ (inner_product r w + 0) % 2 → ((a + 0) % 2 * x + inner_product (sum_of_words r []) w) % 2 ≡ (a * x + inner_product r w + 0) % 2
    by zero l ih = omega (arith, ih)
    by (suc zero) l ih = omega (arith, ih)
    by (suc (suc x)) l ih = absurd (omega arith)
product_sum (suc n) (a ∷ r) (c ∷ q) (x ∷ w) e b = by x (b.binary 0) (product_sum n r q w (omega arith) (rest_bits n x w b))
  where
    by : (x : ℕ) → x < 2 → inner_product (sum_of_words r q) w % 2 ≡ (inner_product r w + inner_product q w) % 2
        → ((a + c) % 2 * x + inner_product (sum_of_words r q) w) % 2 ≡ (a * x + inner_product r w + (c * x + inner_product q w)) % 2
    by zero l ih = omega (arith, ih)
    by (suc zero) l ih = omega (arith, ih)
    by (suc (suc x)) l ih = absurd (omega arith)

product_tab : (n : ℕ) (f : ℕ → ℕ) (w : List ℕ) → length w ≡ n → inner_product (tab n f) w ≡ sum_ℕ n (λ i. f i * bit_at w i)
product_tab zero f w e = refl
product_tab (suc n) f [] e = absurd (omega arith)
product_tab (suc n) f (x ∷ w) e = rw (product_tab n (λ i. f (suc i)) w (omega arith)) (sym (sum_ℕ_first n (λ i. f i * bit_at (x ∷ w) i)))

-- ---- a check as a row
-- no entry of a rising list is below where it begins
below_none : (n low : ℕ) (c : List ℕ) (i : ℕ) → Rising n low c → i < low → some (eqb i) c ≡ false
below_none n low [] i r h = refl
below_none n low (a ∷ c) i r h = rw (ne_eqb i a (λ e. omega (arith, r.0)), below_none n (suc a) c i r.2 (omega (arith, r.0)))

-- its sum over a word's entries, column by column
pub check_sum : (n low : ℕ) (x : ℕ → ℕ) (c : List ℕ) → Rising n low c → sum_ℕ n (λ b. element c b * x b) ≡ total x c
check_sum n low x [] r = sum_ℕ_zero n (λ b. 0 * x b) (λ b l. omega arith)
check_sum n low x (a ∷ c) r =
    sum_ℕ_same n (λ b. element (a ∷ c) b * x b) (λ b. (1 if eqb b a) * x b + element c b * x b) (λ b l. apart b (eqb b a) refl)
    ∙ sum_ℕ_add n (λ b. (1 if eqb b a) * x b) (λ b. element c b * x b)
    ∙ ap₂ ◌+◌ one (check_sum n (suc a) x c r.2)
  where
    one : sum_ℕ n (λ b. (1 if eqb b a) * x b) ≡ x a
    one = sum_ℕ_only n a (λ b. (1 if eqb b a) * x b) r.1 (λ b l e. rw (ne_eqb b a e) (omega arith)) ∙ rw (eq-eqb a a refl) (omega arith)

    apart : (b : ℕ) (t : Bool) → eqb b a ≡ t → (1 if (eqb b a || some (eqb b) c)) * x b ≡ (1 if eqb b a) * x b + (1 if some (eqb b) c) * x b
    apart b true e = let f : some (eqb b) c ≡ false = below_none n (suc a) c b r.2 (omega (arith, eqb-true b a e)) in rw (e, f) (omega arith)
    apart b false e = rw e (omega arith)

row_product : (n : ℕ) (c w : List ℕ) → Rising n 0 c → length w ≡ n → inner_product (row_of n c) w ≡ total (bit_at w) c
row_product n c w r e = product_tab n (element c) w e ∙ check_sum n 0 (bit_at w) c r

pub small_if : (t : Bool) → 1 if t < 2
small_if true = omega arith
small_if false = omega arith

tab_bits : (n : ℕ) (f : ℕ → ℕ) → ((i : ℕ) → f i < 2) → Bits n (tab n f)
tab_bits zero f h = no_bits
tab_bits (suc n) f h = more_bits n (f 0) (tab n (λ i. f (suc i))) (h 0) (tab_bits n (λ i. f (suc i)) (λ i. h (suc i)))

row_bits : (n : ℕ) (c : List ℕ) → Bits n (row_of n c)
row_bits n c = tab_bits n (element c) (λ b. small_if (some (eqb b) c))

-- ---- the word meets the row of each pivot
abbrev pub Meets : List Column → List ℕ → Type 0
Meets [] w = Unit {0}
Meets (c ∷ cs) [] = Unit {0}
Meets (other ∷ cs) (x ∷ w) = Meets cs w
Meets (pivot q ∷ cs) (x ∷ w) = ((x + inner_product q w) % 2 ≡ 0) × Meets cs w

-- one row more
pub length_cleared : (cs : List Column) (r : List ℕ) → length (cleared cs r) ≡ length cs
unfolding cleared
length_cleared [] r = refl
length_cleared (c ∷ cs) [] = refl
length_cleared (c ∷ cs) (zero ∷ r) = ap suc (length_cleared cs r)
length_cleared (other ∷ cs) (suc x ∷ r) = refl
length_cleared (pivot q ∷ cs) (suc x ∷ r) = ap suc (length_cleared cs (sum_of_words r q))

sum_row_bits : (n : ℕ) (r q : List ℕ) → length r ≡ n → Bits n (sum_of_words r q)
unfolding sum_of_words
sum_row_bits n r q e = rw (sym e) (tab_bits (length r) (λ i. (bit_at r i + bit_at q i) % 2) (λ i. omega arith))

clearing : (n : ℕ) (cs : List Column) (r w : List ℕ) → length cs ≡ n → Bits n r → Bits n w → Meets (cleared cs r) w ↔ (Meets cs w × (inner_product r w % 2 ≡ 0))
unfolding cleared
clearing n [] r w e a b = (λ h. (tt, none r w a b), λ h. tt)
  where
    none : (r w : List ℕ) → Bits n r → Bits n w → inner_product r w % 2 ≡ 0
    none [] w a b = refl
    none (x ∷ r) w a b = absurd (omega (arith, a.long))
clearing n (c ∷ cs) [] w e a b = absurd (omega (arith, a.long))
clearing n (c ∷ cs) (y ∷ r) [] e a b = absurd (omega (arith, b.long))
clearing zero (c ∷ cs) (y ∷ r) (x ∷ w) e a b = absurd (omega arith)
clearing (suc n) (other ∷ cs) (zero ∷ r) (x ∷ w) e a b =
    let ih = clearing n cs r w (omega arith) (rest_bits n zero r a) (rest_bits n x w b) in
    (λ h. (let g = ih.0 h in (g.0, omega (arith, g.1))), λ h. ih.1 (h.0, omega (arith, h.1)))
clearing (suc n) (pivot q ∷ cs) (zero ∷ r) (x ∷ w) e a b =
    let ih = clearing n cs r w (omega arith) (rest_bits n zero r a) (rest_bits n x w b) in
    (λ h. (let g = ih.0 h.1 in ((h.0, g.0), omega (arith, g.1))), λ h. (h.0.0, ih.1 (h.0.1, omega (arith, h.1))))
clearing (suc n) (other ∷ cs) (suc (suc y) ∷ r) (x ∷ w) e a b = absurd (omega (arith, a.binary 0))
clearing (suc n) (pivot q ∷ cs) (suc (suc y) ∷ r) (x ∷ w) e a b = absurd (omega (arith, a.binary 0))
clearing (suc n) (other ∷ cs) (suc zero ∷ r) (x ∷ w) e a b = (λ h. (h.1, omega (arith, h.0)), λ h. (omega (arith, h.1), h.0))
clearing (suc n) (pivot q ∷ cs) (suc zero ∷ r) (x ∷ w) e a b =
    let rest = rest_bits n x w b in
    let long = (rest_bits n 1 r a).long in
    let s = product_sum n r q w long rest in
    let ih = clearing n cs (sum_of_words r q) w (omega arith) (sum_row_bits n r q long) rest in (
      λ h. (let g = ih.0 h.1 in ((h.0, g.0), omega (arith, h.0, g.1, s))),
      λ h. (h.0.0, ih.1 (h.0.1, omega (arith, h.0.0, h.1, s))),
    )

-- ---- all checks
abbrev Even : List (List ℕ) → List ℕ → Type 0
Even checks w = Each (λ c. total (bit_at w) c % 2 ≡ 0) checks

pub length_reduced : (n : ℕ) (checks : List (List ℕ)) (cs : List Column) → length (reduced_by n checks cs) ≡ length cs
unfolding reduced_by
length_reduced n [] cs = refl
length_reduced n (c ∷ checks) cs = length_reduced n checks (cleared cs (row_of n c)) ∙ length_cleared cs (row_of n c)

reducing : (n : ℕ) (checks : List (List ℕ)) (cs : List Column) (w : List ℕ) → SoundChecks n checks → length cs ≡ n → Bits n w
    → Meets (reduced_by n checks cs) w ↔ (Meets cs w × Even checks w)
unfolding reduced_by
reducing n [] cs w s e b = (λ h. (h, tt), λ h. h.0)
reducing n (c ∷ checks) cs w s e b =
    let next = cleared cs (row_of n c) in
    let one = clearing n cs (row_of n c) w e (row_bits n c) b in
    let ih = reducing n checks next w s.1 (length_cleared cs (row_of n c) ∙ e) b in
    let is = row_product n c w s.0.rising b.long in (
      λ h. (let g = ih.0 h in let f = one.0 g.0 in (f.0, (omega (arith, is, f.1), g.1))),
      λ h. ih.1 (one.1 (h.0, omega (arith, is, h.1.0)), h.1.1),
    )

none_met : (n : ℕ) (w : List ℕ) → Meets (replicate n other) w
none_met zero w = tt
none_met (suc n) [] = tt
none_met (suc n) (x ∷ w) = none_met n w

-- ---- of a code
module _ (k : Code) where
  pub columns : length (reduced k) ≡ k.bits
  unfolding reduced
  columns = length_reduced k.bits k.checks (replicate k.bits other) ∙ length-replicate k.bits other

  -- the codewords are the words that meet the reduced matrix
  pub codewords : Sound k → (w : List ℕ) → Bits k.bits w → Codeword k w ↔ Meets (reduced k) w
  unfolding reduced
  codewords s w b =
      let n = k.bits in
      let all = reducing n k.checks (replicate n other) w s.checks (length-replicate n other) b in
      let even : List ℕ → Type 0 = λ c. total (bit_at w) c % 2 ≡ 0 in
      (λ c. all.1 (none_met n w, each_in even k.checks [] c.even), λ h. record { word = b; even = each_at even k.checks [] (all.0 h).1 })
