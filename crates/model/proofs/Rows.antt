-- What holds of each of four rows, of each of three positions, and of three entries 0 or 1; the entries of the lists of an iteration.
-- Assumes nothing.
use Rattle.integers.proofs.Prelude.{◌≡◌, refl, ◌∙◌, Bool, true, false, cond, List, ℕ, zero, suc, ◌+◌, ◌*◌, ◌/◌, ◌%◌, ◌≤◌, ◌<◌}
use Rattle.integers.proofs.Prelude.{arith, dec_lt, ne_eqb, eqb, ℤ, pos, nat_abs, neg_ℤ, ◌*ℤ◌, get_or-eq_default}
use lib.ListN.{replicate}
use Rattle.integers.proofs.Linear.{abs_mul}
use Rattle.lists.specs.Tabulated.{tab}
use Rattle.lists.proofs.Tabulated.{length_tab, get_or_tab}
use Rattle.quotient.specs.Quotient.{unit}
use Rattle.model.specs.Splitting.{System, blank}
use Rattle.model.specs.Iteration.{at, value_at, row, sign, sum_at, renewed, renewed_at, rows_of}

pub four : (P : ℕ → Type 0) → P 0 → P 1 → P 2 → P 3 → (r : ℕ) → r < 4 → P r
four P a b c d zero h = a
four P a b c d (suc zero) h = b
four P a b c d (suc (suc zero)) h = c
four P a b c d (suc (suc (suc zero))) h = d
four P a b c d (suc (suc (suc (suc r)))) h = absurd (omega arith)

pub three : (P : ℕ → Type 0) → P 0 → P 1 → P 2 → (p : ℕ) → p < 3 → P p
three P a b c p h = four (λ i. i < 3 → P i) (λ _. a) (λ _. b) (λ _. c) (λ l. absurd (omega arith)) p (omega arith) h

pub two : (P : ℕ → Type 0) → P 0 → P 1 → (b : ℕ) → b < 2 → P b
two P x y zero h = x
two P x y (suc zero) h = y
two P x y (suc (suc b)) h = absurd (omega arith)

pub eight : (P : ℕ → ℕ → ℕ → Type 0) → P 0 0 0 → P 0 0 1 → P 0 1 0 → P 0 1 1 → P 1 0 0 → P 1 0 1 → P 1 1 0 → P 1 1 1
    → (a b c : ℕ) → a < 2 → b < 2 → c < 2 → P a b c
eight P s t u v w x y z a b c ha hb hc =
    two (λ a. P a b c)
    (two (λ b. P 0 b c) (two (P 0 0) s t c hc) (two (P 0 1) u v c hc) b hb)
    (two (λ b. P 1 b c) (two (P 1 0) w x c hc) (two (P 1 1) y z c hc) b hb) a ha

pub even_cases : (P : ℕ → ℕ → ℕ → Type 0) → P 0 0 0 → P 0 1 1 → P 1 0 1 → P 1 1 0
    → (a b c : ℕ) → a < 2 → b < 2 → c < 2 → (a + b + c) % 2 ≡ 0 → P a b c
even_cases P p q r s =
    eight (λ a b c. (a + b + c) % 2 ≡ 0 → P a b c)
    (λ _. p) (λ e. absurd (omega arith)) (λ e. absurd (omega arith)) (λ _. q)
    (λ e. absurd (omega arith)) (λ _. r) (λ _. s) (λ e. absurd (omega arith))

pub sign_one : (r p : ℕ) → r < 4 → p < 3 → nat_abs (sign r p) ≡ 1
unfolding sign
sign_one r p h l =
    four (λ r. (p : ℕ) → p < 3 → nat_abs (sign r p) ≡ 1)
    (three (λ p. nat_abs (sign 0 p) ≡ 1) refl refl refl)
    (three (λ p. nat_abs (sign 1 p) ≡ 1) refl refl refl)
    (three (λ p. nat_abs (sign 2 p) ≡ 1) refl refl refl)
    (three (λ p. nat_abs (sign 3 p) ≡ 1) refl refl refl)
    r h p l

pub signed_abs : (r p : ℕ) (x : ℤ) → r < 4 → p < 3 → nat_abs (sign r p *ℤ x) ≡ nat_abs x
signed_abs r p x h l = abs_mul (sign r p) x ∙ rw (sign_one r p h l) (omega arith)

-- an entry of a tabulated list is the function's, or 0 past the end
pub at_tab : (P : ℤ → Type 0) (n : ℕ) (f : ℕ → ℤ) (i : ℕ) → (i < n → P (f i)) → P (pos 0) → P (at (tab n f) i)
at_tab P n f i h z = by (dec_lt i n)
  where
    by : Dec (i < n) → P (at (tab n f) i)
    by (yes l) = rw (get_or_tab n f i (pos 0) l) (h l)
    by (no l) = let e : at (tab n f) i ≡ pos 0 = get_or-eq_default (tab n f) (pos 0) (omega (arith, length_tab n f)) in rw e z

pub none : (n i : ℕ) → at (replicate n (pos 0)) i ≡ pos 0
none zero i = refl
none (suc n) zero = refl
none (suc n) (suc i) = none n i

-- row r of triple t, renewed
pub renewed_at_lem : (ts : List ℕ) (s c : List ℤ) (t r : ℕ) → r < 4 → renewed_at ts s c (4 * t + r) ≡ renewed (row s t r) (sum_at ts c t r)
renewed_at_lem ts s c t r l =
    let d : (4 * t + r) / 4 ≡ t = omega arith in
    let m : (4 * t + r) % 4 ≡ r = omega arith in
    rw (d, m)

pub row_renewed : (g : System) (s c : List ℤ) (t r : ℕ) → t < g.triples → r < 4 → row (rows_of g s c) t r ≡ renewed (row s t r) (sum_at g.members c t r)
unfolding rows_of
row_renewed g s c t r h l =
    get_or_tab (4 * g.triples) (renewed_at g.members s c) (4 * t + r) (pos 0) (omega arith) ∙ renewed_at_lem g.members s c t r l

-- ---- the value of a member
pub value_variable : (c : List ℤ) (v : ℕ) → v < blank → value_at c v ≡ at c v
value_variable c v h = rw (ne_eqb v blank (λ e. omega arith))

pub value_small : (c : List ℤ) (v : ℕ) → nat_abs (at c v) ≤ unit → nat_abs (value_at c v) ≤ unit
value_small c v h = by (eqb v blank)
  where
    by : (t : Bool) → nat_abs (cond t (neg_ℤ (pos unit)) (at c v)) ≤ unit
    by true = omega arith
    by false = h
