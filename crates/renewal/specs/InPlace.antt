-- Rows that are renewed as they stand while a run goes. Definitions only.
use Rattle.std.specs.Prelude.{Bool, true, cond, not, List, ◌≡◌, ℕ, ◌+◌, ◌-◌, ◌*◌, ◌/◌, ◌%◌, ◌≤◌, ◌<◌, ltb, eqb, ℤ, pos, negsuc, nat_abs, length}
use Rattle.integers.specs.Sum.{sum_ℕ}
use Rattle.lists.specs.Entries.{every}
use Rattle.lists.specs.Tabulated.{tab}
use Rattle.quotient.specs.Quotient.{unit}
use Rattle.model.specs.Limits.{most_triples, most_done, most_slack, most_multiplier}
use Rattle.model.specs.Splitting.{blank, member, Members}
use Rattle.model.specs.Iteration.{at, row, value_at, sum_at, multiplier, slack, renewed, renewed_at}
use Rattle.rows.specs.Sides.{change_of}
use Rattle.layout.specs.Transposed.{cell, place, straight}

-- lists of exactly T triples: their variables, and their rows
abbrev pub Sized : ℕ → List ℕ → List ℤ → Type 0
Sized T ts s = (T ≤ most_triples) × (3 * T ≡ length ts) × (4 * T ≡ length s)

-- every variable of the triples has a value, and no value exceeds U
abbrev pub Valued : List ℕ → List ℤ → Type 0
Valued ts c = Members ts (length c) × ((v : ℕ) → nat_abs (at c v) ≤ unit)

-- none of the first T triples has the blank, which only a third place may have
abbrev pub without_blank : List ℕ → ℕ → Bool
without_blank ts T = every (λ t. not (eqb (member ts t 2) blank)) (tab T (λ t. t))

-- where it is known that there is no blank, there is none
abbrev pub Known : Bool → List ℕ → Type 0
Known known ts = known ≡ true → (t : ℕ) → 3 * t + 2 < length ts → member ts t 2 ≡ blank → ⊥

-- l has c in third place of the four triples from t on, none above U
abbrev pub Thirds : List ℕ → List ℤ → ℕ → List ℤ → Type 0
Thirds ts c t l = (l ≡ tab 4 (λ k. value_at c (member ts (t + k) 2))) × ((k : ℕ) → nat_abs (at l k) ≤ unit)

-- a row that may be renewed once more
abbrev pub SmallRow : ℤ → Type 0
SmallRow z = (multiplier z ≤ most_multiplier most_done) × (slack z ≤ most_slack)

-- ---- the squares of the changes of one side: of the rows of a triple, and of four
abbrev pub triple_changes : ℤ → List ℤ → List ℤ → ℕ
triple_changes side old new = sum_ℕ 4 (λ r. change_of side (at old r) (at new r))

abbrev pub four_changes : ℤ → List (List ℤ) → List (List ℤ) → ℕ
four_changes side old new = sum_ℕ 4 (λ k. sum_ℕ 4 (λ r. change_of side (cell old k r) (cell new k r)))

-- the four triples from t on, whose rows stand transposed in s, renewed with the values c
abbrev pub renewed_four : List ℕ → List ℤ → List ℤ → ℕ → List (List ℤ)
renewed_four ts s c t = tab 4 (λ k. tab 4 (λ r. renewed (row s (t + r) k) (sum_at ts c (t + k) r)))

-- ---- the rows of T triples, which stand in s
-- entry i, renewed with the values c
abbrev pub renewed_in : ℕ → List ℕ → List ℤ → List ℤ → ℕ → ℤ
renewed_in T ts s c i = renewed (at s i) (sum_at ts c (place T i / 4) (place T i % 4))

-- all of them, in the order of document 01
abbrev pub renewed_all : ℕ → List ℕ → List ℤ → List ℤ → List ℤ
renewed_all T ts s c = tab (4 * T) (renewed_at ts (straight T s) c)

-- a list of their rows of which the entries from triple t on are yet to be renewed
pub record Left (T t : ℕ) (s : List ℤ) : Type 0 where
  pub long : length s ≡ 4 * T
  pub small : (i : ℕ) → 4 * t ≤ i → SmallRow (at s i)

module _ (T : ℕ) (ts : List ℕ) (c : List ℤ) where
  -- what the list will be when they are renewed
  abbrev pub renewed_from : ℕ → List ℤ → List ℤ
  renewed_from t s = tab (4 * T) (λ i. cond (ltb i (4 * t)) (at s i) (renewed_in T ts s c i))

  -- what they will add to the total of one side
  abbrev pub changes_from : ℤ → ℕ → List ℤ → ℕ
  changes_from side t s = sum_ℕ (4 * T - 4 * t) (λ j. change_of side (at s (4 * t + j)) (renewed_in T ts s c (4 * t + j)))

  -- From t triples done to u: what the list and the totals will be in the end stays the same.
  pub record Renewed (t u : ℕ) (s s' : List ℤ) (multipliers multipliers' slacks slacks' : ℕ) : Type 0 where
    pub left : Left T u s'
    pub rows : renewed_from u s' ≡ renewed_from t s
    pub of_multipliers : multipliers' + changes_from (pos 1) u s' ≡ multipliers + changes_from (pos 1) t s
    pub of_slacks : slacks' + changes_from (negsuc 0) u s' ≡ slacks + changes_from (negsuc 0) t s
