-- How the totals of the changes grow, and how they tell whether a frame settles. Definitions only.
use Rattle.std.specs.Prelude.{Bool, true, false, ◌&&◌, List, ◌≡◌, ℕ, ◌+◌, ◌*◌, ◌≤◌, ◌<◌, leb, ℤ, pos, negsuc, nat_abs, get_or}
use Rattle.integers.specs.Sum.{sum_ℕ}
use Rattle.model.specs.Limits.{most_row}
use Rattle.model.specs.Causes.{◌if◌}
use Rattle.model.specs.Iteration.{at}
use Rattle.rows.specs.Sides.{change_of}
use Rattle.lanes.specs.declared.Plan.{Plan}
use Rattle.lanes.specs.Lanes.{Fits, lane_rows}
use Rattle.lane_renewal.specs.declared.Totals.{Totals}
use Rattle.lane_triples.specs.Walk.{new_rows, Walked, SameBeside}

-- by the totals of lane l, "If neither total exceeds X, the run stops, settled": 1, otherwise 0
abbrev pub settled_in : ℕ → Totals → ℕ → ℕ
settled_in X t l = 1 if (leb (get_or t.multipliers l 0) X && leb (get_or t.slacks l 0) X)

-- ---- while rows are counted
-- what a row adds to the total of one side of lane l: it stood at i + l in `before`, and stands at j + l in w
abbrev pub row_change : ℤ → List ℤ → ℕ → List ℤ → ℕ → ℕ → ℕ
row_change side before i w j l = change_of side (at before (i + l)) (at w (j + l))

-- what n rows add: the first stands at the beginning of `before`, and at i in w
abbrev pub rows_change : ℤ → List ℤ → List ℤ → ℕ → ℕ → ℕ → ℕ → ℕ
rows_change side before w i L n l = sum_ℕ n (λ r. row_change side before (L * r) w (i + L * r) l)

-- a row that may be compared with another
abbrev pub Comparable : ℤ → ℤ → Type 0
Comparable a b = (nat_abs a ≤ most_row) × (nat_abs b ≤ most_row)

-- in the lanes from..to: totals that are at most u, and totals that grow by f, of each side
pub record AtMost (from to u : ℕ) (t : Totals) : Type 0 where
  pub multipliers : (l : ℕ) → from ≤ l → l < to → get_or t.multipliers l 0 ≤ u
  pub slacks : (l : ℕ) → from ≤ l → l < to → get_or t.slacks l 0 ≤ u

pub record Grown (from to : ℕ) (f : ℤ → ℕ → ℕ) (t t' : Totals) : Type 0 where
  pub multipliers : (l : ℕ) → from ≤ l → l < to → get_or t'.multipliers l 0 ≡ get_or t.multipliers l 0 + f (pos 1) l
  pub slacks : (l : ℕ) → from ≤ l → l < to → get_or t'.slacks l 0 ≡ get_or t.slacks l 0 + f (negsuc 0) l

-- no frame in the lanes from..to runs of which no total exceeds X
abbrev pub NoneWithin : ℕ → List Bool → Totals → ℕ → ℕ → Type 0
NoneWithin X running t from to =
    (l : ℕ) → from ≤ l → l < to → get_or running l false ≡ true → get_or t.multipliers l 0 ≤ X → get_or t.slacks l 0 ≤ X → ⊥

-- ---- the lanes from..to, which stood in w, when t triples are renewed and counted
-- the total of one side of lane l
abbrev pub lane_changes : ℤ → Plan → List ℕ → List ℤ → ℕ → ℕ → ℕ
lane_changes side p ts w l t = sum_ℕ (4 * t) (λ j. change_of side (at (lane_rows p w l) j) (at (new_rows p ts w l) j))

pub record Counted (p : Plan) (ts counts : List ℕ) (i from to : ℕ) (w : List ℤ) (t : ℕ) (w' : List ℤ) (totals : Totals) : Type 0 where
  pub few : t ≤ p.triples
  pub fits : Fits p w'
  pub walked : (l : ℕ) → from ≤ l → l < to → Walked p ts counts i w l t w'
  pub beside : SameBeside p from to w w'
  pub of_multipliers : (l : ℕ) → from ≤ l → l < to → get_or totals.multipliers l 0 ≡ lane_changes (pos 1) p ts w l t
  pub of_slacks : (l : ℕ) → from ≤ l → l < to → get_or totals.slacks l 0 ≡ lane_changes (negsuc 0) p ts w l t
