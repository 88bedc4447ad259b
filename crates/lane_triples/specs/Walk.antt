-- The walk through the triples in lanes. Definitions only.
use Rattle.std.specs.Prelude.{List, ◌⊎◌, ◌≡◌, ℕ, ◌+◌, ◌-◌, ◌*◌, ◌≤◌, ◌<◌, ℤ, pos, nat_abs, ◌-ℤ◌, length, get_or}
use Rattle.lists.specs.Tabulated.{tab}
use Rattle.quotient.specs.Quotient.{unit}
use Rattle.model.specs.Limits.{most_done}
use Rattle.model.specs.Splitting.{blank, member, Members}
use Rattle.model.specs.Iteration.{renewed_at, sum_of, occurrences}
use Rattle.model.specs.Bounds.{RowsWithin}
use Rattle.lanes.specs.declared.Plan.{Plan}
use Rattle.lanes.specs.Lanes.{in_lane, values_at, sums_at, weighed_at, lane_rows, lane_values, lane_sum, low_part, high_part, Kept, most_narrow}

-- the triples of the plan's code, and their counts: only a bit may be in more triples than a sum without a high part takes
pub record Tripled (p : Plan) (ts counts : List ℕ) : Type 0 where
  pub long : length ts ≡ 3 * p.triples
  pub named : Members ts p.variables
  pub counted : counts ≡ tab p.variables (occurrences ts p.triples)
  pub auxiliaries : (v : ℕ) → p.bits ≤ v → v < p.variables → get_or counts v 0 ≤ most_narrow

-- where it is known that all is narrow: no triple has the blank, and no variable needs a high part
pub record Narrow (p : Plan) (ts counts : List ℕ) : Type 0 where
  pub blank_none : (t : ℕ) → t < p.triples → member ts t 2 ≡ blank → ⊥
  pub counts_few : (v : ℕ) → v < p.variables → get_or counts v 0 ≤ most_narrow

-- the lanes from `from` to `to` are one four or two
pub record Halves (p : Plan) (from to : ℕ) : Type 0 where
  pub first : (from ≡ 0) ⊎ (from ≡ 4)
  pub last : (to ≡ 4) ⊎ (to ≡ 8)
  pub some : from < to
  pub room : to ≤ p.lanes

-- lane l of w, before its rows are renewed: rows that may be renewed once more, values that are raised by U, and no sums yet in list i
pub record Due (p : Plan) (i : ℕ) (w : List ℤ) (l : ℕ) : Type 0 where
  pub within : RowsWithin most_done (lane_rows p w l)
  pub values : (v : ℕ) → v < p.variables → nat_abs (in_lane p.lanes w l (values_at p + v) -ℤ pos unit) ≤ unit
  pub cleared : (j : ℕ) → j < p.variables + p.bits → in_lane p.lanes w l (sums_at p i + j) ≡ pos 0

-- the rows of lane l of w, renewed
abbrev pub new_rows : Plan → List ℕ → List ℤ → ℕ → List ℤ
new_rows p ts w l = tab (4 * p.triples) (renewed_at ts (lane_rows p w l) (lane_values p w l))

-- lane l, which stood in w, when t triples are done: their rows are renewed, and list i has the sums over them
pub record Walked (p : Plan) (ts counts : List ℕ) (i : ℕ) (w : List ℤ) (l t : ℕ) (w' : List ℤ) : Type 0 where
  pub done : (j : ℕ) → j < 4 * t → in_lane p.lanes w' l j ≡ renewed_at ts (lane_rows p w l) (lane_values p w l) j
  pub left : (j : ℕ) → 4 * t ≤ j → j < 4 * p.triples → in_lane p.lanes w' l j ≡ in_lane p.lanes w l j
  pub values : (v : ℕ) → v < p.variables → in_lane p.lanes w' l (values_at p + v) ≡ in_lane p.lanes w l (values_at p + v)
  pub sums : (v : ℕ) → v < p.variables → lane_sum p i w' l v ≡ sum_of ts t (new_rows p ts w l) v
  pub kept : (v : ℕ) → v < p.variables → Kept (get_or counts v 0) (occurrences ts t v) (low_part p i w' l v) (high_part p i w' l v)
  pub others : (j : ℕ) → j < p.variables + p.bits → in_lane p.lanes w' l (sums_at p (1 - i) + j) ≡ in_lane p.lanes w l (sums_at p (1 - i) + j)
  pub weighed : (b : ℕ) → b < p.bits → in_lane p.lanes w' l (weighed_at p + b) ≡ in_lane p.lanes w l (weighed_at p + b)

-- the lanes from..to, which stood in w, when t triples are done
abbrev pub InWalk : Plan → List ℕ → List ℕ → ℕ → List ℤ → ℕ → ℕ → ℕ → List ℤ → Type 0
InWalk p ts counts i w from to t w' = (l : ℕ) → from ≤ l → l < to → Due p i w l × Walked p ts counts i w l t w'

-- w' is w in the other lanes
abbrev pub SameBeside : Plan → ℕ → ℕ → List ℤ → List ℤ → Type 0
SameBeside p from to w w' = (l j : ℕ) → l < p.lanes → (l < from) ⊎ (to ≤ l) → in_lane p.lanes w' l j ≡ in_lane p.lanes w l j

-- what stays the same through a walk: `values` and `next` are where the values and list i of the sums begin
pub record Course (p : Plan) (ts counts : List ℕ) (i values next : ℕ) : Type 0 where
  pub tripled : Tripled p ts counts
  pub list : i ≤ 1
  pub at_values : values ≡ p.lanes * values_at p
  pub at_sums : next ≡ p.lanes * sums_at p i

-- a walk that there is, in the lanes from..to of w₀: t triples are done
abbrev pub Begun : Plan → List ℕ → List ℕ → ℕ → ℕ → ℕ → ℕ → ℕ → List ℤ → Type 0
Begun p ts counts values next from to t w₀ = (i : ℕ) × (w : List ℤ) × Course p ts counts i values next × InWalk p ts counts i w from to t w₀

-- every walk that had t triples done in w₀ has u done in w₁
abbrev pub Walks : Plan → List ℕ → List ℕ → ℕ → ℕ → ℕ → ℕ → ℕ → ℕ → List ℤ → List ℤ → Type 0
Walks p ts counts values next from to t u w₀ w₁ = (i : ℕ) (w : List ℤ) → Course p ts counts i values next → InWalk p ts counts i w from to t w₀ → InWalk p ts counts i w from to u w₁
