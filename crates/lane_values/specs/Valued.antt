-- What c of the variables is worked out from in lanes, and what is written. Definitions only.
use Rattle.std.specs.Prelude.{List, ◌≡◌, ℕ, ◌+◌, ◌-◌, ◌*◌, ◌≤◌, ◌<◌, ℤ, pos, neg_ℤ, nat_abs, ◌+ℤ◌, ◌*ℤ◌, length, get_or}
use Rattle.quotient.specs.Quotient.{unit, quotient}
use Rattle.model.specs.Limits.{most_checks, most_weight, most_cost}
use Rattle.model.specs.Iteration.{at, divisor}
use Rattle.lanes.specs.declared.Plan.{Plan}
use Rattle.lanes.specs.Lanes.{in_lane, values_at, sums_at, weighed_at, lane_sum, lane_weighed, most_narrow}

-- entry c of the list is the divisor of variables in c triples, A being the ratio: from 2 to 8
abbrev pub NarrowTables : ℕ → List ℤ → Type 0
NarrowTables A narrow = (c : ℕ) → 2 ≤ c → c ≤ most_narrow → at narrow c ≡ divisor (4 * c) A

-- the variables from..to are in as many triples as v
abbrev pub Same : List ℕ → ℕ → ℕ → ℕ → Type 0
Same counts v from to = (u : ℕ) → from ≤ u → u < to → get_or counts u 0 ≡ get_or counts v 0

-- the counts of the variables: an auxiliary is in two triples
pub record Counted (p : Plan) (counts : List ℕ) : Type 0 where
  pub long : length counts ≡ p.variables
  pub some : (v : ℕ) → v < p.variables → 1 ≤ get_or counts v 0
  pub few : (v : ℕ) → v < p.variables → get_or counts v 0 ≤ most_checks
  pub auxiliaries : (v : ℕ) → p.bits ≤ v → v < p.variables → get_or counts v 0 ≡ 2

-- W × L of each bit in lane l is a product of numbers in their ranges
abbrev pub WeighedWithin : Plan → List ℤ → ℕ → Type 0
WeighedWithin p w l = (v : ℕ) → nat_abs (lane_weighed p w l v) ≤ most_weight * most_cost

-- c of variable v, from list i of the sums of lane l
abbrev pub lane_value : Plan → List ℕ → ℕ → ℕ → List ℤ → ℕ → ℕ → ℤ
lane_value p counts A i w l v = quotient (neg_ℤ (pos 256 *ℤ lane_sum p i w l v +ℤ lane_weighed p w l v)) (divisor (4 * get_or counts v 0) A)

-- lane l of w and then of w': every c is written from list i of the sums, and the other list is cleared; the rest stays
pub record LaneValued (p : Plan) (counts : List ℕ) (A i : ℕ) (w w' : List ℤ) (l : ℕ) : Type 0 where
  pub rows : (j : ℕ) → j < values_at p → in_lane p.lanes w' l j ≡ in_lane p.lanes w l j
  pub values : (v : ℕ) → v < p.variables → in_lane p.lanes w' l (values_at p + v) ≡ lane_value p counts A i w l v +ℤ pos unit
  pub sums : (j : ℕ) → j < p.variables + p.bits → in_lane p.lanes w' l (sums_at p i + j) ≡ in_lane p.lanes w l (sums_at p i + j)
  pub cleared : (j : ℕ) → j < p.variables + p.bits → in_lane p.lanes w' l (sums_at p (1 - i) + j) ≡ pos 0
  pub weighed : (b : ℕ) → b < p.bits → in_lane p.lanes w' l (weighed_at p + b) ≡ in_lane p.lanes w l (weighed_at p + b)
