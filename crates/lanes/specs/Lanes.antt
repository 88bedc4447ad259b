-- Where the numbers of a group's frames stand in the work list: each frame has a lane, and the entries of all lanes stand side by side. Definitions only.
use Rattle.std.specs.Prelude.{List, ◌⊎◌, ◌≡◌, ℕ, ◌+◌, ◌*◌, ◌^◌, ◌≤◌, ◌<◌, ltb, ℤ, pos, nat_abs, ◌+ℤ◌, ◌-ℤ◌, ◌*ℤ◌, length, get_or, ◌≤ℤ◌}
use Rattle.lists.specs.Tabulated.{tab}
use Rattle.quotient.specs.Quotient.{unit}
use Rattle.model.specs.Limits.{most_triples, most_variables, most_row}
use Rattle.model.specs.Iteration.{at, ◌when◌, State}
use Rattle.lanes.specs.declared.Plan.{Plan}

-- entry j of lane l, of L lanes
abbrev pub in_lane : ℕ → List ℤ → ℕ → ℕ → ℤ
in_lane L w l j = at w (L * j + l)

-- ---- a lane: the rows; the values; twice the sums of the variables, with the high parts of the bits' sums behind them; W × L of the bits
abbrev pub values_at : Plan → ℕ
values_at p = 4 * p.triples

-- of the two lists of sums, which take turns, the one with the number i
abbrev pub sums_at : Plan → ℕ → ℕ
sums_at p i = 4 * p.triples + p.variables + i * (p.variables + p.bits)

abbrev pub weighed_at : Plan → ℕ
weighed_at p = sums_at p 2

abbrev pub lane_size : Plan → ℕ
lane_size p = weighed_at p + p.bits

-- w is as long as four or eight lanes, and no sum of places in it is too large
pub record Fits (p : Plan) (w : List ℤ) : Type 0 where
  pub lanes : (p.lanes ≡ 4) ⊎ (p.lanes ≡ 8)
  pub triples : p.triples ≤ most_triples
  pub variables : p.variables ≤ most_variables
  pub bits : p.bits ≤ p.variables
  pub long : length w ≡ p.lanes * lane_size p

-- ---- what a lane holds
-- the rows of T triples
abbrev pub lane_rows : Plan → List ℤ → ℕ → List ℤ
lane_rows p w l = tab (4 * p.triples) (in_lane p.lanes w l)

-- c of every variable, which is raised by U
abbrev pub lane_values : Plan → List ℤ → ℕ → List ℤ
lane_values p w l = tab p.variables (λ v. in_lane p.lanes w l (values_at p + v) -ℤ pos unit)

-- each of them, raised, is at least 0 and at most 2U
abbrev pub Raised : Plan → List ℤ → ℕ → Type 0
Raised p w l = (v : ℕ) → v < p.variables → let x = in_lane p.lanes w l (values_at p + v) in (pos 0 ≤ℤ x) × (nat_abs x ≤ 2 * unit)

-- S of variable v, in list i of the two: in two parts where v is a bit
abbrev pub low_part : Plan → ℕ → List ℤ → ℕ → ℕ → ℤ
low_part p i w l v = in_lane p.lanes w l (sums_at p i + v)

abbrev pub high_part : Plan → ℕ → List ℤ → ℕ → ℕ → ℤ
high_part p i w l v = in_lane p.lanes w l (sums_at p i + (p.variables + v)) when ltb v p.bits

abbrev pub lane_sum : Plan → ℕ → List ℤ → ℕ → ℕ → ℤ
lane_sum p i w l v = low_part p i w l v +ℤ pos (2 ^ 14) *ℤ high_part p i w l v

abbrev pub lane_sums : Plan → ℕ → List ℤ → ℕ → List ℤ
lane_sums p i w l = tab p.variables (lane_sum p i w l)

-- W × L of variable v, 0 of an auxiliary
abbrev pub lane_weighed : Plan → List ℤ → ℕ → ℕ → ℤ
lane_weighed p w l v = in_lane p.lanes w l (weighed_at p + v) when ltb v p.bits

-- all of it, the sums being those of list i
abbrev pub lane_state : Plan → ℕ → List ℤ → ℕ → State
lane_state p i w l = record { sums = lane_sums p i w l; values = lane_values p w l; rows = lane_rows p w l }

-- ---- how large its sums are
-- up to so many triples a sum needs no high part
abbrev pub most_narrow : ℕ
most_narrow = 8

-- the two parts of the sum of a variable in c triples, over `some` of them
pub record Kept (c some : ℕ) (low high : ℤ) : Type 0 where
  pub narrow : c ≤ most_narrow → (nat_abs low ≤ some * (2 * most_row)) × (high ≡ pos 0)
  pub wide : most_narrow < c → (nat_abs low ≤ some * 2 ^ 14) × (nat_abs high ≤ some * 2 ^ 14)

-- all sums of list i, by the counts of the variables
abbrev pub SumsKept : Plan → List ℕ → ℕ → List ℤ → ℕ → Type 0
SumsKept p counts i w l = (v : ℕ) → v < p.variables → Kept (get_or counts v 0) (get_or counts v 0) (low_part p i w l v) (high_part p i w l v)
