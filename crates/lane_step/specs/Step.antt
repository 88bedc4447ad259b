-- One iteration in lanes. Definitions only.
use Rattle.std.specs.Prelude.{Bool, false, ◌||◌, List, ◌≡◌, ℕ, ◌+◌, ℤ, pos, ◌*ℤ◌, get_or}
use Rattle.lists.specs.Tabulated.{tab}
use Rattle.model.specs.Code.{Code}
use Rattle.model.specs.Splitting.{System}
use Rattle.model.specs.Iteration.{at, sum_of}
use Rattle.model.specs.Bounds.{RowsWithin}
use Rattle.lanes.specs.declared.Plan.{Plan}
use Rattle.lanes.specs.Lanes.{lane_rows, lane_sums, lane_weighed, Raised, SumsKept}
use Rattle.lane_values.specs.Valued.{WeighedWithin}

-- a frame runs, by its mark, in one of the four lanes from l on
abbrev pub runs : List Bool → ℕ → Bool
runs running f = get_or running f false

abbrev pub some_run : List Bool → ℕ → Bool
some_run running l = runs running l || (runs running (l + 1) || (runs running (l + 2) || runs running (l + 3)))

-- the system of the code k that the plan's sizes and the triples ts make
abbrev pub system_for : Code → Plan → List ℕ → System
system_for k p ts = record { code = k; variables = p.variables; triples = p.triples; members = ts }

-- lane l has the costs of its frame
abbrev pub Weighed : Plan → ℕ → List ℤ → List ℤ → ℕ → Type 0
Weighed p W costs w l = (v : ℕ) → lane_weighed p w l v ≡ pos W *ℤ at costs v

-- list i has the sums over the rows that lane l has
abbrev pub Summed : Plan → List ℕ → ℕ → List ℤ → ℕ → Type 0
Summed p ts i w l = lane_sums p i w l ≡ tab p.variables (sum_of ts p.triples (lane_rows p w l))

-- the numbers of lane l, n iterations being done, are small enough for one more
pub record Small (p : Plan) (counts : List ℕ) (n : ℕ) (w : List ℤ) (l : ℕ) : Type 0 where
  pub rows : RowsWithin n (lane_rows p w l)
  pub first : SumsKept p counts 0 w l
  pub second : SumsKept p counts 1 w l
  pub values : Raised p w l
  pub weighed : WeighedWithin p w l
