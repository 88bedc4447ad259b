-- `lane_lists::put_costs` meets its contract: after b turns the first b costs stand in the lane, and nothing else has changed. Assumes nothing.
use Rattle.integers.proofs.Prelude.{◌≡◌, List, ℕ, ◌+◌, ◌≤◌, ◌<◌, ℤ, pos, ◌*ℤ◌, length}
use mathlib.Core.Logic.{◌≢◌}
use Rattle.model.specs.Iteration.{at}
use Rattle.lanes.specs.Lanes.{in_lane, weighed_at, Fits}
use Rattle.lane_lists.proofs.put_costs.Given as goal

-- of L lanes, lane l has W times the first b costs from entry `first` on
pub record Put (L l first W : ℕ) (costs w₀ w : List ℤ) (b : ℕ) : Type 0 where
  pub here : (k : ℕ) → k < b → in_lane L w l (first + k) ≡ pos W *ℤ at costs k
  pub before : (j : ℕ) → j < first → in_lane L w l j ≡ in_lane L w₀ l j
  pub others : (m j : ℕ) → m < L → m ≢ l → in_lane L w m j ≡ in_lane L w₀ m j

abbrev pub invariant-loop-b : goal.invariant-loop-b
invariant-loop-b l = (l.b ≤ length l.costs) × Fits l.p l.work × Put l.p.lanes l.l (weighed_at l.p) l.weight l.costs l.initial.work l.work l.b
