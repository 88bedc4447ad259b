-- `lane_lists::take_sums` meets its contract: after v turns the first v sums are the lane's. Assumes nothing.
use Rattle.integers.proofs.Prelude.{◌≡◌, ◌≤◌, length}
use Rattle.lists.specs.Tabulated.{over}
use Rattle.lanes.specs.Lanes.{lane_sum}
use Rattle.lane_lists.proofs.take_sums.Given as goal

abbrev pub invariant-loop-v : goal.invariant-loop-v
invariant-loop-v l = (l.v ≤ length l.initial.sums) × (l.sums ≡ over l.v (lane_sum l.p l.i l.work l.l) l.initial.sums)
