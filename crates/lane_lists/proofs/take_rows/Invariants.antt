-- `lane_lists::take_rows` meets its contract: after i turns the first i rows are the lane's. Assumes nothing.
use Rattle.integers.proofs.Prelude.{◌≡◌, ◌≤◌, length}
use Rattle.lists.specs.Tabulated.{over}
use Rattle.lanes.specs.Lanes.{in_lane}
use Rattle.lane_lists.proofs.take_rows.Given as goal

abbrev pub invariant-loop-i : goal.invariant-loop-i
invariant-loop-i l = (l.i ≤ length l.initial.rows) × (l.rows ≡ over l.i (in_lane l.p.lanes l.work l.l) l.initial.rows)
