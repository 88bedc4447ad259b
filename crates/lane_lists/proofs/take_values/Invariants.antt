-- `lane_lists::take_values` meets its contract: after v turns the first v values are the lane's. Assumes nothing.
use Rattle.integers.proofs.Prelude.{◌≡◌, ◌+◌, ◌≤◌, pos, ◌-ℤ◌, length}
use Rattle.lists.specs.Tabulated.{over}
use Rattle.quotient.specs.Quotient.{unit}
use Rattle.lanes.specs.Lanes.{in_lane, values_at}
use Rattle.lane_lists.proofs.take_values.Given as goal

abbrev pub invariant-loop-v : goal.invariant-loop-v
invariant-loop-v l = (l.v ≤ length l.initial.values) × (l.values ≡ over l.v (λ u. in_lane l.p.lanes l.work l.l (values_at l.p + u) -ℤ pos unit) l.initial.values)
