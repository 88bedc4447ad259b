-- `stream::write_costs` meets its contract: after i turns the first i costs are written. Assumes nothing.
use Rattle.integers.proofs.Prelude.{◌≡◌, ◌-◌, ◌≤◌}
use Rattle.lists.specs.Tabulated.{over}
use Rattle.stream.proofs.Costs.{cost_at}
use Rattle.stream.proofs.write_costs.Given as goal

abbrev pub invariant-loop-i : goal.invariant-loop-i
invariant-loop-i l = (l.i ≤ l.bits) × (l.costs ≡ over l.i (cost_at l.s) l.initial.costs)

abbrev pub decreases-loop-i : goal.decreases-loop-i
decreases-loop-i l = l.bits - l.i
