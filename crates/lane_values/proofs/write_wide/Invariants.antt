-- `lane_values::write_wide` meets its contract: the entries below i are stored. Assumes nothing.
use Rattle.integers.proofs.Prelude.{◌+◌, ◌-◌, ◌*◌, ◌≤◌}
use Rattle.model.specs.Iteration.{divisor}
use Rattle.lane_values.specs.Stored.{Stored}
use Rattle.lane_values.specs.Places.{wide_value, wide_parts}
use Rattle.lane_values.proofs.write_wide.Given as goal

abbrev pub invariant-loop-i : goal.invariant-loop-i
invariant-loop-i l = (l.from ≤ l.i) × (l.i ≤ l.to)
    × Stored 3 (wide_parts l.values l.next l.sums l.apart l.weighed) (wide_value l.initial.work l.sums (l.sums + l.apart) l.weighed (divisor (4 * l.count) l.divisors)) l.from l.i l.initial.work l.work

abbrev pub decreases-loop-i : goal.decreases-loop-i
decreases-loop-i l = l.to - l.i
