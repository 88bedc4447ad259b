-- `lane_values::write_auxiliaries` meets its contract: the entries below i are stored. Assumes nothing.
use Rattle.integers.proofs.Prelude.{[], ◌∷◌, ◌-◌, ◌≤◌}
use Rattle.lane_values.specs.Stored.{Stored}
use Rattle.lane_values.specs.Places.{auxiliary_value}
use Rattle.lane_values.proofs.write_auxiliaries.Given as goal

abbrev pub invariant-loop-i : goal.invariant-loop-i
invariant-loop-i l = (l.from ≤ l.i) × (l.i ≤ l.to)
    × Stored 2 (l.values ∷ l.next ∷ l.sums ∷ []) (auxiliary_value l.initial.work l.sums l.narrow) l.from l.i l.initial.work l.work

abbrev pub decreases-loop-i : goal.decreases-loop-i
decreases-loop-i l = l.to - l.i
