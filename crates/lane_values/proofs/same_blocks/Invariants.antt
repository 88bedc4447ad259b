-- `lane_values::same_blocks` meets its contract: the variables below u are in as many triples as v. Assumes nothing.
use Rattle.integers.proofs.Prelude.{◌-◌, ◌≤◌, ◌<◌}
use Rattle.lane_values.specs.Valued.{Same}
use Rattle.lane_values.proofs.same_blocks.Given as goal

abbrev pub invariant-loop-u : goal.invariant-loop-u
invariant-loop-u l = (l.v < l.u) × (l.u ≤ l.end) × Same l.counts l.v l.v l.u

abbrev pub decreases-loop-u : goal.decreases-loop-u
decreases-loop-u l = l.end - l.u
