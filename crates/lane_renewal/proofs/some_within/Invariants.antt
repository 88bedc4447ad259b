-- `lane_renewal::some_within` meets its contract: where none is found in from..l, there is none. Assumes nothing.
use Rattle.integers.proofs.Prelude.{◌≡◌, false, ◌-◌, ◌≤◌}
use Rattle.lane_renewal.specs.Counting.{NoneWithin}
use Rattle.lane_renewal.proofs.some_within.Given as goal

abbrev pub invariant-loop-l : goal.invariant-loop-l
invariant-loop-l l = (l.from ≤ l.l) × (l.some ≡ false → NoneWithin l.tolerance l.running l.totals l.from l.l)

abbrev pub decreases-loop-l : goal.decreases-loop-l
decreases-loop-l l = l.to - l.l
