-- `places::window_width` meets its contract: the width is one of a window. Assumes nothing.
use Rattle.integers.proofs.Prelude.{◌-◌, ◌≤◌}
use Rattle.places.specs.Counters.{most_counters}
use Rattle.places.proofs.window_width.Given as goal

abbrev pub invariant-loop-width : goal.invariant-loop-width
invariant-loop-width l = (1 ≤ l.width) × (l.width ≤ most_counters)

abbrev pub decreases-loop-width : goal.decreases-loop-width
decreases-loop-width l = most_counters - l.width
