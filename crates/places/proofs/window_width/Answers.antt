-- `places::window_width` meets its contract: the width is one of a window. Assumes nothing.
use Rattle.integers.proofs.Prelude.{arith}
use native.Mathlib.Nat.{le-div_iff_mul-le}
use Rattle.places.specs.Counters.{most_counters}
use Rattle.places.proofs.window_width.Goals as goal

pub nonzero_div-columns : goal.nonzero_div-columns
nonzero_div-columns c = (le-div_iff_mul-le {x = 1} {y = most_counters} c.loop-width.invariant.0).1 (omega (arith, c.loop-width.invariant.1))
