-- `sides::count` meets its contract: the bits so far are counted. Assumes nothing.
use Rattle.integers.proofs.Prelude.{◌≡◌, take}
use Rattle.sides.specs.Columns.{counted}
use Rattle.sides.proofs.count.Given as goal

abbrev pub invariant-loop-i : goal.invariant-loop-i
invariant-loop-i l = l.degrees ≡ counted (take l.i l.check) l.initial.degrees
