-- `sides::place` meets its contract: the number stands at the places of the bits so far. Assumes nothing.
use Rattle.integers.proofs.Prelude.{◌≡◌, take}
use Rattle.sides.specs.Columns.{counted, placed}
use Rattle.sides.proofs.place.Given as goal

abbrev pub invariant-loop-i : goal.invariant-loop-i
invariant-loop-i l =
    (l.next ≡ counted (take l.i l.check) l.initial.next)
    × (l.entries ≡ placed l.j l.initial.next (take l.i l.check) l.initial.entries)
