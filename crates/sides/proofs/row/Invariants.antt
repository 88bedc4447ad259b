-- `sides::row` meets its contract: the bits of the check so far. Assumes nothing.
use Rattle.integers.proofs.Prelude.{map, suc, ◌+◌, take}
use Rattle.text.specs.Appended.{Appended}
use Rattle.sides.proofs.row.Given as goal

abbrev pub invariant-loop-i : goal.invariant-loop-i
invariant-loop-i l = Appended l.at (map suc (take l.i l.check)) l.initial.entries l.entries (l.at + l.i)
