use Rattle.integers.proofs.Prelude.{take}
use Rattle.reader.specs.Marks.{Marks}
use Rattle.reader.proofs.coverage.mark.Given as goal

abbrev pub invariant-loop-i : goal.invariant-loop-i
invariant-loop-i l = Marks (take l.i l.check) l.initial.seen l.seen
