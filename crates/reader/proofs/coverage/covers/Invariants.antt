use Rattle.reader.proofs.Marks.{Left}
use Rattle.reader.proofs.coverage.covers.Given as goal

abbrev pub invariant-loop-check : goal.invariant-loop-check
invariant-loop-check l = Left l.fn.checks l.check-iterator l.seen
