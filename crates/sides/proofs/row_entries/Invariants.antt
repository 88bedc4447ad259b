-- `sides::row_entries` meets its contract: the rows so far. Assumes nothing.
use Rattle.text.specs.Appended.{Appended}
use Rattle.reader.proofs.Done.{Done}
use Rattle.sides.proofs.Rows.{rows_of}
use Rattle.sides.proofs.row_entries.Given as goal

abbrev pub invariant-loop-check : goal.invariant-loop-check
invariant-loop-check l = Done l.code.checks l.check-iterator (λ done. Appended 0 (rows_of done) l.initial.entries l.entries l.at)
