-- `sides::column_degrees` meets its contract: the degrees among the checks so far. Assumes nothing.
use Rattle.integers.proofs.Prelude.{◌≡◌}
use Rattle.reader.proofs.Done.{Done}
use Rattle.sides.proofs.Columns.{degrees_of}
use Rattle.sides.proofs.column_degrees.Given as goal

abbrev pub invariant-loop-check : goal.invariant-loop-check
invariant-loop-check l = Done l.code.checks l.check-iterator (λ done. l.degrees ≡ degrees_of l.code.bits done)
