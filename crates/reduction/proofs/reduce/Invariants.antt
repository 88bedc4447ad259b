-- `reduce` meets its contract: the checks so far are reduced. Assumes nothing.
use Rattle.integers.proofs.Prelude.{◌≡◌}
use lib.ListN.{replicate}
use Rattle.model.specs.Encoding.{other, reduced_by}
use Rattle.reader.proofs.Done.{Done}
use Rattle.reduction.specs.Table.{columns_in}
use Rattle.reduction.proofs.reduce.Given as goal

abbrev pub invariant-loop-check : goal.invariant-loop-check
invariant-loop-check l =
    Done l.code.checks l.check-iterator (λ done. columns_in l.bits l.rows ≡ reduced_by l.bits done (replicate l.bits other))
