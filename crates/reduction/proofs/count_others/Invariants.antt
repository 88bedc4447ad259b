-- `count_others` meets its contract: the others among the columns so far. Assumes nothing.
use Rattle.integers.proofs.Prelude.{◌≡◌, ◌≤◌, take}
use Rattle.model.specs.Encoding.{others}
use Rattle.reduction.specs.Table.{columns_in}
use Rattle.reduction.proofs.count_others.Given as goal

abbrev pub invariant-loop-column : goal.invariant-loop-column
invariant-loop-column l =
    (l.count ≤ l.column) × (l.count ≡ others (take l.column (columns_in l.bits l.rows)))
