-- `reduction::clear` meets its contract: the columns before j, and what the row makes of the others, are the whole. Assumes nothing.
use Rattle.integers.proofs.Prelude.{◌≡◌, ◌++◌, ◌≤◌, length, take, drop}
use lib.Seq.{slice}
use Rattle.model.specs.Limits.{most_encoded_bits}
use Rattle.model.specs.Encoding.{cleared}
use Rattle.reduction.specs.Table.{columns_in}
use Rattle.reduction.proofs.clear.Given as goal

abbrev pub invariant-loop-j : goal.invariant-loop-j
invariant-loop-j l = (l.rows ≡ l.initial.rows) × (l.j ≤ l.bits) × (length l.row ≡ most_encoded_bits)
    × (take l.j (columns_in l.bits l.initial.rows) ++ cleared (drop l.j (columns_in l.bits l.initial.rows)) (slice l.j l.bits l.row) ≡ cleared (columns_in l.bits l.initial.rows) (take l.bits l.initial.row))
