-- `rows::renewed_rows` meets its contract. Assumes nothing.
use Rattle.integers.proofs.Prelude.{arith, w32}
use Rattle.integers.proofs.Machine.{read_back}
use Rattle.model.specs.Iteration.{at, renewed}
use Rattle.rows.proofs.Four.{four_are}
use Rattle.rows.proofs.renewed_rows.Goals as goal

pub returns : goal.returns
returns c =
    four_are (λ r. renewed (at c.args.s r) (at c.args.sums r)) _ _ _ _
    (read_back w32 c.renewed_row.type_inv c.renewed_row.ensures)
    (read_back w32 c.renewed_row-2.type_inv c.renewed_row-2.ensures)
    (read_back w32 c.renewed_row-3.type_inv c.renewed_row-3.ensures)
    (read_back w32 c.renewed_row-4.type_inv c.renewed_row-4.ensures)

pub renewed_row-requires : goal.renewed_row-requires
renewed_row-requires c = (omega arith, c.requires.0 _, c.requires.1 _)

pub renewed_row-requires-2 : goal.renewed_row-requires-2
renewed_row-requires-2 c = (omega arith, c.requires.0 _, c.requires.1 _)

pub renewed_row-requires-3 : goal.renewed_row-requires-3
renewed_row-requires-3 c = (omega arith, c.requires.0 _, c.requires.1 _)

pub renewed_row-requires-4 : goal.renewed_row-requires-4
renewed_row-requires-4 c = (omega arith, c.requires.0 _, c.requires.1 _)
