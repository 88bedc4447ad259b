-- `layout::column` meets its contract. Assumes nothing.
use Rattle.integers.proofs.Prelude.{w32}
use Rattle.integers.proofs.Machine.{param}
use Rattle.model.specs.Limits.{most_row}
use Rattle.rows.proofs.Four.{four_are}
use Rattle.layout.specs.Transposed.{cell}
use Rattle.layout.proofs.column.Goals as goal

pub returns : goal.returns
returns c =
    let q = c.args.q in
    let j = c.args.j in
    four_are (λ k. cell q k j) _ _ _ _
    (param w32 (cell q 0 j) most_row tt (c.requires.1 0 j)).is
    (param w32 (cell q 1 j) most_row tt (c.requires.1 1 j)).is
    (param w32 (cell q 2 j) most_row tt (c.requires.1 2 j)).is
    (param w32 (cell q 3 j) most_row tt (c.requires.1 3 j)).is
