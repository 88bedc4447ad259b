-- `layout::store` meets its contract. Assumes nothing.
use Rattle.integers.proofs.Prelude.{◌*◌, arith, length-set}
use Rattle.model.specs.Limits.{most_row}
use Rattle.layout.proofs.Entries.{four_stored}
use Rattle.layout.proofs.store.Goals as goal

pub returns : goal.returns
returns c =
    four_stored c.args.rows.now (4 * c.args.t) c.args.s (4 * most_row) tt c.requires.bounded

pub bounds-rows-i-2 : goal.bounds-rows-i-2
bounds-rows-i-2 c = simp length-set (omega arith)

pub bounds-rows-i-3 : goal.bounds-rows-i-3
bounds-rows-i-3 c = simp length-set (omega arith)
