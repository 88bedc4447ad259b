-- `layout::load` meets its contract. Assumes nothing.
use Rattle.integers.proofs.Prelude.{◌*◌, rules}
use Rattle.layout.proofs.Entries.{four_read}
use Rattle.layout.proofs.load.Goals as goal

pub returns : goal.returns
returns c =
    four_read c.args.rows.now (4 * c.args.t) (search rules) (search rules) (search rules) (search rules)
