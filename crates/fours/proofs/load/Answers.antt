-- `fours::load` meets its contract. Assumes nothing.
use Rattle.integers.proofs.Prelude.{rules}
use Rattle.layout.proofs.Entries.{four_read}
use Rattle.fours.proofs.load.Goals as goal

pub returns : goal.returns
returns c =
    four_read c.args.l.now c.args.i (search rules) (search rules) (search rules) (search rules)
