-- `records::after_header` meets its contract. Assumes nothing.
use Rattle.lists.proofs.Parts.{part_from}
use Rattle.records.proofs.after_header.Goals as goal

pub returns : goal.returns
returns c = part_from 6 c.args.code.now
