-- `lines::write_letter` meets its contract: two bytes. Assumes nothing.
use Rattle.text.proofs.Wrote.{then}
use Rattle.lines.proofs.write_letter.Goals as goal

pub returns : goal.returns
returns c = then c.byte.ensures c.byte-2.ensures
