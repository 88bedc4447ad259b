-- `lines::write_word` meets its contract: the opening, the bits, a line feed. Assumes nothing.
use Rattle.text.proofs.Wrote.{then}
use Rattle.lines.proofs.write_word.Goals as goal

pub returns : goal.returns
returns c = then c.write_opening.ensures.text (then c.write_bits.ensures c.byte.ensures)
