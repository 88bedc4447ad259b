-- `writer::write_two_bytes` meets its contract: two bytes, one after the other. Assumes nothing.
use Rattle.text.proofs.Wrote.{then}
use Rattle.records.proofs.writer.write_two_bytes.Goals as goal

pub returns : goal.returns
returns c = then c.byte.ensures c.byte-2.ensures
