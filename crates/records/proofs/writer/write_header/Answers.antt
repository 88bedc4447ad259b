-- `writer::write_header` meets its contract: the mark, the bits, the checks. Assumes nothing.
use Rattle.text.proofs.Wrote.{then}
use Rattle.records.proofs.writer.write_header.Goals as goal

pub returns : goal.returns
returns c = then (then c.write_two_bytes.ensures c.write_two_bytes-2.ensures) c.write_two_bytes-3.ensures
