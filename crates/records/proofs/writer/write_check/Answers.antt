-- `writer::write_check` meets its contract: the mark, the degree, the indices. Assumes nothing.
use Rattle.model.specs.Records.{record_of}
use Rattle.text.proofs.Wrote.{then}
use Rattle.records.proofs.writer.write_check.Goals as goal

pub returns : goal.returns
unfolding record_of
returns c = then (then c.write_two_bytes.ensures c.byte.ensures) c.write_indices.ensures
