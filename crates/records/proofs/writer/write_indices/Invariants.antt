-- `writer::write_indices` meets its contract: the indices so far are written.
use Rattle.integers.proofs.Prelude.{take}
use Rattle.model.specs.Records.{bytes_of}
use Rattle.text.specs.Wrote.{Wrote}
use Rattle.records.proofs.writer.write_indices.Given as goal

abbrev pub invariant-loop-index : goal.invariant-loop-index
invariant-loop-index l = Wrote (bytes_of (take l.index-index l.indices)) l.fn.out l.out
