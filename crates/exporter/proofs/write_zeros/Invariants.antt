-- `exporter::write_zeros` meets its contract: the zeros so far.
use lib.ListN.{replicate}
use Rattle.text.specs.Appended.{Appended}
use Rattle.exporter.specs.Lines.{spaced}
use Rattle.exporter.proofs.write_zeros.Given as goal

abbrev pub invariant-loop : goal.invariant-loop
invariant-loop l = Appended l.fn.text.written (spaced (replicate l.counter 0)) l.fn.text.bytes.now l.bytes l.next
