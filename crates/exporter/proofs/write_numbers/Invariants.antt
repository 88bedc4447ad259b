-- `exporter::write_numbers` meets its contract: the numbers so far.
use Rattle.integers.proofs.Prelude.{take}
use Rattle.text.specs.Wrote.{Wrote}
use Rattle.exporter.specs.Lines.{spaced}
use Rattle.exporter.proofs.write_numbers.Given as goal

abbrev pub invariant-loop-number : goal.invariant-loop-number
invariant-loop-number l = Wrote (spaced (take l.number-index l.numbers)) l.fn.text l.text
