-- `exporter::write_lists` meets its contract: the lines of the lists so far.
use Rattle.integers.proofs.Prelude.{◌≡◌, take}
use Rattle.lists.specs.Entries.{sum}
use Rattle.text.specs.Wrote.{Wrote}
use Rattle.exporter.specs.Lines.{filled_text}
use Rattle.exporter.proofs.write_lists.Given as goal

abbrev pub invariant-loop-degree : goal.invariant-loop-degree
invariant-loop-degree l = (l.first ≡ sum (take l.degree-index l.degrees)) × Wrote (filled_text l.most (take l.degree-index l.degrees) l.entries) l.fn.text l.text
