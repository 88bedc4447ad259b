-- `exporter::size` meets its contract: the bytes of the numbers so far.
use Rattle.integers.proofs.Prelude.{◌≡◌, ◌*◌, ◌≤◌, take}
use Rattle.lists.specs.Entries.{total}
use Rattle.exporter.proofs.Lines.{field}
use Rattle.exporter.proofs.size.Given as goal

abbrev pub invariant-loop-number : goal.invariant-loop-number
invariant-loop-number l = (l.bytes ≡ total field (take l.number-index l.numbers)) × (l.bytes ≤ 6 * l.number-index)
