-- So many numbers of the block are counted.
use Rattle.integers.proofs.Prelude.{◌≡◌, ◌≤◌, length, take}
use Rattle.lists.specs.Entries.{sum}
use Rattle.places.specs.Counters.{in_columns, More}
use Rattle.places.proofs.Counting.{Stands}
use Rattle.places.proofs.count_down.Given as goal

abbrev pub invariant-loop-value : goal.invariant-loop-value
invariant-loop-value l = More (in_columns (record { top = l.top; height = l.height; left = 0; width = l.width }) l.most l.first (take l.value-index l.values)) l.counters l.initial.counters × (l.left ≡ sum l.counters)
    × Stands l.first l.value-index l.most 1 l.column l.i × (l.value-index ≤ length l.values)
