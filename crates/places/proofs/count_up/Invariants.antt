-- So many numbers of the block are counted.
use Rattle.integers.proofs.Prelude.{◌≡◌, ◌+◌, ◌≤◌, length, take}
use Rattle.lists.specs.Entries.{sum}
use Rattle.places.specs.Counters.{in_rows, More}
use Rattle.places.proofs.Counting.{Stands}
use Rattle.places.proofs.count_up.Given as goal

abbrev pub invariant-loop-value : goal.invariant-loop-value
invariant-loop-value l = More (in_rows (record { top = 0; height = 0; left = l.left; width = l.width }) l.most l.first (take l.value-index l.values)) l.initial.counters l.counters
    × (sum l.counters ≡ sum l.initial.counters + l.open) × (l.open ≤ l.value-index) × Stands l.first l.value-index l.most l.width l.row l.i × (l.value-index ≤ length l.values)
