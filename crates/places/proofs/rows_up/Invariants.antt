-- The first numbers of the rows are counted, block by block.
use Rattle.integers.proofs.Prelude.{◌≡◌, ◌-◌, ◌≤◌, min, length, take}
use Rattle.lists.specs.Entries.{sum}
use Rattle.places.specs.Counters.{in_rows, More}
use Rattle.places.proofs.Blocks.{Reached}
use Rattle.places.proofs.rows_up.Given as goal

abbrev pub invariant-loop-done : goal.invariant-loop-done
invariant-loop-done l =
    More (in_rows l.window l.most 0 (take (min l.done l.total) l.rows)) l.initial.counters l.counters
    × (sum l.counters ≡ l.«open») × (l.«open» ≤ min l.done l.total) × Reached l.rows l.total l.done l.rest × (length l.values ≡ 64)

abbrev pub decreases-loop-done : goal.decreases-loop-done
decreases-loop-done l = l.total - l.done
