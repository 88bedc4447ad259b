-- The first numbers of the columns are counted down, block by block.
use Rattle.integers.proofs.Prelude.{◌≡◌, ◌-◌, min, length, take}
use Rattle.lists.specs.Entries.{sum}
use Rattle.places.specs.Counters.{in_columns, More}
use Rattle.places.proofs.Blocks.{Reached}
use Rattle.places.proofs.columns_down.Given as goal

abbrev pub invariant-loop-done : goal.invariant-loop-done
invariant-loop-done l =
    More (in_columns l.window l.most 0 (take (min l.done l.total) l.initial.numbers)) l.counters l.initial.counters
    × (l.left ≡ sum l.counters) × Reached l.initial.numbers l.total l.done l.numbers × (length l.values ≡ 64)

abbrev pub decreases-loop-done : goal.decreases-loop-done
decreases-loop-done l = l.total - l.done
