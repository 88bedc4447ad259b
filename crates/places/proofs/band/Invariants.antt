-- Columns and rows agree in the windows so far, and all counters are 0.
use Rattle.integers.proofs.Prelude.{◌≡◌, ◌-◌, ◌*◌, min, length, drop}
use Rattle.numbers.specs.Sides.{lists_in}
use Rattle.places.specs.Counters.{most_counters, Agrees, Zeros}
use Rattle.places.proofs.band.Given as goal

abbrev pub invariant-loop-left : goal.invariant-loop-left
invariant-loop-left l =
    Agrees (record { top = l.top; height = l.height; left = 0; width = min l.left l.all }) l.most l.rows l.column_most (lists_in l.columns)
    × (l.lists ≡ drop (min l.left l.all * l.column_most) (lists_in l.columns)) × (length l.counters ≡ most_counters) × Zeros l.counters

abbrev pub decreases-loop-left : goal.decreases-loop-left
decreases-loop-left l = l.all - l.left
