-- Columns and rows agree in the bands so far, and all counters are 0.
use Rattle.integers.proofs.Prelude.{◌≡◌, ◌-◌, ◌*◌, min, length, drop}
use Rattle.numbers.specs.Sides.{lists_in}
use Rattle.places.specs.Counters.{most_counters, Agrees, Zeros}
use Rattle.places.proofs.windows_agree.Given as goal

abbrev pub invariant-loop-top : goal.invariant-loop-top
invariant-loop-top l =
    Agrees (record { top = 0; height = min l.top l.count; left = 0; width = l.columns.count }) l.most (lists_in l.rows) l.columns.most (lists_in l.columns)
    × (l.lists ≡ drop (min l.top l.count * l.most) (lists_in l.rows)) × (length l.counters ≡ most_counters) × Zeros l.counters

abbrev pub decreases-loop-top : goal.decreases-loop-top
decreases-loop-top l = l.count - l.top
