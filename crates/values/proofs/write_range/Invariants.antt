-- `values::write_range` meets its contract: the values below v are written. Assumes nothing.
use Rattle.integers.proofs.Prelude.{◌≡◌, ◌+◌, ◌-◌, ◌≤◌, sets}
use Rattle.lists.specs.Tabulated.{tab}
use Rattle.values.specs.Values.{value_from}
use Rattle.values.proofs.write_range.Given as goal

abbrev pub invariant-loop-v : goal.invariant-loop-v
invariant-loop-v l = (l.from ≤ l.v) × (l.v ≤ l.to) × (l.values ≡ sets l.initial.values l.from (tab (l.v - l.from) (λ i. value_from l.sums l.counts l.costs l.weight l.divisors (l.from + i))))

abbrev pub decreases-loop-v : goal.decreases-loop-v
decreases-loop-v l = l.to - l.v
