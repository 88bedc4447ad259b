-- `sums::give_group` meets its contract: after b fours of the group the sums are those of t + 4b triples. Assumes nothing.
use Rattle.integers.proofs.Prelude.{List, ℕ, ◌+◌, ◌-◌, ◌*◌, ◌≤◌, ℤ}
use Rattle.sums.specs.Shares.{Summed, Group}
use Rattle.sums.proofs.give_group.Given as goal

abbrev pub invariant-loop-b : goal.invariant-loop-b
invariant-loop-b l = (l.b ≤ l.n) × ((ts : List ℕ) (N t : ℕ) (s : List ℤ) → Summed ts N t s l.initial.sums → Group ts s t (4 * l.n) l.members l.shares → Summed ts N (t + 4 * l.b) s l.sums)

abbrev pub decreases-loop-b : goal.decreases-loop-b
decreases-loop-b l = l.n - l.b
