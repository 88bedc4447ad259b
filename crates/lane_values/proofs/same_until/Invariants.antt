-- `lane_values::same_until` meets its contract: the variables below u are in as many triples as v. Assumes nothing.
use Rattle.integers.proofs.Prelude.{◌≡◌, ℕ, ◌-◌, ◌≤◌, ◌<◌, get_or}
use Rattle.lane_values.proofs.same_until.Given as goal

abbrev pub invariant-loop-u : goal.invariant-loop-u
invariant-loop-u l = (l.v < l.u) × (l.u ≤ l.end) × ((k : ℕ) → k < l.u → l.v ≤ k → get_or l.counts k 0 ≡ get_or l.counts l.v 0)
