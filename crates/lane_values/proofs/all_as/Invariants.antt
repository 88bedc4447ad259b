-- `lane_values::all_as` meets its contract: where all so far are in as many triples as v, the variables below u are. Assumes nothing.
use Rattle.integers.proofs.Prelude.{◌≡◌, true, ℕ, ◌-◌, ◌≤◌, ◌<◌, get_or}
use Rattle.lane_values.proofs.all_as.Given as goal

abbrev pub invariant-loop-u : goal.invariant-loop-u
invariant-loop-u l = (l.from ≤ l.u) × (l.u ≤ l.to) × (l.same ≡ true → (k : ℕ) → k < l.u → l.from ≤ k → get_or l.counts k 0 ≡ get_or l.counts l.v 0)

abbrev pub decreases-loop-u : goal.decreases-loop-u
decreases-loop-u l = l.to - l.u
