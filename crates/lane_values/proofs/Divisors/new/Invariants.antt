-- `lane_values::Divisors::new` meets its contract: the divisors below `count` are made ready. Assumes nothing.
use Rattle.integers.proofs.Prelude.{◌≡◌, ℕ, ◌*◌, ◌≤◌, ◌<◌, length}
use Rattle.model.specs.Iteration.{at, divisor}
use Rattle.lane_values.proofs.Divisors.new.Given as goal

abbrev pub invariant-loop-count : goal.invariant-loop-count
invariant-loop-count l = (length l.narrow ≡ 9) × ((c : ℕ) → c < l.count → 2 ≤ c → at l.narrow c ≡ divisor (4 * c) l.ratio)
