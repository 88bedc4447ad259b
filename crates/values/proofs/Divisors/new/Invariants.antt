-- `values::Divisors::new` meets its contract: the first i entries are their divisors. Assumes nothing.
use Rattle.integers.proofs.Prelude.{◌≡◌, ℕ, suc, ◌*◌, ◌<◌, length}
use Rattle.model.specs.Iteration.{at, divisor}
use Rattle.values.proofs.Divisors.new.Given as goal

abbrev pub invariant-loop-i : goal.invariant-loop-i
invariant-loop-i l = (length l.prepared ≡ 31) × ((j : ℕ) → j < l.i → at l.prepared j ≡ divisor (4 * suc j) l.ratio)
