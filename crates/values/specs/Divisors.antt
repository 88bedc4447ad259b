-- The divisors of an iteration, made ready. Definitions only.
use Rattle.std.specs.Prelude.{◌≡◌, List, ℕ, suc, ◌*◌, ◌<◌, ℤ, length}
use Rattle.model.specs.Iteration.{at, divisor}

-- entry i of the n is the divisor of the variables that lie in i + 1 triples, A being the ratio
pub record PreparedFor (A n : ℕ) (divisors : List ℤ) : Type 0 where
  pub long : length divisors ≡ n
  pub each : (i : ℕ) → i < n → at divisors i ≡ divisor (4 * suc i) A
