-- What c of the variables is worked out from. Definitions only.
use Rattle.std.specs.Prelude.{◌≡◌, List, ℕ, ◌*◌, ◌≤◌, ◌<◌, ℤ, nat_abs, length, get_or}
use Rattle.quotient.specs.Quotient.{quotient}
use Rattle.model.specs.Limits.{most_checks, most_cost, most_sum}
use Rattle.model.specs.Iteration.{at, numerator, divisor}

-- c of variable v, by S, the counts of triples, the costs, W and A
abbrev pub value_from : List ℤ → List ℕ → List ℤ → ℕ → ℕ → ℕ → ℤ
value_from sums counts costs W A v = quotient (numerator W (at sums v) (at costs v)) (divisor (4 * get_or counts v 0) A)

-- lists of n variables, with numbers in the ranges that a run keeps
pub record Given (sums : List ℤ) (counts : List ℕ) (costs : List ℤ) (n : ℕ) : Type 0 where
  pub sums_long : length sums ≡ n
  pub counts_long : length counts ≡ n
  pub sum : (v : ℕ) → v < n → nat_abs (at sums v) ≤ most_sum
  pub cost : (v : ℕ) → v < n → nat_abs (at costs v) ≤ most_cost
  pub some : (v : ℕ) → v < n → 1 ≤ get_or counts v 0
  pub few : (v : ℕ) → v < n → get_or counts v 0 ≤ most_checks
