-- How large the numbers of a run get, and by how much what they are kept in is larger. Statements only; the proofs are in proofs/Bounds.antt.
use Rattle.std.specs.Prelude.{◌≡◌, List, ℕ, suc, ◌*◌, ◌^◌, ◌≤◌, ◌<◌, ℤ, pos, nat_abs, length, ◌≤ℤ◌, ◌<ℤ◌}
use Rattle.lists.specs.Tabulated.{tab}
use Rattle.quotient.specs.Quotient.{unit, most_divisor, quotient}
use Rattle.model.specs.declared.Settings.{Settings}
use Rattle.model.specs.Limits.{most_checks, most_triples, most_weight, most_ratio, most_iterations, most_cost}
use Rattle.model.specs.Limits.{most_slack, most_multiplier, most_row, most_sum, most_numerator}
use Rattle.model.specs.Code.{Code}
use Rattle.model.specs.Splitting.{System, Members}
use Rattle.model.specs.Iteration.{at, multiplier, slack, occurrences, numerator, divisor, State, iterate}
use Rattle.model.specs.Run.{changes}

-- "So s never leaves −65,536 .. 32,768 × K": after n iterations
pub record RowsWithin (n : ℕ) (s : List ℤ) : Type 0 where
  pub multipliers : (i : ℕ) → multiplier (at s i) ≤ most_multiplier n
  pub slacks : (i : ℕ) → slack (at s i) ≤ most_slack

-- what an accepted code, settings and costs bring along: n variables, and T triples with the members ts
pub record Ready (n : ℕ) (ts : List ℕ) (T : ℕ) (o : Settings) (costs : List ℤ) : Type 0 where
  pub some : (v : ℕ) → v < n → 1 ≤ occurrences ts T v
  pub few : (v : ℕ) → v < n → occurrences ts T v ≤ most_checks
  pub bits : length costs ≤ n
  pub triples : T ≤ most_triples
  pub weight : o.weight ≤ most_weight
  pub ratio : o.ratio ≤ most_ratio
  pub cost : (v : ℕ) → nat_abs (at costs v) ≤ most_cost

-- the system of k that lent lists hold: T triples, and as many variables as there are values
abbrev pub system_in : Code → List ℕ → ℕ → List ℤ → System
system_in k ts T c = record { code = k; variables = length c; triples = T; members = ts }

-- lists that a run can work in: triples and their counts, costs, S, c and s, each as long as their system asks
pub record Lent (o : Settings) (ts counts : List ℕ) (costs : List ℤ) (T : ℕ) (S c s : List ℤ) : Type 0 where
  pub members : 3 * T ≡ length ts
  pub sums : length S ≡ length c
  pub rows : 4 * T ≡ length s
  pub below : Members ts (length c)
  pub counted : counts ≡ tab (length c) (occurrences ts T)
  pub ready : Ready (length c) ts T o costs

-- one iteration, n being done
pub record Bounds (g : System) (o : Settings) (costs : List ℤ) (n : ℕ) (a : State) : Type 0 where
  pub divisor_least : (v : ℕ) → v < g.variables → pos 0 <ℤ divisor (4 * occurrences g.members g.triples v) o.ratio
  pub divisor_most : (v : ℕ) → v < g.variables → divisor (4 * occurrences g.members g.triples v) o.ratio ≤ℤ pos most_divisor
  pub sums : n < most_iterations → (v : ℕ) → nat_abs (at (iterate quotient g o costs a).sums v) ≤ most_sum
  pub numerators : n < most_iterations → (v : ℕ) → nat_abs (numerator o.weight (at (iterate quotient g o costs a).sums v) (at costs v)) ≤ most_numerator
  pub values : (v : ℕ) → nat_abs (at (iterate quotient g o costs a).values v) ≤ unit
  pub rows : RowsWithin (suc n) (iterate quotient g o costs a).rows
  pub multiplier_total : changes multiplier g.triples a.rows (iterate quotient g o costs a).rows ≤ 2 ^ 47
  pub slack_total : changes slack g.triples a.rows (iterate quotient g o costs a).rows ≤ 2 ^ 47

-- s is kept in 32 bits with a sign, as is a triple's share of S, of four rows; S and the numerators in 64. They leave at least these factors unused.
pub record Margins : Type 0 where
  pub row : 16 * most_row < 2 ^ 31
  pub share : 4 * (4 * most_row) < 2 ^ 31
  pub sum : 2 ^ 23 * most_sum < 2 ^ 63
  pub numerator : 2 ^ 15 * most_numerator < 2 ^ 63
