-- `sides::row_degrees` meets its contract: the degrees of the checks so far, and their sum. Assumes nothing.
use Rattle.integers.proofs.Prelude.{◌≡◌, List, ℕ, ◌*◌, ◌≤◌, map, length}
use Rattle.lists.specs.Tabulated.{written}
use Rattle.lists.specs.Entries.{total}
use Rattle.model.specs.Limits.{most_degree}
use Rattle.reader.proofs.Done.{Done}
use Rattle.sides.proofs.row_degrees.Given as goal

pub record Degrees (j sum : ℕ) (old degrees : List ℕ) (checks : List (List ℕ)) : Type 0 where
  pub count : j ≡ length checks
  pub entries : degrees ≡ written (map length checks) old
  pub total_is : sum ≡ total length checks
  pub most : sum ≤ most_degree * j

abbrev pub invariant-loop-j : goal.invariant-loop-j
invariant-loop-j l = Done l.code.checks l.j-iterator.iter (Degrees l.j-iterator.count l.sum l.initial.degrees l.degrees)
