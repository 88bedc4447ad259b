-- `sides::column_entries` meets its contract: the columns among the checks so far stand where they begin. Assumes nothing.
use Rattle.integers.proofs.Prelude.{◌≡◌, List, ℕ, length}
use Rattle.model.specs.Limits.{most_bits}
use Rattle.reader.proofs.Done.{Done}
use Rattle.sides.proofs.Sorting.{Sorted}
use Rattle.sides.proofs.Columns.{column}
use Rattle.sides.proofs.column_entries.Given as goal

pub record Columns (all : List (List ℕ)) (n j : ℕ) (old next entries : List ℕ) (checks : List (List ℕ)) : Type 0 where
  pub count : j ≡ length checks
  pub next_long : length next ≡ most_bits
  pub entries_long : length entries ≡ length old
  pub sorted : Sorted n (column all) (column checks) next entries

abbrev pub invariant-loop-j : goal.invariant-loop-j
invariant-loop-j l = Done l.code.checks l.j-iterator.iter (Columns l.code.checks l.code.bits l.j-iterator.count l.initial.entries l.next l.entries)
