-- Rows, and the two sides of a row: with 1 its multiplier, with −1 its slack, which is the multiplier of the row's negative. Definitions only.
use Rattle.std.specs.Prelude.{List, ℕ, ◌*◌, ◌≤◌, ℤ, nat_abs, ◌*ℤ◌}
use Rattle.model.specs.Limits.{most_row}
use Rattle.model.specs.Iteration.{at, multiplier}
use Rattle.model.specs.Run.{square_of_change}

-- rows that a run reaches
abbrev pub Rows : List ℤ → Type 0
Rows s = (r : ℕ) → nat_abs (at s r) ≤ most_row

-- the square of the change of a side, from row a to row b
abbrev pub change_of : ℤ → ℤ → ℤ → ℕ
change_of side a b = square_of_change (multiplier (side *ℤ a)) (multiplier (side *ℤ b))

-- four of them are at most this
abbrev pub most_changes : ℕ
most_changes = 4 * (most_row * most_row)
