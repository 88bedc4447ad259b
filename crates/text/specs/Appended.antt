-- Text that is written piece by piece. Definitions only.
use Rattle.std.specs.Prelude.{◌≡◌, List, ◌++◌, ℕ, ◌+◌, ◌≤◌, length, take, drop}

-- `text` was put into a list from `at` on, and ends before `next`; the other entries stay
pub record Appended (at : ℕ) (text before after : List ℕ) (next : ℕ) : Type 0 where
  pub list : after ≡ take at before ++ (text ++ drop (at + length text) before)
  pub ends : next ≡ at + length text
  pub fits : next ≤ length before
