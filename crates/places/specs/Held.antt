-- The lists of a side of a text. Definitions only.
use Rattle.std.specs.Prelude.{List, ℕ, ◌*◌, ◌≤◌}
use Rattle.model.specs.Limits.{most_number}
use Rattle.model.specs.Alist.{pieces}
use Rattle.numbers.specs.declared.Side.{Side}
use Rattle.numbers.specs.Walked.{Small}
use Rattle.numbers.specs.Sides.{lists_in}

-- they are there, with what fills them, and each number is one of a text
pub record Held (side : Side) : Type 0 where
  pub numbers : Small (side.count * side.most) (lists_in side)
  pub count : side.count ≤ most_number
  pub most : side.most ≤ most_number

abbrev pub lists_of : Side → List (List ℕ)
lists_of side = pieces side.count side.most (lists_in side)
