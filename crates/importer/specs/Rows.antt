-- The rows of a text and the code that they are, by the text's sides. Definitions only.
use Rattle.std.specs.Prelude.{◌≡◌, true, List, map, ℕ, ◌-◌, ◌*◌, ltb, length, take}
use Rattle.lists.specs.Entries.{every}
use Rattle.model.specs.Code.{Code}
use Rattle.model.specs.Alist.{pieces, listed}
use Rattle.numbers.specs.declared.Side.{Side}
use Rattle.numbers.specs.Walked.{Small}
use Rattle.numbers.specs.Sides.{degrees_in, lists_in}

-- the indices that the lists of a side name
abbrev pub named_in : Side → List (List ℕ)
named_in side = listed (take side.count (degrees_in side)) (pieces side.count side.most (lists_in side))

-- each list of a side begins with as many indices as its degree says
pub record Sided (side : Side) : Type 0 where
  pub degrees : Small side.count (degrees_in side)
  pub numbers : Small (side.count * side.most) (lists_in side)
  pub lengths : map length (named_in side) ≡ take side.count (degrees_in side)
  pub indices : every (every (ltb 0)) (named_in side) ≡ true

-- the bits of a row: its indices count from 1
abbrev pub lowered : List ℕ → List ℕ
lowered l = map (λ i. i - 1) l

-- the numbers l begin with so many indices
pub record Indexed (l : List ℕ) (degree : ℕ) : Type 0 where
  pub small : Small degree l
  pub above : every (ltb 0) (take degree l) ≡ true

-- the bits that they are
abbrev pub bits_at : List ℕ → ℕ → List ℕ
bits_at l degree = lowered (take degree l)

abbrev pub checks_of : Side → List (List ℕ)
checks_of rows = map lowered (named_in rows)

-- the code of so many bits whose checks are the rows
abbrev pub code_of_rows : ℕ → Side → Code
code_of_rows bits rows = record { bits = bits; checks = checks_of rows }
