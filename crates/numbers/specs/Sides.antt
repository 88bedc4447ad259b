-- The numbers of a side's texts. Definitions only.
use Rattle.std.specs.Prelude.{List, ℕ}
use Rattle.model.specs.Alist.{numbers_of}
use Rattle.numbers.specs.declared.Side.{Side}

-- from its degrees on, and from its lists on
abbrev pub degrees_in : Side → List ℕ
degrees_in side = numbers_of 0 side.degrees.now

abbrev pub lists_in : Side → List ℕ
lists_in side = numbers_of 0 side.lists.now

-- a side by its numbers
pub record Numbered : Type 0 where
  pub count : ℕ
  pub most : ℕ
  pub degrees : List ℕ
  pub lists : List ℕ

abbrev pub numbered : Side → Numbered
numbered side = record { count = side.count; most = side.most; degrees = degrees_in side; lists = lists_in side }
