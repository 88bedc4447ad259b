-- A side of an alist file as its degrees and the indices of all its lists, one behind the other. Definitions only.
use Rattle.std.specs.Prelude.{◌≡◌, List, [], ◌∷◌, ◌++◌, map, ℕ, ◌≤◌, ◌<◌, length, take, drop}
use Rattle.lists.specs.Tabulated.{written}
use Rattle.lists.specs.Entries.{total, sum}
use Rattle.model.specs.Limits.{most_bits, most_places}
use Rattle.model.specs.Code.{Code}
use Rattle.model.specs.Sound.{Sound}
use Rattle.model.specs.Text.{decimal}
use Rattle.model.specs.Alist.{largest, fill, line_of, text_of}

-- numbers, each with a space behind it
unfoldable pub spaced : List ℕ → List ℕ
spaced [] = []
spaced (x ∷ l) = decimal x ++ (32 ∷ spaced l)

-- the lists, by their degrees
abbrev pub cut : List ℕ → List ℕ → List (List ℕ)
cut [] entries = []
cut (d ∷ degrees) entries = take d entries ∷ cut degrees (drop d entries)

-- a side of an accepted code: as many entries as the degrees say, and one at least
pub record SideLists (degrees entries : List ℕ) : Type 0 where
  pub long : length entries ≡ sum degrees
  pub some : 1 ≤ largest degrees
  pub few : length degrees ≤ most_bits
  pub small : length entries ≤ most_places

-- the lines of the lists, each filled to so many numbers, and to the largest degree
abbrev pub filled_text : ℕ → List ℕ → List ℕ → List ℕ
filled_text most degrees entries = text_of (map (fill most) (cut degrees entries))

abbrev pub lists_text : List ℕ → List ℕ → List ℕ
lists_text degrees entries = filled_text (largest degrees) degrees entries

-- the line of the degrees and those of the lists
abbrev pub side_text : List ℕ → List ℕ → List ℕ
side_text degrees entries = line_of degrees ++ lists_text degrees entries

-- what stands before the lists, by the degrees of the columns and of the rows: both pairs and both lines of degrees
abbrev pub head_text : List ℕ → List ℕ → List ℕ
head_text columns rows =
    line_of (length columns ∷ length rows ∷ []) ++ (line_of (largest columns ∷ largest rows ∷ []) ++ (line_of columns ++ line_of rows))

-- lists for the sides of a sound code: a number for each bit, the degrees of the checks, and a number for each place
pub record Lists (k : Code) (columns rows entries : List ℕ) : Type 0 where
  pub sound : Sound k
  pub bits : length columns ≡ k.bits
  pub degrees : rows ≡ map length k.checks
  pub places : length entries ≡ total length k.checks

-- a text of r bytes is written to the list old where it fits, and old becomes new
pub record Fitted (text old new : List ℕ) (r : ℕ) : Type 0 where
  pub bytes : r ≡ length text
  pub whole : r ≤ length old → new ≡ written text old
  pub none : length old < r → new ≡ old
