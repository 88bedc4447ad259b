-- How the reader finds a bit in no check: an entry for each bit, not 0 once a check with the bit was read. Definitions only.
use Rattle.std.specs.Prelude.{◌≡◌, Bool, not, ◌||◌, List, ℕ, ◌<◌, eqb, length, get_or}
use Rattle.lists.specs.Tabulated.{tab}
use Rattle.lists.specs.Entries.{every, some}

abbrev pub marked : List ℕ → ℕ → Bool
marked seen b = not (eqb (get_or seen b 0) 0)

-- each of the first n entries has a mark
unfoldable pub all_marked : List ℕ → ℕ → Bool
all_marked seen n = every (marked seen) (tab n (λ b. b))

-- `after` has what `before` had, and the bits of a check
pub record Marks (check before after : List ℕ) : Type 0 where
  pub long : length after ≡ length before
  pub each : (b : ℕ) → b < length before → marked after b ≡ (some (eqb b) check || marked before b)
