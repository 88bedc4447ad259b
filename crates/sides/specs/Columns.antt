-- How the columns of a code are found: how many checks each bit lies in, where its column stands, and how a check is put into the columns of its bits.
-- Definitions only.
use Rattle.std.specs.Prelude.{cond, List, [], ◌∷◌, ℕ, ◌+◌, ◌≤◌, ◌<◌, eqb, length, get_or, take, set}
use Rattle.lists.specs.Entries.{some, sum}
use Rattle.lists.specs.Tabulated.{tab}

-- ---- the degrees
-- 1 where a check has bit b
abbrev pub has : ℕ → List ℕ → ℕ
has b check = cond (some (eqb b) check) 1 0

-- one more at each bit that a check has
abbrev pub counted : List ℕ → List ℕ → List ℕ
counted check l = tab (length l) (λ b. get_or l b 0 + has b check)

-- no entry is above most
abbrev pub Counted : List ℕ → ℕ → Type 0
Counted l most = (b : ℕ) → b < length l → get_or l b 0 ≤ most

-- ---- the places
-- column b begins where those before it end
abbrev pub start_of : List ℕ → ℕ → ℕ
start_of degrees b = sum (take b degrees)

-- number j at the next place of each bit of a check
abbrev pub placed : ℕ → List ℕ → List ℕ → List ℕ → List ℕ
placed j next [] entries = entries
placed j next (b ∷ check) entries = placed j next check (set entries (get_or next b 0) j)

-- these places are among the entries
abbrev pub Room : List ℕ → List ℕ → List ℕ → Type 0
Room check next entries = (i : ℕ) → i < length check → get_or next (get_or check i 0) 0 < length entries
