-- Document 01, 'Splitting a check', and document 02, L6. Definitions only.
use Rattle.std.specs.Prelude.{List, [], ◌∷◌, ◌++◌, ◌⊎◌, ◌≡◌, ℕ, zero, suc, ◌+◌, ◌-◌, ◌*◌, ◌≤◌, ◌<◌, length, get_or, take, drop, replicate}
use Rattle.model.specs.Code.{Code, turns, triples, variables}

-- The triples of the queue q, three entries each, a being the next auxiliary: "take the first two, make the next auxiliary, record the
-- triple (first, second, auxiliary), and put the auxiliary at the back"; "The last three, front to back, are the last triple."
unfoldable pub queue : ℕ → List ℕ → ℕ → List ℕ
queue zero q a = q
queue (suc n) q a = take 2 q ++ (a ∷ queue n (drop 2 q ++ (a ∷ [])) (suc a))

-- document 02, L6: "a blank, index 0xFFFF in the list"; no variable has this index
abbrev pub blank : ℕ
blank = 0xFFFF

-- what waits at first: "the check's bits … in rising order", and behind two bits "in third place a blank"
abbrev pub waiting : List ℕ → List ℕ
waiting c = c ++ replicate (3 - length c) blank

-- the triples of the check c
abbrev pub triples_of : List ℕ → ℕ → List ℕ
triples_of c a = queue (turns c) (waiting c) a

-- "Checks go in record order"
unfoldable pub triples_from : List (List ℕ) → ℕ → List ℕ
triples_from [] a = []
triples_from (c ∷ cs) a = triples_of c a ++ triples_from cs (a + turns c)

-- what a run needs of a code: the code, how many variables and triples, and the three members of each triple: variables, or two and the blank
pub record System : Type 0 where
  pub code : Code
  pub variables : ℕ
  pub triples : ℕ
  pub members : List ℕ

-- "auxiliaries are numbered n, n + 1, on"
unfoldable pub system_of : Code → System
system_of k = record { code = k; variables = variables k; triples = triples k; members = triples_from k.checks k.bits }

-- the variable, or the blank, at position p of triple t
abbrev pub member : List ℕ → ℕ → ℕ → ℕ
member ts t p = get_or ts (3 * t + p) 0

-- every entry of a list names one of n variables
abbrev pub Named : List ℕ → ℕ → Type 0
Named l n = (i : ℕ) → i < length l → get_or l i 0 < n

-- a list of triples of n variables, which the blank is none of: only a third place may have it
pub record Members (ts : List ℕ) (n : ℕ) : Type 0 where
  pub few : n ≤ blank
  pub first : (t : ℕ) → 3 * t + 2 < length ts → member ts t 0 < n
  pub second : (t : ℕ) → 3 * t + 2 < length ts → member ts t 1 < n
  pub third : (t : ℕ) → 3 * t + 2 < length ts → (member ts t 2 < n) ⊎ (member ts t 2 ≡ blank)
