-- Parts of one list, that loops read and write entry by entry. Definitions only.
use Rattle.std.specs.Prelude.{List, [], ◌∷◌, ◌≡◌, ℕ, zero, suc, ◌+◌, ◌≤◌, ◌<◌, ℤ, pos, length, get_or}
use Rattle.lists.specs.Entries.{Each}
use Rattle.model.specs.Iteration.{at}

-- parts of n entries that begin at a and at b have none in common
abbrev pub Apart : ℕ → ℕ → ℕ → Type 0
Apart n a b = (j k : ℕ) → j < n → k < n → a + j ≡ b + k → ⊥

-- nor have any two of such parts
abbrev pub AllApart : ℕ → List ℕ → Type 0
AllApart n [] = Unit {0}
AllApart n (a ∷ parts) = Each (Apart n a) parts × AllApart n parts

-- where parts of n entries begin, in a list of `size` entries
pub record Parts (n size : ℕ) (parts : List ℕ) : Type 0 where
  pub ends : Each (λ a. a + n ≤ size) parts
  pub apart : AllApart n parts

-- what becomes of entry i of part q, where the first part is written and others are cleared
abbrev pub stored : (ℕ → ℤ) → ℕ → ℕ → ℤ
stored f zero i = f i
stored f (suc q) i = pos 0

-- w and then w': the entries from..to of the first m parts are stored; every other entry stays
pub record Stored (m : ℕ) (parts : List ℕ) (f : ℕ → ℤ) (from to : ℕ) (w w' : List ℤ) : Type 0 where
  pub long : length w' ≡ length w
  pub new : (q i : ℕ) → q < m → from ≤ i → i < to → at w' (get_or parts q 0 + i) ≡ stored f q i
  pub old : (j : ℕ) → ((q i : ℕ) → q < m → from ≤ i → i < to → j ≡ get_or parts q 0 + i → ⊥) → at w' j ≡ at w j
