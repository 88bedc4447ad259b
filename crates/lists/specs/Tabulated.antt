-- Lists given by their entries. Definitions only.
use Rattle.std.specs.Prelude.{List, [], ◌∷◌, ◌++◌, ℕ, zero, suc, ◌*◌, length, take, drop}

module _ {ℓ} {A : Type ℓ} where
  -- f 0, f 1, .., f (n − 1)
  abbrev pub tab : ℕ → (ℕ → A) → List A
  tab zero f = []
  tab (suc n) f = f zero ∷ tab n (λ k. f (suc k))

  -- the first n entries are f's, the rest is old
  abbrev pub over : ℕ → (ℕ → A) → List A → List A
  over n f old = tab n f ++ drop n old

  -- l, and beyond it what old has there: a lent list after l was written to it
  abbrev pub written : List A → List A → List A
  written l old = l ++ drop (length l) old

  -- part f of a list in which parts of one size stand one behind the other
  abbrev pub part : ℕ → ℕ → List A → List A
  part size f l = take size (drop (f * size) l)

  -- f 0, f 1, .., f (n − 1), one behind the other
  abbrev pub blocks : ℕ → (ℕ → List A) → List A
  blocks zero f = []
  blocks (suc n) f = f zero ++ blocks n (λ k. f (suc k))
