-- Tests and sums of a list's entries, and the first index that passes a test. Definitions only.
use Rattle.std.specs.Prelude.{Bool, true, false, cond, ◌&&◌, ◌||◌, List, [], ◌∷◌, ℕ, zero, suc, ◌+◌}

-- each entry passes
abbrev pub every : {A : Type 0} → (A → Bool) → List A → Bool
every f [] = true
every f (x ∷ l) = f x && every f l

-- some entry passes
abbrev pub some : {A : Type 0} → (A → Bool) → List A → Bool
some f [] = false
some f (x ∷ l) = f x || some f l

-- P holds of each entry
abbrev pub Each : {A : Type 0} → (A → Type 0) → List A → Type 0
Each P [] = Unit {0}
Each P (x ∷ l) = P x × Each P l

-- the sum of f over the entries
abbrev pub total : {A : Type 0} → (A → ℕ) → List A → ℕ
total f [] = 0
total f (x ∷ l) = f x + total f l

-- of numbers
abbrev pub sum : List ℕ → ℕ
sum l = total (λ x. x) l

-- the lowest index below n that passes, or n
abbrev pub first : ℕ → (ℕ → Bool) → ℕ
first zero f = zero
first (suc n) f = cond (f zero) zero (suc (first n (λ i. f (suc i))))
