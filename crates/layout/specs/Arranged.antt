-- Lists whose entries stand in another order. Definitions only.
use Rattle.std.specs.Prelude.{List, ◌≡◌, ℕ, ◌<◌, ℤ}
use Rattle.lists.specs.Tabulated.{tab}
use Rattle.model.specs.Iteration.{at}

-- f takes the numbers below n to one another, each to its own, and g takes them back
pub record Permutation (n : ℕ) (f g : ℕ → ℕ) : Type 0 where
  pub below : (i : ℕ) → i < n → f i < n
  pub below_back : (i : ℕ) → i < n → g i < n
  pub back : (i : ℕ) → i < n → g (f i) ≡ i
  pub forth : (i : ℕ) → i < n → f (g i) ≡ i

-- n entries of l: entry i is the one that stands at f i
abbrev pub arranged : ℕ → (ℕ → ℕ) → List ℤ → List ℤ
arranged n f l = tab n (λ i. at l (f i))
