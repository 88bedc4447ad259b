-- Four of a kind, or three: an array by its entries, a sum, and the squares of changes. Assumes nothing.
use Rattle.integers.proofs.Prelude.{◌≡◌, refl, ap, ◌∙◌, List, [], ◌∷◌, ℕ, ◌+◌, ◌*◌, ◌≤◌, ◌<◌, arith, ℤ, pos, negsuc, nat_abs, neg_ℤ, ◌-ℤ◌, ◌*ℤ◌}
use native.Mathlib.Nat.{le_refl, mul-le-mul}
use Rattle.integers.specs.Sum.{sum_ℕ}
use Rattle.integers.proofs.Linear.{split, to_ℕ, about, about_neg, abs_mul, abs_difference}
use Rattle.lists.specs.Tabulated.{tab}
use Rattle.model.specs.Limits.{most_row}
use Rattle.model.specs.Iteration.{at, slack, multiplier}
use Rattle.model.proofs.Rows.{at_tab}
use Rattle.rows.specs.Sides.{Rows, change_of}

pub four_are : {A : Type 0} (f : ℕ → A) (a b c d : A) → a ≡ f 0 → b ≡ f 1 → c ≡ f 2 → d ≡ f 3 → a ∷ b ∷ c ∷ d ∷ [] ≡ tab 4 f
four_are f a b c d p q r s = rw (p, q, r, s)

pub three_are : {A : Type 0} (f : ℕ → A) (a b c : A) → a ≡ f 0 → b ≡ f 1 → c ≡ f 2 → a ∷ b ∷ c ∷ [] ≡ tab 3 f
three_are f a b c p q r = rw (p, q, r)

pub sum_four : (f : ℕ → ℕ) (a b c d : ℕ) → a ≡ f 0 → b ≡ f 1 → c ≡ f 2 → d ≡ f 3 → a + b + c + d ≡ sum_ℕ 4 f
sum_four f a b c d p q r s = omega (arith, p, q, r, s)

-- none of four is larger than n
pub small_are : (n : ℕ) (f : ℕ → ℤ) {l : List ℤ} → l ≡ tab 4 f → ((r : ℕ) → r < 4 → nat_abs (f r) ≤ n) → (r : ℕ) → nat_abs (at l r) ≤ n
small_are n f e h r = rw e (at_tab (λ z. nat_abs z ≤ n) 4 f r (h r) (omega arith))

pub rows_are : (f : ℕ → ℤ) → ((r : ℕ) → r < 4 → nat_abs (f r) ≤ most_row) → Rows (tab 4 f)
rows_are f = small_are most_row f refl

-- ---- the square of a change of one side of a row
module _ (side : ℤ) (one : nat_abs side ≤ 1) where
  pub side_small : (z : ℤ) → nat_abs (side *ℤ z) ≤ nat_abs z
  side_small z = rw (abs_mul side z) (omega (arith, mul-le-mul one (le_refl (nat_abs z))))

  -- it is at most what the multiplier may change by
  pub change_small : (x y : ℤ) → (nat_abs x ≤ most_row) × (nat_abs y ≤ most_row) → change_of side x y ≤ most_row * most_row
  change_small x y k =
      let a = side *ℤ x in
      let b = side *ℤ y in
      let d : nat_abs (pos (multiplier b) -ℤ pos (multiplier a)) ≤ most_row
      = abs_difference (multiplier b) (multiplier a) most_row (omega (arith, about b, side_small y)) (omega (arith, about a, side_small x)) in
      mul-le-mul d d

-- side 1 is the multiplier, side −1 the slack
pub side_multiplier : (z : ℤ) → multiplier (pos 1 *ℤ z) ≡ multiplier z
side_multiplier z = let e : pos 1 *ℤ z ≡ z = rw (split z) (simp to_ℕ (omega arith)) in ap multiplier e

pub side_slack : (z : ℤ) → multiplier (negsuc 0 *ℤ z) ≡ slack z
side_slack z = let e : negsuc 0 *ℤ z ≡ neg_ℤ z = rw (split z) (simp to_ℕ (omega arith)) in ap multiplier e ∙ (about_neg z).0
