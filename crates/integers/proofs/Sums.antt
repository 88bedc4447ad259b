-- Sums over a range. Assumes nothing.
use mathlib.Core.Logic.{◌≢◌}
use Rattle.integers.proofs.Prelude.{◌≡◌, refl, sym, ap₂, ℕ, zero, suc, ◌+◌, ◌*◌, ◌≤◌, ◌<◌, arith, dec_lt, ℤ, pos, nat_abs, neg_ℤ, ◌+ℤ◌, ◌*ℤ◌}
use native.Mathlib.Nat.{add-zero, add-suc}
use lib.IntN.{+ℤ_idr, +ℤ_assoc}
use Rattle.integers.specs.Sum.{sum_ℕ, sum_ℤ}
use Rattle.integers.proofs.Linear.{split, to_ℕ, abs_add}

-- ---- of natural numbers
pub sum_ℕ_same : (n : ℕ) (f g : ℕ → ℕ) → ((k : ℕ) → k < n → f k ≡ g k) → sum_ℕ n f ≡ sum_ℕ n g
sum_ℕ_same zero f g h = refl
sum_ℕ_same (suc n) f g h = ap₂ ◌+◌ (sum_ℕ_same n f g (λ k l. h k (omega arith))) (h n (omega arith))

pub sum_ℕ_add : (n : ℕ) (f g : ℕ → ℕ) → sum_ℕ n (λ k. f k + g k) ≡ sum_ℕ n f + sum_ℕ n g
sum_ℕ_add zero f g = refl
sum_ℕ_add (suc n) f g = rw (sum_ℕ_add n f g) (omega arith)

pub sum_ℕ_first : (n : ℕ) (f : ℕ → ℕ) → sum_ℕ (suc n) f ≡ f 0 + sum_ℕ n (λ k. f (suc k))
sum_ℕ_first zero f = omega arith
sum_ℕ_first (suc n) f = rw (sum_ℕ_first n f) (omega arith)

pub sum_ℕ_split : (m n : ℕ) (f : ℕ → ℕ) → sum_ℕ (m + n) f ≡ sum_ℕ m f + sum_ℕ n (λ k. f (m + k))
sum_ℕ_split m zero f = rw (add-zero m) (omega arith)
sum_ℕ_split m (suc n) f = rw (add-suc m n, sum_ℕ_split m n f) (omega arith)

pub sum_ℕ_scale : (n c : ℕ) (f : ℕ → ℕ) → sum_ℕ n (λ k. c * f k) ≡ c * sum_ℕ n f
sum_ℕ_scale zero c f = omega arith
sum_ℕ_scale (suc n) c f = rw (sum_ℕ_scale n c f) (omega arith)

pub sum_ℕ_zero : (n : ℕ) (f : ℕ → ℕ) → ((k : ℕ) → k < n → f k ≡ 0) → sum_ℕ n f ≡ 0
sum_ℕ_zero zero f h = refl
sum_ℕ_zero (suc n) f h = rw (sum_ℕ_zero n f (λ k l. h k (omega arith)), h n (omega arith))

pub sum_ℕ_bound : (n u : ℕ) (f : ℕ → ℕ) → ((k : ℕ) → k < n → f k ≤ u) → sum_ℕ n f ≤ n * u
sum_ℕ_bound zero u f h = omega arith
sum_ℕ_bound (suc n) u f h = omega (arith, sum_ℕ_bound n u f (λ k l. h k (omega arith)), h n (omega arith))

-- one term alone counts
pub sum_ℕ_only : (n k : ℕ) (f : ℕ → ℕ) → k < n → ((i : ℕ) → i < n → i ≢ k → f i ≡ 0) → sum_ℕ n f ≡ f k
sum_ℕ_only zero k f l h = absurd (omega arith)
sum_ℕ_only (suc n) k f l h = by (sum_ℕ_only n k f) (dec_lt k n)
  where
    by : (k < n → ((i : ℕ) → i < n → i ≢ k → f i ≡ 0) → sum_ℕ n f ≡ f k) → Dec (k < n) → sum_ℕ (suc n) f ≡ f k
    by ih (yes m) = rw (ih m (λ i g. h i (omega arith)), h n (omega arith) (λ e. omega arith)) (omega arith)
    by ih (no m) = let e : k ≡ n = omega arith in rw (e, sum_ℕ_zero n f (λ i g. h i (omega arith) (λ e. omega arith))) (omega arith)

-- sums of sums: in the other order, and over all terms at once
pub sum_ℕ_swap : (m n : ℕ) (f : ℕ → ℕ → ℕ) → sum_ℕ m (λ i. sum_ℕ n (f i)) ≡ sum_ℕ n (λ j. sum_ℕ m (λ i. f i j))
sum_ℕ_swap zero n f = sym (sum_ℕ_zero n (λ _. 0) (λ _ _. refl))
sum_ℕ_swap (suc m) n f = rw (sum_ℕ_swap m n f) (sym (sum_ℕ_add n (λ j. sum_ℕ m (λ i. f i j)) (f m)))

pub sum_ℕ_fours : (n : ℕ) (f : ℕ → ℕ) → sum_ℕ n (λ t. sum_ℕ 4 (λ r. f (4 * t + r))) ≡ sum_ℕ (4 * n) f
sum_ℕ_fours zero f = refl
sum_ℕ_fours (suc n) f = let e : 4 * suc n ≡ 4 * n + 4 = omega arith in rw (sum_ℕ_fours n f, e) (sym (sum_ℕ_split (4 * n) 4 f))

-- ---- of integers
pub sum_ℤ_same : (n : ℕ) (f g : ℕ → ℤ) → ((k : ℕ) → k < n → f k ≡ g k) → sum_ℤ n f ≡ sum_ℤ n g
sum_ℤ_same zero f g h = refl
sum_ℤ_same (suc n) f g h = ap₂ ◌+ℤ◌ (sum_ℤ_same n f g (λ k l. h k (omega arith))) (h n (omega arith))

pub sum_ℤ_neg : (n : ℕ) (f : ℕ → ℤ) → sum_ℤ n (λ k. neg_ℤ (f k)) ≡ neg_ℤ (sum_ℤ n f)
sum_ℤ_neg zero f = refl
sum_ℤ_neg (suc n) f = rw (sum_ℤ_neg n f, split (sum_ℤ n f), split (f n)) (simp to_ℕ (omega arith))

pub sum_ℤ_add : (n : ℕ) (f g : ℕ → ℤ) → sum_ℤ n (λ k. f k +ℤ g k) ≡ sum_ℤ n f +ℤ sum_ℤ n g
sum_ℤ_add zero f g = refl
sum_ℤ_add (suc n) f g = rw (sum_ℤ_add n f g, split (sum_ℤ n f), split (sum_ℤ n g), split (f n), split (g n)) (simp to_ℕ (omega arith))

pub sum_ℤ_scale : (n : ℕ) (c : ℤ) (f : ℕ → ℤ) → sum_ℤ n (λ k. c *ℤ f k) ≡ c *ℤ sum_ℤ n f
sum_ℤ_scale zero c f = rw (split c) (simp to_ℕ (omega arith))
sum_ℤ_scale (suc n) c f = rw (sum_ℤ_scale n c f, split (sum_ℤ n f), split (f n), split c) (simp to_ℕ (omega arith))

pub sum_ℤ_split : (m n : ℕ) (f : ℕ → ℤ) → sum_ℤ (m + n) f ≡ sum_ℤ m f +ℤ sum_ℤ n (λ k. f (m + k))
sum_ℤ_split m zero f = rw (add-zero m) (sym (+ℤ_idr (sum_ℤ m f)))
sum_ℤ_split m (suc n) f = rw (add-suc m n, sum_ℤ_split m n f) (+ℤ_assoc (sum_ℤ m f) (sum_ℤ n (λ k. f (m + k))) (f (m + n)))

pub sum_ℤ_pos : (n : ℕ) (f : ℕ → ℕ) → sum_ℤ n (λ k. pos (f k)) ≡ pos (sum_ℕ n f)
sum_ℤ_pos zero f = refl
sum_ℤ_pos (suc n) f = rw (sum_ℤ_pos n f)

-- term by term, within a bound of its own
pub sum_ℤ_bound : (n : ℕ) (f : ℕ → ℤ) (u : ℕ → ℕ) → ((k : ℕ) → k < n → nat_abs (f k) ≤ u k) → nat_abs (sum_ℤ n f) ≤ sum_ℕ n u
sum_ℤ_bound zero f u h = omega arith
sum_ℤ_bound (suc n) f u h =
    omega (arith, abs_add (sum_ℤ n f) (f n), sum_ℤ_bound n f u (λ k l. h k (omega arith)), h n (omega arith))
