-- A goal of each kind, by the method to copy. Assumes nothing.
use Rattle.integers.proofs.Prelude.{◌≡◌, ◌≤◌, arith, ℤ, pos, nat_abs, ◌+ℤ◌, ◌-ℤ◌, ◌*ℤ◌, ◌≤ℤ◌, ◌<ℤ◌}
use native.Mathlib.Nat.{mul-le-mul}
use Rattle.integers.proofs.Linear.{split, to_ℕ, read_ℤ, about, abs_mul, abs_add}

-- linear, with its hypotheses in the goal
linear_goal : (a b : ℤ) → nat_abs a ≤ 5 → nat_abs b ≤ 7 → nat_abs (a -ℤ b) ≤ 12
linear_goal a b = rw (split a, split b) (simp to_ℕ (omega arith))

-- a small ring identity
ring_goal : (a b : ℤ) → (a +ℤ b) *ℤ (a -ℤ b) ≡ a *ℤ a -ℤ b *ℤ b
ring_goal a b = rw (split a, split b) (simp to_ℕ (omega arith))

-- linear, from hypotheses that are bound
bound_goal : (a b : ℤ) → a ≤ℤ b → b <ℤ pos 3 → a <ℤ pos 3
bound_goal a b h k = omega (arith, read_ℤ, about a, about b)

-- a product, and a sum
product_goal : (a b : ℤ) → nat_abs a ≤ 5 → nat_abs b ≤ 7 → nat_abs (a *ℤ b) ≤ 35
product_goal a b h k = rw abs_mul (mul-le-mul h k)

sum_goal : (a b : ℤ) → nat_abs a ≤ 5 → nat_abs b ≤ 7 → nat_abs (a +ℤ b) ≤ 12
sum_goal a b h k = omega (arith, abs_add a b)
