-- Products that fit: of up to eight frames. Assumes nothing.
use Rattle.integers.proofs.Prelude.{ℕ, ◌*◌, ◌^◌, ◌≤◌, ◌<◌, arith}
use native.Mathlib.Nat.{mul-le-mul}

pub product_fits : (f x : ℕ) → f ≤ 8 → x ≤ 2 ^ 20 → f * x < 2 ^ 64
product_fits f x h k = let m : f * x ≤ 8 * 2 ^ 20 = mul-le-mul h k in omega arith
