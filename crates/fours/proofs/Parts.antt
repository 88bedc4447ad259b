-- The two parts of a number: x / 2^14, rounded down, and what x has more than 2^14 times that. Assumes nothing.
use Rattle.integers.proofs.Prelude.{◌*◌, ◌^◌, ◌≤◌, arith, ℤ, pos, negsuc, nat_abs, ◌-ℤ◌, ◌*ℤ◌}
use lib.Signed.{shr_z}
use Rattle.integers.proofs.Linear.{to_ℕ}
use Rattle.model.specs.Limits.{most_row}

pub high_small : (x : ℤ) → nat_abs x ≤ 2 * most_row → nat_abs (shr_z x (2 ^ 14)) ≤ 2 ^ 14
high_small (pos n) h = omega arith
high_small (negsuc n) h = omega arith

pub low_small : (x : ℤ) → nat_abs (x -ℤ pos (2 ^ 14) *ℤ shr_z x (2 ^ 14)) ≤ 2 ^ 14
low_small (pos n) = simp to_ℕ (omega arith)
low_small (negsuc n) = simp to_ℕ (omega arith)
