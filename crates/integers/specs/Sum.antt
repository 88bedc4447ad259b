-- Sums over a range of indices. Definitions only.
use Rattle.std.specs.Prelude.{ℕ, zero, suc, ◌+◌, ℤ, pos, ◌+ℤ◌}

-- f 0 + .. + f (n − 1)
abbrev pub sum_ℕ : ℕ → (ℕ → ℕ) → ℕ
sum_ℕ zero f = 0
sum_ℕ (suc n) f = sum_ℕ n f + f n

-- the same of integers
abbrev pub sum_ℤ : ℕ → (ℕ → ℤ) → ℤ
sum_ℤ zero f = pos 0
sum_ℤ (suc n) f = sum_ℤ n f +ℤ f n
