-- The rows of a triple as the code works them out, of one frame. Assumes nothing.
use Rattle.integers.proofs.Prelude.{◌≡◌, ℕ, ◌*◌, ◌≤◌, ◌<◌, arith, ℤ, pos, nat_abs, ◌+ℤ◌, ◌-ℤ◌, ◌*ℤ◌}
use Rattle.integers.specs.Sum.{sum_ℤ}
use Rattle.integers.proofs.Linear.{split, to_ℕ}
use Rattle.quotient.specs.Quotient.{unit}
use Rattle.model.specs.Iteration.{sign, row_sum}
use Rattle.model.proofs.Rows.{three}

-- ---- renewed, from values that are raised by U: x is the multiplier
module _ (x a b c : ℤ) where
  abbrev pub renewed_by : ℕ → ℤ
  renewed_by r = x +ℤ row_sum r (a -ℤ pos unit) (b -ℤ pos unit) (c -ℤ pos unit) -ℤ pos unit

  pub renewed_0 : x +ℤ (a -ℤ b) -ℤ c ≡ renewed_by 0
  unfolding row_sum sign
  renewed_0 = rw (split x, split a, split b, split c) (simp to_ℕ (omega arith))

  pub renewed_1 : x -ℤ (a -ℤ b) -ℤ c ≡ renewed_by 1
  unfolding row_sum sign
  renewed_1 = rw (split x, split a, split b, split c) (simp to_ℕ (omega arith))

  pub renewed_2 : x -ℤ (a +ℤ b) +ℤ c ≡ renewed_by 2
  unfolding row_sum sign
  renewed_2 = rw (split x, split a, split b, split c) (simp to_ℕ (omega arith))

  pub renewed_3 : x +ℤ (a +ℤ b) +ℤ (c -ℤ pos (4 * unit)) ≡ renewed_by 3
  unfolding row_sum sign
  renewed_3 = rw (split x, split a, split b, split c) (simp to_ℕ (omega arith))

-- ---- what rows of sizes n give each position
module _ (n : ℕ → ℕ) where
  abbrev pub signed : ℕ → ℤ
  signed p = sum_ℤ 4 (λ r. sign r p *ℤ pos (n r))

  pub share_0 : (pos (n 3) +ℤ pos (n 0)) -ℤ (pos (n 1) +ℤ pos (n 2)) ≡ signed 0
  unfolding sign
  share_0 = simp to_ℕ (omega arith)

  pub share_1 : (pos (n 3) -ℤ pos (n 0)) +ℤ (pos (n 1) -ℤ pos (n 2)) ≡ signed 1
  unfolding sign
  share_1 = simp to_ℕ (omega arith)

  pub share_2 : (pos (n 3) -ℤ pos (n 0)) -ℤ (pos (n 1) -ℤ pos (n 2)) ≡ signed 2
  unfolding sign
  share_2 = simp to_ℕ (omega arith)

  -- two rows have plus, two have minus
  pub share_small : (m : ℕ) → ((r : ℕ) → n r ≤ m) → (p : ℕ) → p < 3 → nat_abs (signed p) ≤ 2 * m
  unfolding sign
  share_small m h =
      three (λ p. nat_abs (signed p) ≤ 2 * m) (simp to_ℕ (omega (arith, h 0, h 1, h 2, h 3))) (simp to_ℕ (omega (arith, h 0, h 1, h 2, h 3)))
      (simp to_ℕ (omega (arith, h 0, h 1, h 2, h 3)))
