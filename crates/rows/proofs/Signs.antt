-- An operand as the code reads it; what the table of signs says where it is tested; what a test of a row's sign says of its two parts. Assumes nothing.
use Rattle.integers.proofs.Prelude.{◌≡◌, sym, ap, ◌∙◌, Bool, true, false, ℕ, ◌+◌, ◌^◌, ◌≤◌, ◌<◌, arith, T, ltb, ℤ, pos, negsuc, nat_abs, neg_ℤ, ◌-ℤ◌, lt_z, w32, to_z, of_z}
use Rattle.integers.proofs.Prelude.{to_z-of_z}
use native.Mathlib.Nat.{le_of_eq}
use mir.Val.{SFits, hbits}
use Rattle.integers.proofs.Linear.{read_ℤ, make_≡, lt_z_true, lt_z_false, about, below_abs, above_abs}
use Rattle.integers.proofs.Machine.{Worth, stored, param, negative}
use Rattle.model.specs.Iteration.{sign, slack, multiplier}
use Rattle.model.proofs.Rows.{sign_one}

abbrev pub raw : ℤ → ℤ
raw z = to_z w32 (of_z w32 z)

below : (z : ℤ) → nat_abs z ≡ 1 → lt_z z (pos 0) ≡ true → z ≡ negsuc 0
below (pos n) e t = absurd (omega (arith, read_ℤ, t))
below (negsuc n) e t = ap negsuc (omega arith)

module _ (r p : ℕ) (h : r < 4) (l : p < 3) where
  read : raw (sign r p) ≡ sign r p
  read = (param w32 (sign r p) 1 tt (le_of_eq (sign_one r p h l))).is

  pub is_minus : lt_z (raw (sign r p)) (pos 0) ≡ true → sign r p ≡ negsuc 0
  is_minus t = below (sign r p) (sign_one r p h l) (rw read at t)

  pub is_plus : lt_z (raw (sign r p)) (pos 0) ≡ false → sign r p ≡ pos 1
  is_plus t = above_abs (sign r p) (rw read at t) ∙ ap pos (sign_one r p h l)

-- ---- the parts of a row z, by a test of it
tested : {z y : ℤ} {t : Bool} → y ≡ z → lt_z y (pos 0) ≡ t → lt_z z (pos 0) ≡ t
tested e t = ap (λ (z : ℤ). lt_z z (pos 0)) (sym e) ∙ t

module _ (z : ℤ) (f : SFits w32 z) where
  pub multiplier_below : lt_z (raw z) (pos 0) ≡ true → pos 0 ≡ pos (multiplier z)
  multiplier_below t = ap pos (sym (omega (arith, about z, lt_z_true z (pos 0) (tested (to_z-of_z f) t))))

  pub multiplier_above : lt_z (raw z) (pos 0) ≡ false → raw z ≡ pos (multiplier z)
  multiplier_above t = to_z-of_z f ∙ make_≡ z (pos (multiplier z)) (omega (arith, about z, lt_z_false z (pos 0) (tested (to_z-of_z f) t)))

module _ (z : ℤ) (b : ℕ) (small : T (ltb b (2 ^ hbits w32))) (h : nat_abs z ≤ b) where
  as_read : raw z ≡ z
  as_read = (param w32 z b small h).is

  whole : pos (nat_abs z) ≡ pos (slack z + multiplier z)
  whole = ap pos (omega (arith, about z))

  pub negated : Worth (pos 0 -ℤ raw z) (neg_ℤ z) b
  negated = negative (param w32 z b small h)

  pub size_below : lt_z (raw z) (pos 0) ≡ true → raw (pos 0 -ℤ raw z) ≡ pos (slack z + multiplier z)
  size_below t = (stored negated w32 small).is ∙ below_abs z (tested as_read t) ∙ whole

  pub size_above : lt_z (raw z) (pos 0) ≡ false → raw z ≡ pos (slack z + multiplier z)
  size_above t = as_read ∙ above_abs z (tested as_read t) ∙ whole
