-- Signed values of the machine: what a width holds, and what an expression of the code is worth. Assumes nothing.
-- A signed local is bits; the code's text reads it back as `to_z w (of_z w z)`. `Worth raw z b` says that what is written so is z, with
-- a magnitude of at most b. Start with `local`, go on with the operations, close a need with `fits`, and a result with `.is`.
-- Where a need asks only that a sum, difference or product fits and the magnitudes' bounds stand among the hypotheses: `search signed`.
use Rattle.integers.proofs.Prelude.{◌≡◌, refl, ap, ap₂, ◌∙◌, ℕ, ◌+◌, ◌*◌, ◌^◌, ◌≤◌, ◌<◌, arith, rules, T, ltb, leb, ℤ, pos, nat_abs, neg_ℤ, ◌+ℤ◌, ◌-ℤ◌}
use Rattle.integers.proofs.Prelude.{◌*ℤ◌, to_z, of_z, to_z-of_z}
use native.Mathlib.Nat.{lt_of_lt_of_le, lt_of_le_of_lt, mul-le-mul}
use lib.Dec.{ltb→lt, leb→le}
use lib.IntN.{+ℤ_idl}
use lib.Signed.{mag, nat_abs-le}
use lib.Pow.{pow_mono}
use mir.Syntax.{Width}
use mir.Val.{SFits, hbits}
use mir.Facts.{to_z_pos}
use Rattle.integers.proofs.Linear.{about, abs_neg, abs_add, abs_sub, abs_mul}

-- ---- a bound on the magnitude is that the width holds the number
pub fits_abs : {w : Width} {z : ℤ} (n : ℕ) → T (ltb n (2 ^ hbits w)) → nat_abs z ≤ n → SFits w z
fits_abs {w} {z} n t h = record { sfits = below (2 ^ hbits w) (ltb→lt n (2 ^ hbits w) t) }
  where
    below : (m : ℕ) → n < m → mag z < m
    below m l = omega (arith, about z)

pub abs_fits : {w : Width} {z : ℤ} → SFits w z → nat_abs z ≤ 2 ^ hbits w
abs_fits {w} {z} f = nat_abs-le z f.sfits

pub widen : {w w' : Width} {z : ℤ} → SFits w z → T (leb (hbits w) (hbits w')) → SFits w' z
widen {w} {w'} f t = record { sfits = lt_of_lt_of_le f.sfits (pow_mono (leb→le (hbits w) (hbits w') t)) }

-- a parameter, an element of a list or a call's result goes through its bits, and is what it was
pub kept : (w : Width) (z : ℤ) → mag z < 2 ^ hbits w → to_z w (of_z w z) ≡ z
kept w z f = to_z-of_z {w = w} (record { sfits = f })

-- ---- what an expression is worth
pub record Worth (raw z : ℤ) (b : ℕ) : Type 0 where
  pub is : raw ≡ z
  pub within : nat_abs z ≤ b

module _ {raw z : ℤ} {b : ℕ} (v : Worth raw z b) where
  pub within_raw : nat_abs raw ≤ b
  within_raw = omega (arith, ap nat_abs v.is, v.within)

  pub fits : (w : Width) → T (ltb b (2 ^ hbits w)) → SFits w raw
  fits w t = fits_abs b t within_raw

  -- put into a local, or cast
  pub stored : (w : Width) → T (ltb b (2 ^ hbits w)) → Worth (to_z w (of_z w raw)) z b
  stored w t = record { is = to_z-of_z {w = w} (fits w t) ∙ v.is; within = v.within }

-- such a value that is known to be z, and with its bound
pub read_back : (w : Width) {r z : ℤ} → mag r < 2 ^ hbits w → r ≡ z → to_z w (of_z w r) ≡ z
read_back w {r} f e = kept w r f ∙ e

pub local : (w : Width) {r z : ℤ} (b : ℕ) → mag r < 2 ^ hbits w → r ≡ z → nat_abs z ≤ b → Worth (to_z w (of_z w r)) z b
local w b f e h = record { is = read_back w f e; within = h }

-- an unsigned number, cast
pub unsigned : (w : Width) (n b : ℕ) → T (ltb b (2 ^ hbits w)) → n ≤ b → Worth (to_z w n) (pos n) b
unsigned w n b t h = record { is = to_z_pos w (lt_of_le_of_lt h (ltb→lt b (2 ^ hbits w) t)); within = h }

-- a number of which only the magnitude's bound is known
pub param : (w : Width) (z : ℤ) (b : ℕ) → T (ltb b (2 ^ hbits w)) → nat_abs z ≤ b → Worth (to_z w (of_z w z)) z b
param w z b t h = stored (record { is = refl; within = h }) w t

-- and one of which only the width is known
pub read : (w : Width) {z : ℤ} → SFits w z → Worth (to_z w (of_z w z)) z (2 ^ hbits w)
read w h = record { is = to_z-of_z h; within = abs_fits h }

pub literal : (z : ℤ) → Worth z z (nat_abs z)
literal z = record { is = refl; within = omega arith }

-- the same value by another name
pub also : {raw z y : ℤ} {b : ℕ} → Worth raw z b → z ≡ y → Worth raw y b
also v e = record { is = v.is ∙ e; within = rw e at v.within }

pub negative : {x a : ℤ} {m : ℕ} → Worth x a m → Worth (pos 0 -ℤ x) (neg_ℤ a) m
negative {a} v = record { is = ap (λ (z : ℤ). pos 0 -ℤ z) v.is ∙ +ℤ_idl (neg_ℤ a); within = rw (abs_neg a) v.within }

module _ {x y a b : ℤ} {m n : ℕ} (u : Worth x a m) (v : Worth y b n) where
  pub plus : Worth (x +ℤ y) (a +ℤ b) (m + n)
  plus = record { is = ap₂ ◌+ℤ◌ u.is v.is; within = omega (arith, abs_add a b, u.within, v.within) }

  pub minus : Worth (x -ℤ y) (a -ℤ b) (m + n)
  minus = record { is = ap₂ ◌-ℤ◌ u.is v.is; within = omega (arith, abs_sub a b, u.within, v.within) }

  pub times : Worth (x *ℤ y) (a *ℤ b) (m * n)
  times = record { is = ap₂ ◌*ℤ◌ u.is v.is; within = rw (abs_mul a b) (mul-le-mul u.within v.within) }

-- ---- for `search signed`
pub fits_one : (w : Width) (a : ℤ) (m : ℕ) → nat_abs a ≤ m → T (ltb m (2 ^ hbits w)) → SFits w a
fits_one w a m h t = fits_abs m t h

pub fits_sum : (w : Width) (a b : ℤ) (m n : ℕ) → nat_abs a ≤ m → nat_abs b ≤ n → T (ltb (m + n) (2 ^ hbits w)) → SFits w (a +ℤ b)
fits_sum w a b m n h k t = fits_abs (m + n) t (omega (arith, abs_add a b))

pub fits_difference : (w : Width) (a b : ℤ) (m n : ℕ) → nat_abs a ≤ m → nat_abs b ≤ n → T (ltb (m + n) (2 ^ hbits w)) → SFits w (a -ℤ b)
fits_difference w a b m n h k t = fits_abs (m + n) t (omega (arith, abs_sub a b))

pub fits_product : (w : Width) (a b : ℤ) (m n : ℕ) → nat_abs a ≤ m → nat_abs b ≤ n → T (ltb (m * n) (2 ^ hbits w)) → SFits w (a *ℤ b)
fits_product w a b m n h k t = fits_abs (m * n) t (rw abs_mul (mul-le-mul h k))

pub ruleset signed = (widen, fits_one, fits_sum, fits_difference, fits_product, rules)
