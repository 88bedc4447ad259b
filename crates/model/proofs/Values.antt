-- The magnitude that a float's bits stand for is the float's value. Assumes nothing.
use Rattle.integers.proofs.Prelude.{◌≡◌, sym, ap, subst, Bool, true, false, cond, ℕ, zero, suc, ◌+◌, ◌*◌, ◌/◌, ◌%◌, ◌^◌, T, eqb, leb, ℤ}
use native.Mathlib.Nat.{mul-one}
use lib.Pow.{pow_pos}
use lib.Ieee.{Float, nan, inf, fin, binary32, up, down, odd, of_fields, of_bits, to_bits, fits}
use lib.Ieee.Bits.{of_bits-to_bits}
use lib.Ieee.Exact.{HasValue, odd_sign}
use lib.Ieee.Fits.{down_pos}
use Rattle.integers.specs.Nearest.{nearest}
use Rattle.integers.proofs.Nearest.{nearest_is, nearest_same}
use Rattle.model.specs.Channel.{finite, units, magnitude, cost_of_bits}
use Rattle.model.specs.ChannelClaims.{NearestLimited}

fields_value : (s : Bool) (x t : ℕ) → finite (of_fields binary32 s x t) ≡ true → HasValue (of_fields binary32 s x t) s (units x t) (2 ^ 149)
unfolding of_fields
fields_value s zero t h = rw (mul-one t) at (odd_sign 24 s t 0 149)
fields_value s (suc x) t h = by (eqb (suc x) 255) (eqb t 0) h
  where
    float : Bool → Bool → Float
    float a b = cond a (cond b (inf s) nan) (odd 24 s (2 ^ 23 + t) x 149)

    by : (a b : Bool) → finite (float a b) ≡ true → HasValue (float a b) s ((2 ^ 23 + t) * 2 ^ x) (2 ^ 149)
    by true true k = absurd (subst T (sym k) tt)
    by true false k = absurd (subst T (sym k) tt)
    by false b k = odd_sign 24 s (2 ^ 23 + t) x 149

bits_value : (b : ℕ) → finite (of_bits binary32 b) ≡ true → HasValue (of_bits binary32 b) (leb (2 ^ 31) b) (magnitude b) (2 ^ 149)
unfolding of_bits
bits_value b h = fields_value (leb (2 ^ 31) b) (b % 2 ^ 31 / 2 ^ 23) (b % 2 ^ 23) h

module _ (s : Bool) (m : ℕ) (e : ℤ) (h : fits binary32 (fin s m e) ≡ true) where
  float_value : HasValue (fin s m e) (leb (2 ^ 31) (to_bits binary32 (fin s m e))) (magnitude (to_bits binary32 (fin s m e))) (2 ^ 149)
  float_value =
      let back = of_bits-to_bits binary32 (fin s m e) (subst T (sym h) tt) in
      rw back at (bits_value (to_bits binary32 (fin s m e)) (ap finite back))

  pub cost_rounded : NearestLimited s (m * up e) (down e) (cost_of_bits (to_bits binary32 (fin s m e)))
  unfolding cost_of_bits
  cost_rounded = record {
    size = nearest (m * up e) (down e);
    nearest = nearest_is (m * up e) (down e) (down_pos e);
    limited = rw (← float_value.0, nearest_same (m * up e) (down e) (magnitude (to_bits binary32 (fin s m e))) (2 ^ 149) (down_pos e) (pow_pos 149) float_value.1);
  }
