-- `example_calls::cost_calls::size` meets its contract: bits up to those of infinity are no NaN's. Assumes nothing.
use Rattle.integers.proofs.Prelude.{◌≡◌, refl, subst, Bool, true, false, not, ℕ, ◌/◌, ◌%◌, ◌≤◌, arith, ltb-true, ltb-false, ne_eqb, T, ltb}
use lib.Ieee.{binary32, nan_bits}
use Rattle.example_calls.proofs.cost_calls.size.Goals as goal

number : (b : ℕ) → b ≤ 0x7f800000 → T (not (nan_bits binary32 b))
unfolding nan_bits
number b h = by (ltb b 0x7f800000) refl
  where
    by : (t : Bool) → ltb b 0x7f800000 ≡ t → T (not (nan_bits binary32 b))
    by true e = rw (ne_eqb (b % 2147483648 / 8388608) 255 (λ k. omega (arith, ltb-true b 0x7f800000 e))) tt
    by false e = let same : 0x7f800000 ≡ b = omega (arith, ltb-false b 0x7f800000 e) in subst (λ (x : ℕ). T (not (nan_bits binary32 x))) same tt

pub float_from_bits-result : goal.float_from_bits-result
float_from_bits-result c = number c.args.x c.if-x-gt2139095040.false
