-- All that is known of the quotient: it is odd, it is `Rounded`, which determines it, and where it is the limit. Assumes nothing.
use Rattle.std.specs.Prelude.{◌≡◌, refl, ℕ, zero, suc, ◌+◌, ◌*◌, ◌/◌, ◌≤◌, ◌<◌, min, ℤ, pos, negsuc, neg_ℤ, nat_abs}
use Rattle.std.proofs.Common.{sym, ap, ◌∙◌, mul-le-mul_left, le_antisymm}
use native.Mathlib.Omega.{arith, by_contra}
use Rattle.std.proofs.Math.Nat.{div-eq_of_lt}
use Rattle.std.proofs.Math.IntN.{neg_ℤ-neg_ℤ}
use Rattle.integers.specs.Nearest.{nearest}
use Rattle.integers.proofs.Nearest.{nearest_is}
use Rattle.integers.proofs.Linear.{abs_neg, false_lt_z}
use Rattle.quotient.specs.Quotient.{unit, limited, quotient, Rounded, signed}

-- ---- magnitudes
pub rounded_by : (n d : ℕ) → 0 < d → Rounded n d (min (nearest n d) unit)
rounded_by n d h =
    let q = nearest n d in
    let a = nearest_is n d h in
    let m : d * min q unit ≤ d * q = mul-le-mul_left d (omega arith) in
    record {
      range = omega arith;
      above = omega (arith, a.above);
      below = λ k. let e : d * min q unit ≡ d * q = ap (λ (x : ℕ). d * x) (omega arith) in omega (arith, a.below);
    }

limited_rounded : (n d : ℕ) → 0 < d → Rounded n d (limited n d)
unfolding limited
limited_rounded n d h = rounded_by n d h

rounded_le : (n d q r : ℕ) → Rounded n d q → Rounded n d r → q ≤ r
rounded_le n d q r a b =
    by_contra q r (λ k. let t : d * suc r ≤ d * q = mul-le-mul_left d k in omega (arith, a.above, b.below (omega (arith, a.range))))

limited_zero : (d : ℕ) → limited 0 d ≡ 0
unfolding limited
limited_zero zero = refl
limited_zero (suc d) = let e : (2 * 0 + suc d) / (2 * suc d) ≡ 0 = div-eq_of_lt (omega arith) in omega arith

-- ---- the laws
pub quotient_odd : (n d : ℤ) → quotient (neg_ℤ n) d ≡ neg_ℤ (quotient n d)
unfolding quotient
quotient_odd (pos zero) d = rw (limited_zero (nat_abs d)) refl
quotient_odd (pos (suc n)) d = refl
quotient_odd (negsuc n) d = sym (neg_ℤ-neg_ℤ (pos (limited (suc n) (nat_abs d))))

-- nearest, halves away from zero, and limited
pub quotient_rounded : (n : ℤ) (d : ℕ) → 0 < d → Rounded (nat_abs n) d (nat_abs (quotient n (pos d)))
unfolding quotient
quotient_rounded (pos n) d h = limited_rounded n d h
quotient_rounded (negsuc n) d h = rw (abs_neg (pos (limited (suc n) d))) (limited_rounded (suc n) d h)

pub quotient_range : (n d : ℤ) → nat_abs (quotient n d) ≤ unit
unfolding quotient limited
quotient_range (pos n) d = omega arith
quotient_range (negsuc n) d = rw (abs_neg (pos (limited (suc n) (nat_abs d)))) (omega arith)

-- this, with oddness, is every value
pub quotient_is : (n d q : ℕ) → 0 < d → Rounded n d q → quotient (pos n) (pos d) ≡ pos q
unfolding quotient
quotient_is n d q h r =
    ap pos (le_antisymm (rounded_le n d (limited n d) q (limited_rounded n d h) r) (rounded_le n d q (limited n d) r (limited_rounded n d h)))

-- document 02, L4: "Where the numerator's size is at least U times the divisor, the limit is known"
limit_rounded : (n d : ℕ) → unit * d ≤ n → Rounded n d unit
limit_rounded n d l = record { range = omega arith; above = omega arith; below = λ k. absurd (omega arith) }

pub quotient_limit : (n : ℤ) (d : ℕ) → 0 < d → unit * d ≤ nat_abs n → quotient n (pos d) ≡ signed n unit
quotient_limit (pos n) d h l = rw (false_lt_z (pos n) (pos 0) (omega arith)) (quotient_is n d unit h (limit_rounded n d l))
quotient_limit (negsuc n) d h l =
    quotient_odd (pos (suc n)) (pos d) ∙ ap neg_ℤ (quotient_is (suc n) d unit h (limit_rounded (suc n) d l))
