-- Magnitudes below the limit, the sign, and the division that gives the quotient there. Assumes nothing.
use Rattle.integers.proofs.Prelude.{◌≡◌, refl, sym, ap, ◌∙◌, ℕ, zero, suc, ◌+◌, ◌*◌, ◌/◌, ◌≤◌, ◌<◌, arith, ℤ, pos, negsuc, nat_abs, neg_ℤ, ◌+ℤ◌, ◌*ℤ◌}
use Rattle.integers.proofs.Prelude.{◌≤ℤ◌, ◌<ℤ◌}
use native.Mathlib.Omega.{by_contra}
use native.Mathlib.Nat.{mul-le-mul_left, zero-div}
use lib.IntN.{neg_ℤ-+ℤ, neg_ℤ-neg_ℤ}
use lib.Signed.{quot_z}
use Rattle.integers.specs.Parts.{up, dn}
use Rattle.integers.specs.Nearest.{nearest}
use Rattle.integers.proofs.Nearest.{nearest_is}
use Rattle.integers.proofs.Linear.{read_ℤ, about, about_neg, abs_neg, false_lt_z, positive}
use Rattle.quotient.specs.Quotient.{unit, quotient, signed}
use Rattle.quotient.proofs.Laws.{quotient_odd, quotient_is}

-- a divisor from 1 to n
pub divisor_is : (z : ℤ) (n : ℕ) → pos 0 <ℤ z → z ≤ℤ pos n → (0 < nat_abs z) × (nat_abs z ≤ n) × (z ≡ pos (nat_abs z))
divisor_is z n h k = ((positive z h).0, omega (arith, read_ℤ, about z), (positive z h).1)

-- below U and a half times the divisor nothing is limited
pub quotient_below : (n d : ℕ) → 0 < d → 2 * n < 2 * (unit * d) + d → quotient (pos n) (pos d) ≡ pos (nearest n d)
quotient_below n d h k =
    let q = nearest n d in
    let a = nearest_is n d h in
    quotient_is n d q h
    (record {
      range = by_contra q unit (λ l. let t : d * suc unit ≤ d * q = mul-le-mul_left d l in omega (arith, a.above));
      above = a.above;
      below = λ _. a.below;
    })

-- less than half the divisor below U times it, the limit is the nearest
pub limit_above : (z : ℤ) (d : ℕ) → 0 < d → 2 * (unit * d) ≤ 2 * up z + d → quotient z (pos d) ≡ pos unit
limit_above (pos n) d h k = quotient_is n d unit h (record { range = omega arith; above = omega arith; below = λ l. absurd (omega arith) })
limit_above (negsuc n) d h k = absurd (omega arith)

pub limit_below : (z : ℤ) (d : ℕ) → 0 < d → 2 * (unit * d) ≤ 2 * dn z + d → quotient z (pos d) ≡ neg_ℤ (pos unit)
limit_below z d h k =
    ap (λ (y : ℤ). quotient y (pos d)) (sym (neg_ℤ-neg_ℤ z)) ∙ quotient_odd (neg_ℤ z) (pos d) ∙ ap neg_ℤ (limit_above (neg_ℤ z) d h (omega (arith, about_neg z)))

-- ---- a division that cuts toward zero
cut_negative : (n b : ℕ) → quot_z (neg_ℤ (pos n)) (pos b) ≡ neg_ℤ (pos (n / b))
cut_negative zero b = rw (zero-div b)
cut_negative (suc n) b = refl

-- half of d is added with the sign of x, both doubled
pub cut_quotient : (x : ℤ) (d : ℕ) → 0 < d → nat_abs x < unit * d → quot_z (pos 2 *ℤ x +ℤ signed x d) (pos (2 * d)) ≡ quotient x (pos d)
cut_quotient (pos n) d h k = rw (false_lt_z (pos n) (pos 0) (omega arith)) (sym (quotient_below n d h (omega arith)))
cut_quotient (negsuc n) d h k =
    ap (λ (z : ℤ). quot_z z (pos (2 * d))) (sym (neg_ℤ-+ℤ (pos (2 * suc n)) (pos d)))
    ∙ cut_negative (2 * suc n + d) (2 * d) ∙ ap neg_ℤ (sym (quotient_below (suc n) d h (omega arith))) ∙ sym (quotient_odd (pos (suc n)) (pos d))

-- ---- the sign
pub abs_signed : (x : ℤ) (q : ℕ) → nat_abs (signed x q) ≡ q
abs_signed (pos n) q = rw (false_lt_z (pos n) (pos 0) (omega arith)) refl
abs_signed (negsuc n) q = abs_neg (pos q)
