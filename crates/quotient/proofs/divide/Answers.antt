-- `quotient::divide` meets its contract. Assumes nothing.
use Rattle.integers.proofs.Prelude.{◌≡◌, sym, ap, ap₂, ◌∙◌, ℕ, ◌+◌, ◌*◌, ◌≤◌, ◌<◌, arith, ℤ, pos, nat_abs, ◌+ℤ◌, ◌*ℤ◌, w16, w64, to_z, of_z}
use lib.Signed.{quot_z}
use Rattle.integers.proofs.Machine.{Worth, param, literal, local, also, plus, times, fits, stored}
use Rattle.quotient.specs.Quotient.{unit, quotient, signed}
use Rattle.quotient.proofs.Laws.{quotient_range}
use Rattle.quotient.proofs.Magnitudes.{divisor_is, abs_signed, cut_quotient}
use Rattle.quotient.proofs.divide.Goals as goal
use Rattle.quotient.proofs.divide.Goals.{Start, After-with_sign}

module _ (s : Start) where
  abbrev x : ℤ
  x = s.args.num

  abbrev d : ℕ
  d = nat_abs s.args.den

  d_is : (0 < d) × (d ≤ 2097152) × (s.args.den ≡ pos d)
  d_is = divisor_is s.args.den 2097152 s.requires.0 s.requires.1

  den_is : Worth (to_z w64 (of_z w64 s.args.den)) (pos d) 2097152
  den_is = also (param w64 s.args.den 2097152 tt d_is.1) d_is.2

  x_is : Worth (to_z w64 (of_z w64 x)) x (unit * 2097152)
  x_is = param w64 x (unit * 2097152) tt (omega (arith, s.requires.2, d_is.1))

  doubled : Worth (pos 2 *ℤ to_z w64 (of_z w64 x)) (pos 2 *ℤ x) (2 * (unit * 2097152))
  doubled = times (literal (pos 2)) x_is

  divisor : Worth (pos 2 *ℤ to_z w64 (of_z w64 s.args.den)) (pos (2 * d)) (2 * 2097152)
  divisor = times (literal (pos 2)) den_is

module _ (c : After-with_sign) where
  abbrev s : Start
  s = (goal.at.After-with_sign c).Start

  half : Worth (to_z w64 (of_z w64 c.with_sign.result)) (signed (x s) (d s)) 2097152
  half =
      local w64 2097152 c.with_sign.type_inv (c.with_sign.ensures ∙ ap₂ (λ (y z : ℤ). signed y (nat_abs z)) (x_is s).is (den_is s).is)
      (rw (abs_signed (x s) (d s)) (d_is s).1)

  dividend : Worth (to_z w64 (of_z w64 (pos 2 *ℤ to_z w64 (of_z w64 (x s)))) +ℤ to_z w64 (of_z w64 c.with_sign.result)) (pos 2 *ℤ x s +ℤ signed (x s) (d s)) (2 * (unit * 2097152) + 2097152)
  dividend = plus (stored (doubled s) w64 tt) half

  result : Worth (quot_z (to_z w64 (of_z w64 (to_z w64 (of_z w64 (pos 2 *ℤ to_z w64 (of_z w64 (x s)))) +ℤ to_z w64 (of_z w64 c.with_sign.result)))) (to_z w64 (of_z w64 (pos 2 *ℤ to_z w64 (of_z w64 s.args.den))))) (quotient (x s) s.args.den) unit
  result =
      record {
        is = ap₂ quot_z (stored dividend w64 tt).is (stored (divisor s) w64 tt).is ∙ cut_quotient (x s) (d s) (d_is s).0 s.requires.2 ∙ ap (quotient (x s)) (sym (d_is s).2);
        within = quotient_range (x s) s.args.den;
      }

pub nonzero_div-result : goal.nonzero_div-result
nonzero_div-result c = (omega (arith, ap (of_z w64) (divisor (goal.at.nonzero_div-result c).Start).is, (d_is (goal.at.nonzero_div-result c).Start).0), fits (result c) w64 tt)

pub overflow_cast-result : goal.overflow_cast-result
overflow_cast-result c = fits (stored (result c) w64 tt) w16 tt

pub returns : goal.returns
returns c = (stored (stored (result c) w64 tt) w16 tt).is
