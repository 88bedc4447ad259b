-- `quotient::Divisor::divide_opposite` meets its contract. Assumes nothing.
use Rattle.integers.proofs.Prelude.{ap, ap₂, ◌∙◌, ℕ, ◌+◌, ◌*◌, ◌^◌, ◌<◌, arith, ℤ, pos, nat_abs, neg_ℤ, ◌-ℤ◌, ◌*ℤ◌, w16, w64, to_z, of_z, to_z-of_z}
use lib.Signed.{shr_z}
use mir.Val.{SFits}
use Rattle.integers.proofs.Machine.{Worth, param, literal, also, minus, fits, stored}
use Rattle.quotient.specs.Quotient.{unit, quotient}
use Rattle.quotient.specs.Prepared.{factor_of, divisor_of, Prepared}
use Rattle.quotient.proofs.Laws.{quotient_range}
use Rattle.quotient.proofs.Products.{factor_most, prepared_fits, prepared_quotients}
use Rattle.quotient.proofs.Divisor.divide_opposite.Goals as goal

-- what the shift divides, by the fields of the divisor
module _ (limit inverse : ℤ) (p : Prepared limit inverse) (x : ℤ) (f : SFits w64 x) (below : nat_abs x < unit * divisor_of limit) where
  abbrev d : ℕ
  d = divisor_of limit

  inverse_is : Worth (to_z w64 (of_z w64 inverse)) (factor_of d) (2 ^ 47 + 1)
  inverse_is = also (param w64 inverse (2 ^ 47 + 1) tt (omega (arith, ap nat_abs p.inverse_is, factor_most d))) p.inverse_is

  product_is : Worth (to_z w64 (of_z w64 x) *ℤ to_z w64 (of_z w64 inverse)) (x *ℤ factor_of d) (2 ^ 61 + 2 ^ 30)
  product_is = record { is = ap₂ ◌*ℤ◌ (to_z-of_z f) inverse_is.is; within = prepared_fits d p.above p.most x below }

  difference_is : Worth (pos (2 ^ 46) -ℤ to_z w64 (of_z w64 (to_z w64 (of_z w64 x) *ℤ to_z w64 (of_z w64 inverse)))) (pos (2 ^ 46) -ℤ x *ℤ factor_of d) (2 ^ 46 + (2 ^ 61 + 2 ^ 30))
  difference_is = minus (literal (pos (2 ^ 46))) (stored product_is w64 tt)

  result : Worth (shr_z (to_z w64 (of_z w64 (pos (2 ^ 46) -ℤ to_z w64 (of_z w64 (to_z w64 (of_z w64 x) *ℤ to_z w64 (of_z w64 inverse)))))) (2 ^ 47)) (quotient (neg_ℤ x) (pos d)) unit
  result =
      record {
        is = ap (λ (z : ℤ). shr_z z (2 ^ 47)) (stored difference_is w64 tt).is ∙ prepared_quotients d p.above p.most x below;
        within = quotient_range (neg_ℤ x) (pos d);
      }

pub overflow_mul-result : goal.overflow_mul-result
overflow_mul-result c = fits (product_is _ _ c.self.invariant c.args.x c.ranges.x (rw (← c.self.view_is) at c.requires)) w64 tt

pub overflow_sub-result : goal.overflow_sub-result
overflow_sub-result c = fits (difference_is _ _ c.self.invariant c.args.x c.ranges.x (rw (← c.self.view_is) at c.requires)) w64 tt

pub overflow_cast-result : goal.overflow_cast-result
overflow_cast-result c = fits (stored (result _ _ c.self.invariant c.args.x c.ranges.x (rw (← c.self.view_is) at c.requires)) w64 tt) w16 tt

pub returns : goal.returns
returns c =
    rw (← c.self.view_is) (stored (stored (result _ _ c.self.invariant c.args.x c.ranges.x (rw (← c.self.view_is) at c.requires)) w64 tt) w16 tt).is
