-- `quotient::Divisor::new` meets its contract. Assumes nothing.
use Rattle.integers.proofs.Prelude.{◌≡◌, ap, ℕ, ◌+◌, ◌*◌, ◌/◌, ◌^◌, ◌≤◌, ◌<◌, pos, nat_abs, ◌+ℤ◌, ◌*ℤ◌, w64, to_z, of_z}
use native.Mathlib.Nat.{div-le_self}
use lib.Signed.{quot_z}
use Rattle.integers.proofs.Machine.{Worth, param, literal, also, plus, times, stored}
use Rattle.quotient.specs.Quotient.{unit}
use Rattle.quotient.specs.Prepared.{inverse_of, factor_of}
use Rattle.quotient.proofs.Magnitudes.{divisor_is}
use Rattle.quotient.proofs.Products.{prepared_at}
use Rattle.quotient.proofs.Divisor.new.Goals as goal
use Rattle.quotient.proofs.Divisor.new.Goals.{Start}

module _ (s : Start) where
  abbrev d : ℕ
  d = nat_abs s.args.den

  d_is : (0 < d) × (d ≤ 64512) × (s.args.den ≡ pos d)
  d_is = divisor_is s.args.den 64512 s.requires.0 s.requires.1

  den_is : Worth (to_z w64 (of_z w64 s.args.den)) (pos d) 64512
  den_is = also (param w64 s.args.den 64512 tt d_is.1) d_is.2

  limit_is : Worth (to_z w64 (of_z w64 (pos unit *ℤ to_z w64 (of_z w64 s.args.den)))) (pos (unit * d)) (unit * 64512)
  limit_is = stored (times (literal (pos unit)) den_is) w64 tt

  whole : Worth (quot_z (pos (2 ^ 47)) (to_z w64 (of_z w64 s.args.den))) (pos (2 ^ 47 / d)) (2 ^ 47)
  whole = record { is = ap (quot_z (pos (2 ^ 47))) den_is.is; within = div-le_self (2 ^ 47) d }

  inverse_is : Worth (to_z w64 (of_z w64 (to_z w64 (of_z w64 (quot_z (pos (2 ^ 47)) (to_z w64 (of_z w64 s.args.den)))) +ℤ pos 1))) (factor_of d) (2 ^ 47 + 1)
  unfolding inverse_of
  inverse_is = stored (plus (stored whole w64 tt) (literal (pos 1))) w64 tt

pub invariant_of-result : goal.invariant_of-result
invariant_of-result c = (prepared_at (d c) (d_is c).0 (d_is c).1 _ _ (limit_is c).is (inverse_is c).is).1
