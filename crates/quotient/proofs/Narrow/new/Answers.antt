-- `quotient::Narrow::new` meets its contract. Assumes nothing.
use Rattle.integers.proofs.Prelude.{◌≡◌, refl, sym, ap, ◌∙◌, ℕ, ◌+◌, ◌*◌, ◌/◌, ◌^◌, ◌≤◌, ◌<◌, arith, pos, nat_abs, w32, w64, to_z, of_z}
use Rattle.integers.proofs.Linear.{read_ℤ, about}
use Rattle.integers.proofs.Machine.{Worth, param, also, unsigned}
use Rattle.quotient.specs.Quotient.{unit}
use Rattle.quotient.proofs.Magnitudes.{divisor_is}
use Rattle.quotient.specs.Prepared.{inverse_of}
use Rattle.quotient.specs.Narrowed.{raise_of}
use Rattle.quotient.proofs.Lanes.{inverse_most, raise_is, narrowed_at}
use Rattle.quotient.proofs.Narrow.new.Goals as goal
use Rattle.quotient.proofs.Narrow.new.Goals.{Start}

module _ (s : Start) where
  -- the divisor, as the code reads it
  abbrev d : ℕ
  d = nat_abs (to_z w64 (of_z w64 s.args.den))

  d_is : (1025 ≤ d) × (d ≤ 8192) × (s.args.den ≡ pos d) × (to_z w64 (of_z w64 s.args.den) ≡ pos d)
  d_is =
      let den = s.args.den in
      let b = divisor_is den 8192 (omega (arith, read_ℤ, s.requires.0)) s.requires.1 in
      let v = also (param w64 den 8192 tt b.1) b.2 in
      rw v.is (omega (arith, read_ℤ, s.requires.0, about den), b.1, b.2, refl)

  inverse_is : 2 ^ 42 / d + 1 < 2 ^ 32
  unfolding inverse_of
  inverse_is = inverse_most d d_is.0 d_is.1

  product_is : (256 * (64 * d) + 255) * (2 ^ 42 / d + 1) ≤ 2 ^ 42 * unit + 2 ^ 41
  unfolding inverse_of
  product_is = omega (arith, (raise_is d d_is.0 d_is.1).0)

  limit_is : Worth (to_z w32 (64 * d)) (pos (64 * d)) (64 * 8192)
  limit_is = unsigned w32 (64 * d) (64 * 8192) tt (omega (arith, d_is.1))

pub overflow_cast-result-2 : goal.overflow_cast-result-2
overflow_cast-result-2 c = record { fits = omega (arith, inverse_is c) }

pub overflow_sub-result : goal.overflow_sub-result
overflow_sub-result c = omega (arith, product_is c)

pub invariant_of-result : goal.invariant_of-result
unfolding inverse_of raise_of
invariant_of-result c = (narrowed_at (d c) (d_is c).0 (d_is c).1 _ (limit_is c).is).1

pub returns : goal.returns
returns c = ap pos (narrowed_at (d c) (d_is c).0 (d_is c).1 _ (limit_is c).is).0 ∙ sym (d_is c).2
