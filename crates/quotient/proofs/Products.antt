-- One product with the inverse of a divisor in place of a division, at any scale. Assumes nothing.
use Rattle.integers.proofs.Prelude.{◌≡◌, sym, ap, ◌∙◌, ℕ, zero, suc, ◌+◌, ◌-◌, ◌*◌, ◌%◌, ◌^◌, ◌≤◌, ◌<◌, arith, ℤ, pos, negsuc, nat_abs, neg_ℤ, ◌+ℤ◌, ◌-ℤ◌, ◌*ℤ◌}
use native.Mathlib.Omega.{by_contra}
use native.Mathlib.Nat.{div-le_self, div-add-mod', mod-lt, div-eq_of_lt-le, mul-le-mul, mul-le-mul_left, mul-le-mul_right}
use lib.IntN.{neg_ℤ-neg_ℤ}
use lib.Signed.{shr_z}
use Rattle.integers.specs.Nearest.{nearest, Nearest}
use Rattle.integers.proofs.Nearest.{nearest_is}
use Rattle.integers.proofs.Linear.{to_ℕ, abs_mul}
use Rattle.quotient.specs.Quotient.{unit, quotient}
use Rattle.quotient.specs.Prepared.{inverse_of, factor_of, divisor_of, Prepared}
use Rattle.quotient.proofs.Laws.{quotient_odd}
use Rattle.quotient.proofs.Magnitudes.{quotient_below}

-- the scale is twice `half`
module _ (half : ℕ) where
  -- p, at the scale, lies less than a half from q
  record Near (p q : ℕ) : Type 0 where
    above : 2 * half * q < p + half
    below : p < 2 * half * q + half

  -- ---- a shift rounds down
  shift_up : (p q : ℕ) → Near p q → shr_z (pos (half + p)) (2 * half) ≡ pos q
  shift_up p q n = ap pos (div-eq_of_lt-le (2 * half) (omega arith) (omega arith))

  shift_down : (p q : ℕ) → Near p q → shr_z (pos half -ℤ pos p) (2 * half) ≡ neg_ℤ (pos q)
  shift_down p zero n =
      let e : pos half -ℤ pos p ≡ pos (half - p) = simp to_ℕ (omega arith) in
      rw e (ap pos (div-eq_of_lt-le (2 * half) (omega arith) (omega arith)))
  shift_down p (suc q) n =
      let e : pos half -ℤ pos p ≡ negsuc (p - half - 1) = simp to_ℕ (omega arith) in
      rw e (ap negsuc (div-eq_of_lt-le (2 * half) (omega arith) (omega arith)))

  module _ (d : ℕ) (least : 0 < d) where
    abbrev inverse : ℕ
    inverse = inverse_of (2 * half) d

    -- what d times its inverse has above the scale
    abbrev excess : ℕ
    excess = d - 2 * half % d

    pub whole : d * inverse ≡ 2 * half + excess
    unfolding inverse_of
    whole = omega (arith, div-add-mod' (2 * half) d, mod-lt (2 * half) least)

    -- ---- magnitudes
    module _ (m : ℕ) (small : m * d < half) where
      product : d * (m * inverse) ≡ 2 * half * m + m * excess
      product = omega (arith, ap (λ (x : ℕ). m * x) whole)

      -- also where m / d lies halfway and the nearest is the upper one, since the inverse has an excess
      product_above : (q : ℕ) → Nearest m d q → 2 * half * q < m * inverse + half
      product_above zero n = omega arith
      product_above (suc q) n =
          by_contra (suc (2 * half * suc q)) (m * inverse + half) (λ k.
          let t : d * (m * inverse + half) ≤ d * (2 * half * suc q) = mul-le-mul_left d (omega arith) in
          let u : half * (2 * (d * suc q)) ≤ half * (2 * m + d) = mul-le-mul_left half n.above in
          let e : 1 * excess ≤ m * excess = mul-le-mul_right excess (omega arith) in
          omega (arith, product, mod-lt (2 * half) least))

      product_below : (q : ℕ) → Nearest m d q → m * inverse < 2 * half * q + half
      product_below q n =
          by_contra (suc (m * inverse)) (2 * half * q + half) (λ k.
          let t : d * (2 * half * q + half) ≤ d * (m * inverse) = mul-le-mul_left d (omega arith) in
          let u : half * suc (2 * m) ≤ half * (2 * (d * q) + d) = mul-le-mul_left half n.below in
          let e : m * excess ≤ m * d = mul-le-mul_left m (omega arith) in
          omega (arith, product))

      near : Near (m * inverse) (nearest m d)
      near =
          let n = nearest_is m d least in
          record { above = product_above (nearest m d) n; below = product_below (nearest m d) n }

    -- ---- with a sign, where nothing is limited
    pub quotients : (x : ℤ) → nat_abs x * d < half → 2 * nat_abs x < 2 * (unit * d) + d
        → shr_z (pos half -ℤ x *ℤ pos inverse) (2 * half) ≡ quotient (neg_ℤ x) (pos d)
    quotients (pos m) h k =
        shift_down (m * inverse) (nearest m d) (near m h) ∙ ap neg_ℤ (sym (quotient_below m d least k)) ∙ sym (quotient_odd (pos m) (pos d))
    quotients (negsuc m) h k =
        ap (λ (z : ℤ). shr_z (pos half +ℤ z) (2 * half)) (neg_ℤ-neg_ℤ (pos (suc m * inverse)))
        ∙ shift_up (suc m * inverse) (nearest (suc m) d) (near (suc m) h) ∙ sym (quotient_below (suc m) d least k)

pub factor_most : (d : ℕ) → nat_abs (factor_of d) ≤ 2 ^ 47 + 1
unfolding inverse_of
factor_most d = omega (arith, div-le_self (2 ^ 47) d)

-- ---- the scale of 2 ^ 47: below the limit the product fits; taken from a half and divided, it is the quotient of −x
module _ (d : ℕ) (least : 0 < d) (most : d ≤ 64512) where
  pub prepared_fits : (x : ℤ) → nat_abs x < unit * d → nat_abs (x *ℤ factor_of d) ≤ 2 ^ 61 + 2 ^ 30
  prepared_fits x h =
      let t : nat_abs x * inverse_of (2 ^ 47) d ≤ unit * d * inverse_of (2 ^ 47) d = mul-le-mul_right (inverse_of (2 ^ 47) d) (omega arith) in
      rw (abs_mul x (factor_of d)) (omega (arith, whole (2 ^ 46) d least))

  pub prepared_quotients : (x : ℤ) → nat_abs x < unit * d → shr_z (pos (2 ^ 46) -ℤ x *ℤ factor_of d) (2 ^ 47) ≡ quotient (neg_ℤ x) (pos d)
  prepared_quotients x h =
      let a : nat_abs x * d ≤ unit * d * d = mul-le-mul_right d (omega arith) in
      let b : d * d ≤ 64512 * 64512 = mul-le-mul most most in
      quotients (2 ^ 46) d least x (omega arith) (omega arith)

  -- numbers that are these are made ready
  pub prepared_at : (limit inverse : ℤ) → limit ≡ pos (unit * d) → inverse ≡ factor_of d → (divisor_of limit ≡ d) × Prepared limit inverse
  prepared_at limit inverse e f =
      let n : divisor_of limit ≡ d = rw e (omega arith) in
      (n, record { above = rw n least; most = rw n most; limit_is = rw n e; inverse_is = rw n f })
