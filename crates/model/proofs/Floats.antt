-- Floats: comparisons with zero, and what `round` and `mul` make of a sign. Assumes nothing.
use Rattle.integers.proofs.Prelude.{◌≡◌, refl, sym, ◌∙◌, Bool, true, false, not, cond, ◌&&◌, ℕ, zero, suc, ◌+◌, ◌-◌, ◌*◌, ◌/◌, ◌%◌, ◌^◌, arith, le-ltb, ltb}
use Rattle.integers.proofs.Prelude.{ℤ}
use Prim.Native.Nat.{compare}
use native.Mathlib.Nat.{zero-mul, mul-one, add-zero}
use lib.Ieee.{Float, nan, inf, fin, Format, prec, emax, low, up, nearest, size, odd, units, round, neg, lt, is_nan}
use Rattle.model.specs.Channel.{finite, zero_float, size_of}

-- ---- comparisons with zero
pub above_zero : (s : Bool) (m : ℕ) (e : ℤ) → lt zero_float (fin s m e) ≡ (not s && ltb 0 (m * up e))
unfolding lt
above_zero true m e = refl
above_zero false m e = simp (zero-mul, mul-one)

pub below_zero : (s : Bool) (m : ℕ) (e : ℤ) → lt (fin s m e) zero_float ≡ (s && ltb 0 (m * up e))
unfolding lt
below_zero true m e = simp (zero-mul, mul-one, add-zero)
below_zero false m e = simp zero-mul (le-ltb (m * up e * 1) 0 (omega arith))

-- a size is not below zero, and is finite where the float is
pub size_not_below : (x : Float) → lt (size_of x) zero_float ≡ false
unfolding neg lt
size_not_below nan = refl
size_not_below (inf true) = refl
size_not_below (inf false) = refl
size_not_below (fin s m e) = by (lt (fin s m e) zero_float) refl
  where
    other : (s t : Bool) → (s && t) ≡ true → (not s && t) ≡ false
    other true t h = refl
    other false t h = cc

    by : (t : Bool) → lt (fin s m e) zero_float ≡ t → lt (cond t (neg (fin s m e)) (fin s m e)) zero_float ≡ false
    by true h = below_zero (not s) m e ∙ other s (ltb 0 (m * up e)) (sym (below_zero s m e) ∙ h)
    by false h = h

pub size_finite : (x : Float) → lt (size_of x) (inf false) ≡ finite x
unfolding neg lt
size_finite nan = refl
size_finite (inf true) = refl
size_finite (inf false) = refl
size_finite (fin s m e) = by (lt (fin s m e) zero_float)
  where
    by : (t : Bool) → lt (cond t (neg (fin s m e)) (fin s m e)) (inf false) ≡ true
    by true = refl
    by false = refl

-- ---- a float of either sign: no NaN, and its negative where the sign is the other
pub record Signed (x : Bool → Float) : Type 0 where
  pub number : (s : Bool) → is_nan (x s) ≡ false
  pub opposite : (s : Bool) → x (not s) ≡ neg (x s)

odd_signed : (d q k l : ℕ) → Signed (λ s. odd d s q k l)
unfolding odd neg is_nan
odd_signed d zero k l = record { number = λ s. refl; opposite = λ s. refl }
odd_signed d (suc q) k l = record { number = λ s. refl; opposite = λ s. refl }

units_signed : (f : Format) (q k : ℕ) → Signed (λ s. units f s q k)
unfolding units neg is_nan
units_signed f q k = by (ltb (q * 2 ^ k) (2 ^ (low f + suc (emax f))))
  where
    by : (t : Bool) → Signed (λ s. cond t (odd (suc (prec f)) s q k (low f)) (inf s))
    by true = odd_signed (suc (prec f)) q k (low f)
    by false = record { number = λ s. refl; opposite = λ s. refl }

pub round_signed : (f : Format) (a b : ℕ) → Signed (λ s. round f s a b)
unfolding round
round_signed f a b =
    let n = a * 2 ^ low f in
    let k = size (n / b) - prec f in
    let u = b * 2 ^ k in
    units_signed f (nearest (n / u) (compare (n % u * 2) u)) k
