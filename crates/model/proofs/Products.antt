-- Products of samples and their costs. Assumes nothing.
use Rattle.integers.proofs.Prelude.{◌≡◌, refl, sym, ap, subst, ◌∙◌, Bool, true, false, not, cond, ◌&&◌, ℕ, ◌+◌, ◌*◌, ◌%◌, ◌<◌, arith, lt-leb, le-leb, T, ltb}
use Rattle.integers.proofs.Prelude.{ℤ, neg_ℤ}
use lib.IntN.{neg_ℤ-neg_ℤ}
use lib.Ieee.{Float, nan, inf, fin, Format, binary32, up, down, unlike, neg, mul, lt, fits, is_nan, to_bits}
use lib.Ieee.Bits.{to_bits-lt, is_true}
use lib.Ieee.Fits.{mul-fits, neg-fits}
use Rattle.lists.proofs.Tests.{and_right}
use Rattle.model.specs.declared.Erasure.{Erasure}
use Rattle.model.specs.declared.Channel.{Channel}
use Rattle.model.specs.declared.Channel.TheVariants.{Gaussian, Hard, Erasing}
use Rattle.model.specs.Channel.{finite, zero_float, scale_in_range, floor_in_range, in_range, hard, size_of, product, cost_of_bits, cost_of}
use Rattle.model.specs.ChannelClaims.{of_singles}
use Rattle.model.proofs.Floats.{above_zero, below_zero, size_not_below, round_signed}

-- the cost of a product
abbrev cost : Float → ℤ
cost y = cost_of_bits (to_bits binary32 y)

pub scale_finite : (x : Float) → scale_in_range x ≡ true → finite x ≡ true
scale_finite x = and_right (lt zero_float x) (finite x)

pub weight_in_range : (p : Erasure) → in_range (Erasing p) ≡ true → scale_in_range p.weight ≡ true
unfolding in_range
weight_in_range p = and_right (floor_in_range p.floor) (scale_in_range p.weight)

weight_single : (p : Erasure) → of_singles (Erasing p) ≡ true → fits binary32 p.weight ≡ true
weight_single p = and_right (fits binary32 p.floor) (fits binary32 p.weight)

-- ---- products
-- the product of finite floats is no NaN, and negative where one of them is turned
pub mul_number : (f : Format) (x y : Float) → finite x ≡ true → finite y ≡ true → is_nan (mul f x y) ≡ false
unfolding mul
mul_number f nan y h k = cc
mul_number f (inf s) y h k = cc
mul_number f (fin s m e) nan h k = cc
mul_number f (fin s m e) (inf t) h k = cc
mul_number f (fin s m e) (fin t n d) h k = (round_signed f (m * up e * (n * up d)) (down e * down d)).number (unlike s t)

unlike_not : (s t : Bool) → unlike (not s) t ≡ not (unlike s t)
unlike_not true true = refl
unlike_not true false = refl
unlike_not false true = refl
unlike_not false false = refl

mul_opposite : (f : Format) (x y : Float) → finite x ≡ true → finite y ≡ true → mul f (neg x) y ≡ neg (mul f x y)
unfolding mul neg
mul_opposite f nan y h k = cc
mul_opposite f (inf s) y h k = cc
mul_opposite f (fin s m e) nan h k = cc
mul_opposite f (fin s m e) (inf t) h k = cc
mul_opposite f (fin s m e) (fin t n d) h k = rw (unlike_not s t) ((round_signed f (m * up e * (n * up d)) (down e * down d)).opposite (unlike s t))

-- a floor of 0 erases nothing
abbrev pub no_floor : Float → Erasure
no_floor weight = record { floor = zero_float; weight = weight }

pub hard_erasing : (weight x : Float) → product (Hard weight) x ≡ product (Erasing (no_floor weight)) x
unfolding product
hard_erasing weight x = rw (size_not_below x)

-- what a sample other than 0 gets by its sign, unless it is erased
erasing_product : (p : Erasure) (s : Bool) (m : ℕ) (e : ℤ)
    → product (Erasing p) (fin s m e)
    ≡ cond (ltb 0 (m * up e)) (cond (lt (fin false m e) p.floor) zero_float (cond s (neg p.weight) p.weight)) zero_float
unfolding product hard neg
erasing_product p s m e = rw (above_zero s m e, below_zero s m e) (by s (ltb 0 (m * up e)))
  where
    zeros : (t : Bool) → cond t zero_float zero_float ≡ zero_float
    zeros true = refl
    zeros false = refl

    by : (s t : Bool)
        → cond (lt (cond (s && t) (fin (not s) m e) (fin s m e)) p.floor) zero_float (cond (not s && t) p.weight (cond (s && t) (neg p.weight) zero_float))
        ≡ cond t (cond (lt (fin false m e) p.floor) zero_float (cond s (neg p.weight) p.weight)) zero_float
    by true true = refl
    by true false = zeros (lt (fin true m e) p.floor)
    by false true = refl
    by false false = zeros (lt (fin false m e) p.floor)

-- ---- an f32 value, and no NaN
pub finite_number : (x : Float) → finite x ≡ true → (is_nan x ≡ false) × (is_nan (neg x) ≡ false)
unfolding is_nan neg
finite_number nan h = (cc, cc)
finite_number (inf s) h = (cc, cc)
finite_number (fin s m e) h = (refl, refl)

-- what holds of 0, of the weight and of its negative
module _ (P : Float → Type 0) (p : Erasure) (x : Float) where
  one_of : (t : Bool) (y z : Float) → P y → P z → P (cond t y z)
  one_of true y z a b = a
  one_of false y z a b = b

  each_of : P zero_float → P p.weight → P (neg p.weight) → P (product (Erasing p) x)
  unfolding product hard
  each_of n a b =
      one_of (lt (size_of x) p.floor) zero_float _ n (one_of (lt zero_float x) p.weight _ a (one_of (lt x zero_float) (neg p.weight) zero_float b n))

erasing_number : (p : Erasure) (x : Float) → finite p.weight ≡ true → is_nan (product (Erasing p) x) ≡ false
unfolding is_nan
erasing_number p x h = let w = finite_number p.weight h in each_of (λ y. is_nan y ≡ false) p x refl w.0 w.1

pub product_number : (setting : Channel) (x : Float) → in_range setting ≡ true → finite x ≡ true → is_nan (product setting x) ≡ false
unfolding in_range
product_number (Gaussian scale) x h k = unfold product in mul_number binary32 x scale k (scale_finite scale h)
product_number (Hard weight) x h k = rw (hard_erasing weight x) (erasing_number (no_floor weight) x (scale_finite weight h))
product_number (Erasing p) x h k = erasing_number p x (scale_finite p.weight (weight_in_range p h))

erasing_single : (p : Erasure) (x : Float) → fits binary32 p.weight ≡ true → fits binary32 (product (Erasing p) x) ≡ true
unfolding fits
erasing_single p x h = each_of (λ y. fits binary32 y ≡ true) p x refl h (is_true _ (neg-fits binary32 p.weight (subst T (sym h) tt)))

pub product_single : (setting : Channel) (x : Float) → of_singles setting ≡ true → fits binary32 (product setting x) ≡ true
product_single (Gaussian scale) x h = unfold product in is_true _ (mul-fits binary32 x scale)
product_single (Hard weight) x h = rw (hard_erasing weight x) (erasing_single (no_floor weight) x h)
product_single (Erasing p) x h = erasing_single p x (weight_single p h)

-- ---- the sign bit
sign_bit : (a q : ℕ) → 2147483648 + a + q < 4294967296 → cost_of_bits (2147483648 + a + q) ≡ neg_ℤ (cost_of_bits (0 + a + q))
unfolding cost_of_bits
sign_bit a q h =
    rw (le-leb 2147483648 (2147483648 + a + q) (omega arith), lt-leb 2147483648 (0 + a + q) (omega arith), field, digits)
  where
    field : (2147483648 + a + q) % 2147483648 ≡ (0 + a + q) % 2147483648
    field = omega arith

    digits : (2147483648 + a + q) % 8388608 ≡ (0 + a + q) % 8388608
    digits = omega arith

cost_opposite : (x : Float) → fits binary32 x ≡ true → is_nan x ≡ false → cost (neg x) ≡ neg_ℤ (cost x)
unfolding to_bits neg is_nan
cost_opposite nan h k = cc
cost_opposite (inf true) h k = unfold cost_of_bits in refl
cost_opposite (inf false) h k = unfold cost_of_bits in refl
cost_opposite (fin false m e) h k = sign_bit _ _ (to_bits-lt binary32 (fin true m e) (neg-fits binary32 (fin false m e) (subst T (sym h) tt)))
cost_opposite (fin true m e) h k = sym (neg_ℤ-neg_ℤ _) ∙ ap neg_ℤ (sym (sign_bit _ _ (to_bits-lt binary32 (fin true m e) (subst T (sym h) tt))))

-- ---- "Negated samples give negated costs"
-- by the sample's sign s; t: it is not 0, u: it is erased
turns : (w : Float) (s t u : Bool) → cost (neg w) ≡ neg_ℤ (cost w)
    → cost (cond t (cond u zero_float (cond (not s) (neg w) w)) zero_float) ≡ neg_ℤ (cost (cond t (cond u zero_float (cond s (neg w) w)) zero_float))
unfolding to_bits cost_of_bits
turns w s false u h = refl
turns w s true true h = refl
turns w true true false h = sym (ap neg_ℤ h ∙ neg_ℤ-neg_ℤ (cost w))
turns w false true false h = h

erasing_opposite : (p : Erasure) (x : Float) → fits binary32 p.weight ≡ true → finite p.weight ≡ true → finite x ≡ true
    → cost (product (Erasing p) (neg x)) ≡ neg_ℤ (cost (product (Erasing p) x))
unfolding neg
erasing_opposite p nan h w k = cc
erasing_opposite p (inf s) h w k = cc
erasing_opposite p (fin s m e) h w k =
    rw (erasing_product p (not s) m e, erasing_product p s m e)
    (turns p.weight s (ltb 0 (m * up e)) (lt (fin false m e) p.floor) (cost_opposite p.weight h (finite_number p.weight w).0))

gaussian_opposite : (scale x : Float) → finite scale ≡ true → finite x ≡ true → product (Gaussian scale) (neg x) ≡ neg (product (Gaussian scale) x)
unfolding product
gaussian_opposite scale x h k = mul_opposite binary32 x scale k h

pub cost_negated : (setting : Channel) (x : Float) → of_singles setting ≡ true → in_range setting ≡ true → finite x ≡ true
    → cost_of setting (neg x) ≡ neg_ℤ (cost_of setting x)
unfolding cost_of in_range
cost_negated (Gaussian scale) x h r k =
    ap cost (gaussian_opposite scale x (scale_finite scale r) k)
    ∙ cost_opposite (product (Gaussian scale) x) (product_single (Gaussian scale) x h) (product_number (Gaussian scale) x r k)
cost_negated (Hard weight) x h r k =
    rw (hard_erasing weight (neg x), hard_erasing weight x) (erasing_opposite (no_floor weight) x h (scale_finite weight r) k)
cost_negated (Erasing p) x h r k = erasing_opposite p x (weight_single p h) (scale_finite p.weight (weight_in_range p r)) k
