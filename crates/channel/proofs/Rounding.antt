-- The size of a cost grows with the bits, so the bits may be limited instead; and a shift works it out. Assumes nothing.
use Rattle.integers.proofs.Prelude.{◌≡◌, refl, sym, ap, ◌∙◌, ℕ, zero, suc, ◌+◌, ◌-◌, ◌*◌, ◌/◌, ◌%◌, ◌^◌, ◌≤◌, ◌<◌, min, max, arith, dec_lt}
use native.Mathlib.Nat.{le_trans, lt_of_lt_of_le, mul-le-mul_left, mul-le-mul_right, mul_assoc, mul-div-mul_right, pow-suc}
use lib.Pow.{pow_pos, pow_mono, pow-add, shl_lt, shl_exact}
use Rattle.integers.specs.Nearest.{nearest}
use Rattle.integers.proofs.Nearest.{nearest_mono}
use Rattle.model.specs.Channel.{units, magnitude}

-- the magnitude that 31 bits stand for, 8388608 being 2 ^ 23
abbrev plain : ℕ → ℕ
plain b = units (b / 8388608) (b % 8388608)

-- ---- it grows with the bits
up_to : (f t : ℕ) → t < 8388608 → units f t ≤ 8388608 * 2 ^ f
up_to zero t h = omega arith
up_to (suc x) t h = rw (pow-suc 2 x) (let m : (8388608 + t) * 2 ^ x ≤ 16777216 * 2 ^ x = mul-le-mul_right (2 ^ x) (omega arith) in omega arith)

from : (f g u : ℕ) → f < g → 8388608 * 2 ^ f ≤ units g u
from f zero u h = absurd (omega arith)
from f (suc x) u h = le_trans (mul-le-mul_left 8388608 (pow_mono {i = f} {j = x} (omega arith))) (mul-le-mul_right (2 ^ x) (omega arith))

units_mono : (f t u : ℕ) → t ≤ u → units f t ≤ units f u
units_mono zero t u h = h
units_mono (suc x) t u h = mul-le-mul_right (2 ^ x) (omega arith)

plain_mono : (a b : ℕ) → a ≤ b → plain a ≤ plain b
plain_mono a b h = by (dec_lt (a / 8388608) (b / 8388608))
  where
    by : Dec (a / 8388608 < b / 8388608) → plain a ≤ plain b
    by (yes l) = le_trans (up_to (a / 8388608) (a % 8388608) (omega arith)) (from (a / 8388608) (b / 8388608) (b % 8388608) l)
    by (no l) =
        let e : a / 8388608 ≡ b / 8388608 = omega arith in
        rw e (units_mono (b / 8388608) (a % 8388608) (b % 8388608) (omega arith))

-- ---- where f grows from 0 at l to k at h, it may be limited before or after
module _ (f : ℕ → ℕ) (grows : (a b : ℕ) → a ≤ b → f a ≤ f b) (l h k : ℕ) (order : l ≤ h) (first : f l ≡ 0) (last : f h ≡ k) where
  limited_first : (a : ℕ) → min (f a) k ≡ f (max l (min a h))
  limited_first a = by (dec_lt a l) (dec_lt a h)
    where
      by : Dec (a < l) → Dec (a < h) → min (f a) k ≡ f (max l (min a h))
      by (yes p) q = let e : max l (min a h) ≡ l = omega arith in rw e (omega (arith, grows a l (omega arith)))
      by (no p) (yes q) = let e : max l (min a h) ≡ a = omega arith in rw e (omega (arith, grows a h (omega arith)))
      by (no p) (no q) = let e : max l (min a h) ≡ h = omega arith in rw e (omega (arith, grows h a (omega arith)))

-- ---- the shift
cut : (y p : ℕ) → 0 < p → nearest (y * p) (33554432 * p) ≡ (y + 16777216) / 33554432
cut y p h =
    let e : 2 * (y * p) + 33554432 * p ≡ (y + 16777216) * (2 * p) = omega arith in
    let d : 2 * (33554432 * p) ≡ 33554432 * (2 * p) = omega arith in
    rw (e, d) (mul-div-mul_right (y + 16777216) 33554432 (omega arith))

field : (k t : ℕ) → units (suc (k + 124)) t ≡ (8388608 + t) * 2 ^ k * 2 ^ 124
field k t = rw (pow-add 2 k 124) (sym (mul_assoc (8388608 + t) (2 ^ k) (2 ^ 124)))

abbrev pub shifted : ℕ → ℕ
shifted b = (8388608 + b % 8388608) * 2 ^ (b / 8388608 - 125)

shifted_is : (b : ℕ) → 0x3e80_0000 ≤ b → nearest (plain b) (2 ^ 149) ≡ (shifted b + 16777216) / 33554432
shifted_is b h =
    let e : b / 8388608 ≡ suc (b / 8388608 - 125 + 124) = omega arith in
    ap (λ (f : ℕ). nearest (units f (b % 8388608)) (2 ^ 149)) e
    ∙ ap (λ (n : ℕ). nearest n (2 ^ 149)) (field (b / 8388608 - 125) (b % 8388608))
    ∙ cut (shifted b) (2 ^ 124) (pow_pos 124)

-- ---- the code's expression
abbrev limited : ℕ → ℕ
limited bits = max 0x3e80_0000 (min (bits % 2147483648) 0x46ff_fe00)

unsigned : (bits : ℕ) → magnitude bits ≡ plain (bits % 2147483648)
unsigned bits =
    let e : bits % 8388608 ≡ bits % 2147483648 % 8388608 = omega arith in
    ap (units (bits % 2147483648 / 8388608)) e

pub size_is : (bits : ℕ) → (shifted (limited bits) + 16777216) / 33554432 ≡ min (nearest (magnitude bits) (2 ^ 149)) 32767
size_is bits =
    sym (shifted_is (limited bits) (omega arith))
    ∙ sym (limited_first (λ b. nearest (plain b) (2 ^ 149)) (λ a b h. nearest_mono (plain a) (plain b) (2 ^ 149) (pow_pos 149) (plain_mono a b h))
    0x3e80_0000 0x46ff_fe00 32767 (omega arith) refl refl (bits % 2147483648))
    ∙ ap (λ (n : ℕ). min (nearest n (2 ^ 149)) 32767) (sym (unsigned bits))

-- it fits 64 bits, with room
pub shift_fits : (b : ℕ) → b < 0x4800_0000 → (shifted b % 2 ^ 64 ≡ shifted b) × (shifted b < 2 ^ 42)
shift_fits b h =
    let k = b / 8388608 - 125 in
    let d : 8388608 + b % 8388608 < 2 ^ 24 = omega arith in
    (shl_exact 24 k 64 d (omega arith), lt_of_lt_of_le (shl_lt 24 k d) (pow_mono {i = 24 + k} {j = 42} (omega arith)))
