-- Document 01, 'Channel front'. Definitions only.
use Rattle.std.specs.Prelude.{Bool, true, false, not, ◌&&◌, cond, ℕ, zero, suc, ◌+◌, ◌*◌, ◌/◌, ◌%◌, ◌^◌, min, leb, ℤ, pos, Float}
use Rattle.std.specs.Float.{nan, inf, fin, binary32}
use Rattle.std.specs.Float.Ieee.{to_bits, mul, neg, lt}
use Rattle.integers.specs.Nearest.{nearest}
use Rattle.model.specs.Limits.{most_cost}
use Rattle.model.specs.declared.Channel.{Channel}
use Rattle.model.specs.declared.Channel.TheVariants.{Gaussian, Hard, Erasing}
use Rattle.model.specs.Causes.{◌if◌}
use Rattle.model.specs.Reflection.{negated_if}

-- ---- settings
abbrev pub finite : Float → Bool
finite nan = false
finite (inf s) = false
finite (fin s m e) = true

abbrev pub zero_float : Float
zero_float = fin false 0 (pos 0)

-- "Scale and weight are finite and above 0, the floor finite and not below 0."
abbrev pub scale_in_range : Float → Bool
scale_in_range x = lt zero_float x && finite x

abbrev pub floor_in_range : Float → Bool
floor_in_range x = not (lt x zero_float) && finite x

unfoldable pub in_range : Channel → Bool
in_range (Gaussian scale) = scale_in_range scale
in_range (Hard weight) = scale_in_range weight
in_range (Erasing e) = floor_in_range e.floor && scale_in_range e.weight

-- ---- the product of a sample
-- "Hard: weight for a sample above 0, its negative below, 0 at zero."
unfoldable pub hard : Float → Float → Float
hard weight x = cond (lt zero_float x) weight (cond (lt x zero_float) (neg weight) zero_float)

-- the sample's size
abbrev pub size_of : Float → Float
size_of x = cond (lt x zero_float) (neg x) x

-- "Gaussian: the f32 product of sample and scale." "Erasing: 0 if the sample's size is below the floor, otherwise as hard."
unfoldable pub product : Channel → Float → Float
product (Gaussian scale) x = mul binary32 x scale
product (Hard weight) x = hard weight x
product (Erasing e) x = cond (lt (size_of x) e.floor) zero_float (hard e.weight x)

-- ---- the cost of a product: "The meaning is given by the float's bits over whole numbers."
-- The magnitude that an exponent field and 23 digits stand for, in units of 2 ^ −149; a field of 0 has no leading digit.
abbrev pub units : ℕ → ℕ → ℕ
units zero digits = digits
units (suc field) digits = (2 ^ 23 + digits) * 2 ^ field

-- of 32 bits; the sign bit is the highest
abbrev pub magnitude : ℕ → ℕ
magnitude bits = units (bits % 2 ^ 31 / 2 ^ 23) (bits % 2 ^ 23)

-- "the nearest whole number, halves away from zero, limited to −32,767..32,767; an infinite product goes to the limit"
-- (the infinity's bits have the magnitude 2 ^ 277)
unfoldable pub cost_of_bits : ℕ → ℤ
cost_of_bits bits = negated_if (1 if leb (2 ^ 31) bits) (pos (min (nearest (magnitude bits) (2 ^ 149)) most_cost))

unfoldable pub cost_of : Channel → Float → ℤ
cost_of setting x = cost_of_bits (to_bits binary32 (product setting x))
