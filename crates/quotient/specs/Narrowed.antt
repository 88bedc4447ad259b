-- What is made ready for a divisor of lanes: a 256th of the limit of what is divided by it, what is multiplied in its place, and what is added to a product.
use Rattle.std.specs.Prelude.{◌≡◌, ℕ, ◌+◌, ◌-◌, ◌*◌, ◌/◌, ◌^◌, ◌≤◌, ℤ, pos, nat_abs, ◌+ℤ◌, ◌-ℤ◌, ◌*ℤ◌}
use Rattle.std.specs.Int.Signed.{shr_z}
use Rattle.integers.specs.Parts.{up}
use Rattle.quotient.specs.Quotient.{unit, least_narrow, most_narrow}
use Rattle.quotient.specs.Prepared.{inverse_of}

-- how far x lies below m, where x is limited to −m..m
abbrev pub gap_of : ℕ → ℤ → ℕ
gap_of m x = 2 * m - up (x +ℤ pos m)

-- what w has above 256 times its 256th, rounded down
abbrev pub rest_of : ℤ → ℕ
rest_of w = up (w -ℤ pos 256 *ℤ shr_z w 256)

-- 256 x and the rest of w, where x is limited to −m..m, counted down from 256 m + 255
abbrev pub dividend_of : ℕ → ℤ → ℤ → ℕ
dividend_of m x w = 256 * gap_of m x + (255 - rest_of w)

-- a 256th of the limit of a divisor, and its inverse at the scale of 2 ^ 42
abbrev pub narrow_limit_of : ℕ → ℤ
narrow_limit_of d = pos (64 * d)

abbrev pub narrow_inverse_of : ℕ → ℕ
narrow_inverse_of d = inverse_of (2 ^ 42) d

-- what is added: U and a half at that scale, less the product of the most that is divided
unfoldable pub raise_of : ℕ → ℕ
raise_of d = 2 ^ 42 * unit + 2 ^ 41 - (256 * (64 * d) + 255) * narrow_inverse_of d

-- the divisor that has this limit
abbrev pub narrow_divisor_of : ℤ → ℕ
narrow_divisor_of limit = nat_abs limit / 64

-- limit, inverse and raise are those of one divisor
pub record Narrowed (limit : ℤ) (inverse raise : ℕ) : Type 0 where
  pub least : least_narrow ≤ narrow_divisor_of limit
  pub most : narrow_divisor_of limit ≤ most_narrow
  pub limit_is : limit ≡ narrow_limit_of (narrow_divisor_of limit)
  pub inverse_is : inverse ≡ narrow_inverse_of (narrow_divisor_of limit)
  pub raise_is : raise ≡ raise_of (narrow_divisor_of limit)
