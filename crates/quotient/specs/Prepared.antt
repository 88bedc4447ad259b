-- What is made ready for a divisor: the limit of what is divided by it, and what is multiplied in its place.
use Rattle.std.specs.Prelude.{◌≡◌, ℕ, ◌+◌, ◌*◌, ◌/◌, ◌^◌, ◌≤◌, ◌<◌, ℤ, pos, nat_abs}
use Rattle.quotient.specs.Quotient.{unit, most_prepared}

-- the next whole number above scale / d: a product with it, divided by the scale, takes the place of a division by d
unfoldable pub inverse_of : ℕ → ℕ → ℕ
inverse_of scale d = scale / d + 1

-- the limit of a divisor, and its inverse at the scale of 2 ^ 47
abbrev pub limit_of : ℕ → ℤ
limit_of d = pos (unit * d)

abbrev pub factor_of : ℕ → ℤ
factor_of d = pos (inverse_of (2 ^ 47) d)

-- the divisor that has this limit
abbrev pub divisor_of : ℤ → ℕ
divisor_of limit = nat_abs limit / unit

-- limit and inverse are those of one divisor
pub record Prepared (limit inverse : ℤ) : Type 0 where
  pub above : 0 < divisor_of limit
  pub most : divisor_of limit ≤ most_prepared
  pub limit_is : limit ≡ limit_of (divisor_of limit)
  pub inverse_is : inverse ≡ factor_of (divisor_of limit)
