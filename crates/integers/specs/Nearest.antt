-- Rounding of a fraction of natural numbers. Definitions only.
use Rattle.std.specs.Prelude.{ℕ, ◌+◌, ◌*◌, ◌/◌, ◌≤◌, ◌<◌}

-- the natural number nearest to n / d, the upper one of two
abbrev pub nearest : ℕ → ℕ → ℕ
nearest n d = (2 * n + d) / (2 * d)

-- q is at most half above n / d, and less than half below it
pub record Nearest (n d q : ℕ) : Type 0 where
  pub above : 2 * (d * q) ≤ 2 * n + d
  pub below : 2 * n < 2 * (d * q) + d
