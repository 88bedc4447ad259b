-- The quotient: "rounded to nearest, halves away from zero, then limited to −U..U".
-- `quotient` is shut to the crates above: the gate refuses one that unfolds it. What they have of it are the laws in `proofs/Laws`.
use Rattle.std.specs.Prelude.{cond, ℕ, suc, ◌+◌, ◌*◌, ◌≤◌, ◌<◌, min, ℤ, pos, negsuc, neg_ℤ, nat_abs}
use Rattle.std.specs.Int.Signed.{lt_z}
use Rattle.integers.specs.Nearest.{nearest}

-- U
abbrev pub unit : ℕ
unit = 16384

-- no divisor of a run is larger: 256 × e − A of a variable in 2,048 triples
abbrev pub most_divisor : ℕ
most_divisor = 1024 * 2048

-- and none that is prepared: in 63 triples
abbrev pub most_prepared : ℕ
most_prepared = 1024 * 63

-- those of lanes: in 2 to 8 triples
abbrev pub least_narrow : ℕ
least_narrow = 1025

abbrev pub most_narrow : ℕ
most_narrow = 1024 * 8

-- of magnitudes: nearest, halves up, at most U
unfoldable pub limited : ℕ → ℕ → ℕ
limited n d = min (nearest n d) unit

-- n / d for a d above 0
unfoldable pub quotient : ℤ → ℤ → ℤ
quotient (pos n) d = pos (limited n (nat_abs d))
quotient (negsuc n) d = neg_ℤ (pos (limited (suc n) (nat_abs d)))

-- q is n / d, all three being magnitudes: within the limit; at most half above n / d; and, below the limit, less than half below it
pub record Rounded (n d q : ℕ) : Type 0 where
  pub range : q ≤ unit
  pub above : 2 * (d * q) ≤ 2 * n + d
  pub below : q < unit → 2 * n < 2 * (d * q) + d

-- n has a size below U times the divisor: what divides asks it, since from there on the limit is known
abbrev pub BelowLimit : ℤ → ℤ → Type 0
BelowLimit n d = nat_abs n < unit * nat_abs d

-- q with the sign of z
abbrev pub signed : ℤ → ℕ → ℤ
signed z q = cond (lt_z z (pos 0)) (neg_ℤ (pos q)) (pos q)
