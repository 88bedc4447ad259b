-- The two parts of an integer. Definitions only.
use Rattle.std.specs.Prelude.{ℕ, suc, ℤ, pos, negsuc}

-- the larger of 0 and z
abbrev pub up : ℤ → ℕ
up (pos n) = n
up (negsuc n) = 0

-- the larger of 0 and −z
abbrev pub dn : ℤ → ℕ
dn (pos n) = 0
dn (negsuc n) = suc n
