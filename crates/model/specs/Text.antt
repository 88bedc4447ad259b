-- Numbers as text, in ASCII. Definitions only.
use Rattle.std.specs.Prelude.{cond, List, [], ◌∷◌, ◌++◌, ℕ, zero, suc, ◌+◌, ◌/◌, ◌%◌, ltb}

-- the decimal digits of x, the first not 0 unless it stands alone; at most so many, of which there are never more than x + 1
abbrev pub digits : ℕ → ℕ → List ℕ
digits zero x = []
digits (suc most) x = cond (ltb x 10) [] (digits most (x / 10)) ++ ((48 + x % 10) ∷ [])

unfoldable pub decimal : ℕ → List ℕ
decimal x = digits (suc x) x
