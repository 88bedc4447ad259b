-- Document 01, 'Points and reflection': words, codewords and points. Definitions only.
use Rattle.std.specs.Prelude.{◌≡◌, cond, List, [], ◌∷◌, ◌++◌, ℕ, zero, suc, ◌+◌, ◌%◌, ◌<◌, eqb, ℤ, pos, neg_ℤ, length, get_or, ◌≤ℤ◌}
use Rattle.lists.specs.Entries.{total}
use Rattle.quotient.specs.Quotient.{unit}
use Rattle.model.specs.Code.{Code}
use Rattle.model.specs.Splitting.{System, system_of, member}
use Rattle.model.specs.Iteration.{row_sum}
use Rattle.model.specs.Words.{bit_at}

-- n entries 0 or 1: "A word has one entry 0 or 1 per bit", "A point has one entry 0 or 1 per variable"
pub record Bits (n : ℕ) (w : List ℕ) : Type 0 where
  pub long : length w ≡ n
  pub binary : (i : ℕ) → bit_at w i < 2

-- "it is a codeword when its sum over each check of the records is even"
pub record Codeword (k : Code) (w : List ℕ) : Type 0 where
  pub word : Bits k.bits w
  pub even : (j : ℕ) → j < length k.checks → total (bit_at w) (get_or k.checks j []) % 2 ≡ 0

-- "The centred value c of a variable is −U for 0 and U for 1"
abbrev pub centred : ℕ → ℤ
centred zero = neg_ℤ (pos unit)
centred (suc b) = pos unit

-- of the variable at position i of triple t; the blank lies past every point's end, where an entry reads as 0, so that its c is −U
abbrev pub centred_at : System → List ℕ → ℕ → ℕ → ℤ
centred_at g p t i = centred (bit_at p (member g.members t i))

-- "it meets the system when, at its centred values, all four sums of each triple are at most U" (000, equations 4 to 6)
pub record Point (g : System) (p : List ℕ) : Type 0 where
  pub point : Bits g.variables p
  pub meets : (t r : ℕ) → t < g.triples → r < 4
      → row_sum r (centred_at g p t 0) (centred_at g p t 1) (centred_at g p t 2) ≤ℤ pos unit

-- Along the recorded triples: where a triple's third is the next auxiliary, it was recorded when that was made, and "each auxiliary's entry
-- is the sum modulo 2 of the entries of the first two items of the triple recorded when it was made"
unfoldable pub extend : List ℕ → List ℕ → List ℕ
extend [] p = p
extend (a ∷ []) p = p
extend (a ∷ b ∷ []) p = p
extend (a ∷ b ∷ c ∷ ts) p = extend ts (cond (eqb c (length p)) (p ++ ((bit_at p a + bit_at p b) % 2 ∷ [])) p)

-- "A codeword's point begins with it"
abbrev pub point_of : Code → List ℕ → List ℕ
point_of k w = extend (system_of k).members w
