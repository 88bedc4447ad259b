-- Document 01, 'One iteration', and document 02, L6. Definitions only.
-- The division is a parameter, so that worked numbers compute; the decoder's is `quotient`.
use Rattle.std.specs.Prelude.{Bool, true, false, cond, List, [], ◌∷◌, ℕ, ◌+◌, ◌*◌, ◌/◌, ◌%◌, eqb, ℤ, pos, negsuc, neg_ℤ, ◌+ℤ◌, ◌-ℤ◌, ◌*ℤ◌, get_or}
use Rattle.integers.specs.Parts.{up, dn}
use Rattle.integers.specs.Sum.{sum_ℕ, sum_ℤ}
use Rattle.lists.specs.Tabulated.{tab}
use Rattle.quotient.specs.Quotient.{unit}
use Rattle.model.specs.declared.Settings.{Settings}
use Rattle.model.specs.Causes.{◌if◌}
use Rattle.model.specs.Splitting.{System, blank, member}

-- an entry of a list, 0 past its end: so "an auxiliary's [cost] is 0"
abbrev pub at : List ℤ → ℕ → ℤ
at l i = get_or l i (pos 0)

-- ---- rows
-- the signs of "c1−c2−c3, −c1+c2−c3, −c1−c2+c3, c1+c2+c3" (000, equation 5)
abbrev pub signs : List (List ℤ)
signs =
    (pos 1 ∷ negsuc 0 ∷ negsuc 0 ∷ [])
    ∷ (negsuc 0 ∷ pos 1 ∷ negsuc 0 ∷ [])
    ∷ (negsuc 0 ∷ negsuc 0 ∷ pos 1 ∷ [])
    ∷ (pos 1 ∷ pos 1 ∷ pos 1 ∷ [])
    ∷ []

-- of row r, at position p
unfoldable pub sign : ℕ → ℕ → ℤ
sign r p = at (get_or signs r []) p

-- "The four sums of a triple"
unfoldable pub row_sum : ℕ → ℤ → ℤ → ℤ → ℤ
row_sum r c1 c2 c3 = sign r 0 *ℤ c1 +ℤ sign r 1 *ℤ c2 +ℤ sign r 2 *ℤ c3

-- c of the variable v; document 02, L6: "The blank's c is −U from the start and is never renewed"
abbrev pub value_at : List ℤ → ℕ → ℤ
value_at c v = cond (eqb v blank) (neg_ℤ (pos unit)) (at c v)

-- the sum of row r of triple t
abbrev pub sum_at : List ℕ → List ℤ → ℕ → ℕ → ℤ
sum_at ts c t r = row_sum r (value_at c (member ts t 0)) (value_at c (member ts t 1)) (value_at c (member ts t 2))

-- "A triple takes … four [entries] of s, in row order": row r of triple t
abbrev pub row : List ℤ → ℕ → ℕ → ℤ
row s t r = at s (4 * t + r)

-- "Its slack z is the larger of 0 and −s; its scaled multiplier p the larger of 0 and s" (000: z, and y divided by mu)
abbrev pub slack : ℤ → ℕ
slack s = dn s

abbrev pub multiplier : ℤ → ℕ
multiplier s = up s

-- ---- "First every c is renewed from the old s."
-- z + p over the four rows of triple t, with the signs of position p
unfoldable pub share : List ℤ → ℕ → ℕ → ℤ
share s t p = sum_ℤ 4 (λ r. sign r p *ℤ pos (slack (row s t r) + multiplier (row s t r)))

-- z where the test passes, otherwise 0
infix 80 ◌when◌
abbrev pub ◌when◌ : ℤ → Bool → ℤ
z when true = z
z when false = pos 0

-- "S is the sum over its rows of z + p, with the sign that the variable has in that row"; the blank is no variable, so its share is in no S
unfoldable pub sum_of : List ℕ → ℕ → List ℤ → ℕ → ℤ
sum_of ts T s v = sum_ℤ T (λ t. sum_ℤ 3 (λ p. share s t p when eqb (member ts t p) v))

-- "For a variable in e/4 triples": e/4 (the three variables of a triple differ, so that its places are its triples)
unfoldable pub occurrences : List ℕ → ℕ → ℕ → ℕ
occurrences ts T v = sum_ℕ T (λ t. sum_ℕ 3 (λ p. 1 if eqb (member ts t p) v))

-- "−(256 × S + W × L) divided by 256 × e − A" (000, equation 15)
abbrev pub numerator : ℕ → ℤ → ℤ → ℤ
numerator W S L = neg_ℤ (pos 256 *ℤ S +ℤ pos W *ℤ L)

abbrev pub divisor : ℕ → ℕ → ℤ
divisor e A = pos (256 * e) -ℤ pos A

-- ---- "Then each row: s becomes p + sum − U, with the old p and new c." (000, equations 17 and 18)
abbrev pub renewed : ℤ → ℤ → ℤ
renewed s sum = pos (multiplier s) +ℤ sum -ℤ pos unit

-- entry i of the rows, which is row i % 4 of triple i / 4
abbrev pub renewed_at : List ℕ → List ℤ → List ℤ → ℕ → ℤ
renewed_at ts s c i = renewed (at s i) (sum_at ts c (i / 4) (i % 4))

-- ---- one iteration
-- the running values of the lent lists: S of the last iteration and c for each variable, s for each row
pub record State : Type 0 where
  pub sums : List ℤ
  pub values : List ℤ
  pub rows : List ℤ

unfoldable pub sums_of : System → List ℤ → List ℤ
sums_of g s = tab g.variables (sum_of g.members g.triples s)

unfoldable pub counts_of : System → List ℕ
counts_of g = tab g.variables (occurrences g.members g.triples)

unfoldable pub rows_of : System → List ℤ → List ℤ → List ℤ
rows_of g s c = tab (4 * g.triples) (renewed_at g.members s c)

module _ (div : ℤ → ℤ → ℤ) (g : System) (o : Settings) (costs : List ℤ) where
  -- c of variable v, from its S. "The penalty acts on auxiliaries too."
  abbrev pub value_of : List ℤ → ℕ → ℤ
  value_of S v = div (numerator o.weight (at S v) (at costs v)) (divisor (4 * occurrences g.members g.triples v) o.ratio)

  unfoldable pub values_of : List ℤ → List ℤ
  values_of S = tab g.variables (value_of S)

  unfoldable pub iterate : State → State
  iterate a = let S = sums_of g a.rows in let c = values_of S in record { sums = S; values = c; rows = rows_of g a.rows c }
