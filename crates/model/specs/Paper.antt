-- The update is the paper's (source document 000). Statements only; the proofs are in proofs/Paper.antt.
-- A variable's v of the paper is 1/2 + c/(2U), so 2U × v is U + c. The slack z and the scaled multiplier p of document 01 are 2U times the paper's z
-- and y/mu. The paper's alpha/mu is A/256, and its q/mu is (W × L)/(512 × U). Each equation is multiplied by what makes it one of whole numbers.
use Rattle.std.specs.Prelude.{◌≡◌, List, [], ◌∷◌, ℕ, ◌*◌, ◌<◌, eqb, ℤ, pos, ◌+ℤ◌, ◌-ℤ◌, ◌*ℤ◌}
use Rattle.integers.specs.Parts.{up, dn}
use Rattle.integers.specs.Sum.{sum_ℤ}
use Rattle.quotient.specs.Quotient.{unit, quotient}
use Rattle.model.specs.declared.Settings.{Settings}
use Rattle.model.specs.Splitting.{System, member}
use Rattle.model.specs.Iteration.{at, value_at, sign, row, slack, multiplier, ◌when◌, sum_of, occurrences, numerator, divisor, State, iterate}

-- b, the right sides of the rows: 0, 0, 0, 2 (equations 5 and 8c)
abbrev pub right : ℕ → ℤ
right r = at (pos 0 ∷ pos 0 ∷ pos 0 ∷ pos 2 ∷ []) r

-- the column of A that belongs to variable v, times an x with an entry for each row: the signs of v over its rows (equation 8b)
unfoldable pub column : System → ℕ → (ℕ → ℕ → ℕ → ℤ) → ℤ
column g v x = sum_ℤ g.triples (λ t. sum_ℤ 3 (λ p. sum_ℤ 4 (λ r. sign r p *ℤ x t p r) when eqb (member g.members t p) v))

module _ (g : System) (o : Settings) (costs : List ℤ) (a : State) where
  -- e of variable v: the diagonal of A transposed times A
  unfoldable pub norm : ℕ → ℤ
  norm v = column g v (λ t p r. sign r p)

  -- 512 × U times â (b − z − y/mu) − phi, with phi = q/mu + (alpha/mu)/2
  unfoldable pub dividend15 : ℕ → ℤ
  dividend15 v =
      column g v (λ t p r.
      pos (512 * unit) *ℤ right r -ℤ (pos 256 *ℤ pos (slack (row a.rows t r)) +ℤ pos 256 *ℤ pos (multiplier (row a.rows t r))))
      -ℤ (pos o.weight *ℤ at costs v +ℤ pos (unit * o.ratio))

  -- 512 × U times theta = e − alpha/mu
  unfoldable pub divisor15 : ℕ → ℤ
  divisor15 v = pos (512 * unit) *ℤ norm v -ℤ pos (2 * unit * o.ratio)

  -- 2U times b − a v − y/mu, with the values c and the old multiplier: z before its projection (equation 17)
  unfoldable pub residual17 : List ℤ → ℕ → ℕ → ℤ
  residual17 c t r =
      pos (2 * unit) *ℤ right r -ℤ sum_ℤ 3 (λ p. sign r p *ℤ (pos unit +ℤ value_at c (member g.members t p))) -ℤ pos (multiplier (row a.rows t r))

  -- the numerator and the divisor of variable v in document 01, the new values, and row r of triple t afterwards
  abbrev pub num : ℕ → ℤ
  num v = numerator o.weight (sum_of g.members g.triples a.rows v) (at costs v)

  abbrev pub den : ℕ → ℤ
  den v = divisor (4 * occurrences g.members g.triples v) o.ratio

  abbrev pub new_values : List ℤ
  new_values = (iterate quotient g o costs a).values

  abbrev pub new_row : ℕ → ℕ → ℤ
  new_row t r = row (iterate quotient g o costs a).rows t r

  pub record Paper : Type 0 where
    -- e = diag(AᵀA): 4 for each triple of the variable
    pub norms : (v : ℕ) → norm v ≡ pos (4 * occurrences g.members g.triples v)
    -- equation 15 is v = dividend15 / divisor15, and that is 1/2 + c/(2U) with c = numerator / divisor, before rounding and limit:
    -- over the common divisor 2U × divisor, the dividends agree
    pub divisors : (v : ℕ) → divisor15 v ≡ pos (2 * unit) *ℤ den v
    pub dividends : (v : ℕ) → dividend15 v ≡ pos unit *ℤ den v +ℤ num v
    -- c is that quotient, rounded and limited
    pub values : (v : ℕ) → v < g.variables → at new_values v ≡ quotient (num v) (den v)
    -- equation 17: the new z is the residual where it is above 0, otherwise 0; equation 18: the new y/mu is 0 there, otherwise the residual's negative
    pub slacks : (t r : ℕ) → t < g.triples → r < 4 → slack (new_row t r) ≡ up (residual17 new_values t r)
    pub multipliers : (t r : ℕ) → t < g.triples → r < 4 → multiplier (new_row t r) ≡ dn (residual17 new_values t r)
