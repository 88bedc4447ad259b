-- The system, its projection, start and stop are the papers' (source documents 000 and 003). Statements only; the proofs are in
-- proofs/PaperSystem.antt. As in Paper, the paper's v is 1/2 + c/(2U), so 2U × v is U + c.
use Rattle.std.specs.Prelude.{cond, ◌≡◌, ◌↔◌, List, ℕ, ◌*◌, ◌≤◌, ◌<◌, eqb, ℤ, pos, neg_ℤ, nat_abs, ◌+ℤ◌, ◌-ℤ◌, ◌*ℤ◌, ◌≤ℤ◌}
use Rattle.integers.specs.Sum.{sum_ℕ, sum_ℤ}
use Rattle.quotient.specs.Quotient.{unit, quotient}
use Rattle.model.specs.declared.Settings.{Settings}
use Rattle.model.specs.Splitting.{System, blank, member}
use Rattle.model.specs.Iteration.{at, sign, sum_at, row, slack, multiplier, ◌when◌, State, iterate}
use Rattle.model.specs.Run.{settled_by, start}
use Rattle.model.specs.Words.{bit_at}
use Rattle.model.specs.Points.{Bits, Point}
use Rattle.model.specs.Paper.{right, dividend15, divisor15, num, den, new_values, new_row}

-- the entry of A in row r of triple t and the column of variable v: the sign of v there, if the triple has it (equations 5 to 8)
unfoldable pub matrix : System → ℕ → ℕ → ℕ → ℤ
matrix g t r v = sum_ℤ 3 (λ p. sign r p when eqb (member g.members t p) v)

-- A x, in row r of triple t
unfoldable pub times : System → (ℕ → ℤ) → ℕ → ℕ → ℤ
times g x t r = sum_ℤ g.variables (λ v. matrix g t r v *ℤ x v)

-- x at a member of a triple; document 02, L6: the blank has no column in A, since its v is 0
abbrev pub at_member : (ℕ → ℤ) → ℕ → ℤ
at_member x v = cond (eqb v blank) (pos 0) (x v)

pub record PaperSystem (g : System) : Type 0 where
  -- a row of A has its three signs, at the three members of its triple
  pub rows : (x : ℕ → ℤ) (t r : ℕ) → t < g.triples → times g x t r ≡ sum_ℤ 3 (λ p. sign r p *ℤ at_member x (member g.members t p))
  -- A v ≤ b with b = 0, 0, 0, 2 (equations 8b and 8c): a 0/1 point meets the system exactly when it holds of its entries
  pub points : (p : List ℕ) → Bits g.variables p
      → Point g p ↔ ((t r : ℕ) → t < g.triples → r < 4 → times g (λ v. pos (bit_at p v)) t r ≤ℤ right r)
  -- and at all centred values, multiplied by 2U: the sums are at most U exactly when A v ≤ b
  pub centred : (c : List ℤ) (t r : ℕ) → t < g.triples → r < 4
      → (sum_at g.members c t r ≤ℤ pos unit) ↔ (times g (λ v. pos unit +ℤ at c v) t r ≤ℤ (pos (2 * unit) *ℤ right r))

module _ (g : System) (o : Settings) (costs : List ℤ) (a : State) where
  -- the limit of c is the projection of equation 15's v, which is dividend15 / divisor15, to [0, 1]
  pub record Projection (v : ℕ) : Type 0 where
    -- where it is 1 or more, the new v is 1; where it is 0 or less, 0
    pub above : divisor15 g o costs a v ≤ℤ dividend15 g o costs a v → at (new_values g o costs a) v ≡ pos unit
    pub below : dividend15 g o costs a v ≤ℤ pos 0 → at (new_values g o costs a) v ≡ neg_ℤ (pos unit)
    -- between, c is nearest: at most half from the quotient
    pub between : pos 0 ≤ℤ dividend15 g o costs a v → dividend15 g o costs a v ≤ℤ divisor15 g o costs a v
        → 2 * nat_abs (num g o costs a v -ℤ den g o costs a v *ℤ at (new_values g o costs a) v) ≤ nat_abs (den g o costs a v)

  -- 2U times A v + z − b in row r of triple t, of the new v and z
  abbrev pub residual12 : ℕ → ℕ → ℤ
  residual12 t r =
      times g (λ v. pos unit +ℤ at (new_values g o costs a) v) t r +ℤ pos (slack (new_row g o costs a t r)) -ℤ pos (2 * unit) *ℤ right r

  -- the change of z in row r of triple t
  abbrev pub change12 : ℕ → ℕ → ℤ
  change12 t r = pos (slack (new_row g o costs a t r)) -ℤ pos (slack (row a.rows t r))

  -- the square of the norm of an x with an entry for each row
  abbrev pub norm_square : (ℕ → ℕ → ℤ) → ℕ
  norm_square x = sum_ℕ g.triples (λ t. sum_ℕ 4 (λ r. nat_abs (x t r) * nat_abs (x t r)))

  -- 003, algorithm 1, whose w is z and whose lambda is y/mu: the start with all of both 0, step 10, and the stop once neither ‖A v + w − b‖² nor the
  -- squared norm of w's change exceeds the tolerance
  pub record StartStop : Type 0 where
    pub begins : (i : ℕ) → (slack (at (start g).rows i) ≡ 0) × (multiplier (at (start g).rows i) ≡ 0)
    pub steps : (t r : ℕ) → t < g.triples → r < 4
        → pos (multiplier (new_row g o costs a t r)) ≡ pos (multiplier (row a.rows t r)) +ℤ residual12 t r
    pub stops : (settled_by o.tolerance g.triples a.rows (iterate quotient g o costs a).rows ≡ 1)
        ↔ ((norm_square residual12 ≤ o.tolerance) × (norm_square change12 ≤ o.tolerance))
