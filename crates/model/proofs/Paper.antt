-- The update is the paper's. Assumes nothing.
use Rattle.integers.proofs.Prelude.{◌≡◌, refl, ap, ap₂, ◌∙◌, Bool, true, false, List, ℕ, ◌+◌, ◌*◌, ◌<◌, arith, eqb, ℤ, pos, negsuc, neg_ℤ, ◌+ℤ◌, ◌-ℤ◌, ◌*ℤ◌}
use Rattle.integers.specs.Parts.{up, dn}
use Rattle.integers.specs.Sum.{sum_ℕ, sum_ℤ}
use Rattle.integers.proofs.Linear.{split, to_ℕ, about_neg, *ℤ_add}
use Rattle.integers.proofs.Sums.{sum_ℤ_same, sum_ℤ_add, sum_ℤ_scale, sum_ℤ_pos}
use Rattle.lists.proofs.Tabulated.{get_or_tab}
use Rattle.quotient.specs.Quotient.{unit, quotient}
use Rattle.model.specs.declared.Settings.{Settings}
use Rattle.model.specs.Causes.{◌if◌}
use Rattle.model.specs.Splitting.{System, member}
use Rattle.model.specs.Iteration.{at, value_at, sign, row, row_sum, slack, multiplier, share, ◌when◌, sum_of, occurrences, numerator, divisor, State, sums_of, value_of, values_of, iterate}
use Rattle.model.specs.Paper.{right, column, norm, dividend15, divisor15, residual17, Paper}
use Rattle.model.proofs.Rows.{four, three, row_renewed}

-- ---- columns
-- what the position of a variable gives in each of its triples, added up
abbrev gathered : System → ℕ → (ℕ → ℕ → ℤ) → ℤ
gathered g v f = sum_ℤ g.triples (λ t. sum_ℤ 3 (λ p. f t p when eqb (member g.members t p) v))

module _ (g : System) (v : ℕ) where
  gathered_same : (f h : ℕ → ℕ → ℤ) → ((t p : ℕ) → p < 3 → f t p ≡ h t p) → gathered g v f ≡ gathered g v h
  gathered_same f h e = sum_ℤ_same g.triples _ _ (λ t _. sum_ℤ_same 3 _ _ (λ p l. ap (λ (z : ℤ). z when eqb (member g.members t p) v) (e t p l)))

  gathered_one : gathered g v (λ _ _. pos 1) ≡ pos (occurrences g.members g.triples v)
  unfolding occurrences
  gathered_one =
      let n : ℕ → ℕ → ℕ = λ t p. 1 if eqb (member g.members t p) v in
      sum_ℤ_same g.triples _ (λ t. pos (sum_ℕ 3 (n t))) (λ t _. sum_ℤ_same 3 _ (λ p. pos (n t p)) (λ p _. one (eqb (member g.members t p) v)) ∙ sum_ℤ_pos 3 (n t))
      ∙ sum_ℤ_pos g.triples (λ t. sum_ℕ 3 (n t))
    where
      one : (t : Bool) → pos 1 when t ≡ pos (1 if t)
      one true = refl
      one false = refl

  -- k times one thing and l times another
  gathered_both : (k l : ℤ) (f h : ℕ → ℕ → ℤ) → gathered g v (λ t p. k *ℤ f t p +ℤ l *ℤ h t p) ≡ k *ℤ gathered g v f +ℤ l *ℤ gathered g v h
  gathered_both k l f h =
      sum_ℤ_same g.triples _ (λ t. k *ℤ sum_ℤ 3 (F t) +ℤ l *ℤ sum_ℤ 3 (H t))
      (λ t _. sum_ℤ_same 3 _ (λ p. k *ℤ F t p +ℤ l *ℤ H t p) (λ p _. both (f t p) (h t p) (eqb (member g.members t p) v)) ∙ linear 3 (F t) (H t))
      ∙ linear g.triples (λ t. sum_ℤ 3 (F t)) (λ t. sum_ℤ 3 (H t))
    where
      F : ℕ → ℕ → ℤ
      F t p = f t p when eqb (member g.members t p) v

      H : ℕ → ℕ → ℤ
      H t p = h t p when eqb (member g.members t p) v

      both : (x y : ℤ) (t : Bool) → (k *ℤ x +ℤ l *ℤ y) when t ≡ k *ℤ (x when t) +ℤ l *ℤ (y when t)
      both x y true = refl
      both x y false = rw (split k, split l) (simp to_ℕ (omega arith))

      linear : (n : ℕ) (x y : ℕ → ℤ) → sum_ℤ n (λ i. k *ℤ x i +ℤ l *ℤ y i) ≡ k *ℤ sum_ℤ n x +ℤ l *ℤ sum_ℤ n y
      linear n x y = sum_ℤ_add n (λ i. k *ℤ x i) (λ i. l *ℤ y i) ∙ ap₂ ◌+ℤ◌ (sum_ℤ_scale n k x) (sum_ℤ_scale n l y)

-- ---- the four rows of a triple, at one position and in one row
norm_here : (p : ℕ) → p < 3 → sum_ℤ 4 (λ r. sign r p *ℤ sign r p) ≡ pos 4
unfolding sign
norm_here = three (λ p. sum_ℤ 4 (λ r. sign r p *ℤ sign r p) ≡ pos 4) refl refl refl

share_here : (z m : ℕ → ℕ) (p : ℕ) → p < 3
    → sum_ℤ 4 (λ r. sign r p *ℤ (pos (512 * unit) *ℤ right r -ℤ (pos 256 *ℤ pos (z r) +ℤ pos 256 *ℤ pos (m r))))
    ≡ pos (1024 * unit) *ℤ pos 1 +ℤ negsuc 255 *ℤ sum_ℤ 4 (λ r. sign r p *ℤ pos (z r + m r))
unfolding sign
share_here z m = three (λ p. _) (simp to_ℕ (omega arith)) (simp to_ℕ (omega arith)) (simp to_ℕ (omega arith))

-- the right side of a row in centred form is U, whatever its signs
pub right_is : (r : ℕ) → r < 4 → pos (2 * unit) *ℤ right r -ℤ (sign r 0 *ℤ pos unit +ℤ sign r 1 *ℤ pos unit +ℤ sign r 2 *ℤ pos unit) ≡ pos unit
unfolding sign
right_is = four (λ r. pos (2 * unit) *ℤ right r -ℤ (sign r 0 *ℤ pos unit +ℤ sign r 1 *ℤ pos unit +ℤ sign r 2 *ℤ pos unit) ≡ pos unit) refl refl refl refl

moved : (x y b p p' p'' q q' q'' : ℤ) → b -ℤ (q +ℤ q' +ℤ q'') ≡ y
    → x +ℤ (p +ℤ p' +ℤ p'') -ℤ y ≡ neg_ℤ (b -ℤ (pos 0 +ℤ (q +ℤ p) +ℤ (q' +ℤ p') +ℤ (q'' +ℤ p'')) -ℤ x)
moved x y b p p' p'' q q' q'' =
    rw (split x, split y, split b, split p, split p', split p'', split q, split q', split q'') (simp to_ℕ (omega arith))

residual_here : (x : ℤ) (c : ℕ → ℤ) (r : ℕ) → r < 4
    → x +ℤ (sign r 0 *ℤ c 0 +ℤ sign r 1 *ℤ c 1 +ℤ sign r 2 *ℤ c 2) -ℤ pos unit ≡ neg_ℤ (pos (2 * unit) *ℤ right r -ℤ sum_ℤ 3 (λ p. sign r p *ℤ (pos unit +ℤ c p)) -ℤ x)
residual_here x c r h =
    let p : ℕ → ℤ = λ i. sign r i *ℤ c i in
    let q : ℕ → ℤ = λ i. sign r i *ℤ pos unit in
    rw (*ℤ_add (sign r 0) (pos unit) (c 0), *ℤ_add (sign r 1) (pos unit) (c 1), *ℤ_add (sign r 2) (pos unit) (c 2))
    (moved x (pos unit) (pos (2 * unit) *ℤ right r) (p 0) (p 1) (p 2) (q 0) (q 1) (q 2) (right_is r h))

-- ---- the whole
dividend_is : (n A : ℕ) (S y : ℤ)
    → pos (1024 * unit) *ℤ pos n +ℤ negsuc 255 *ℤ S -ℤ (y +ℤ pos (unit * A)) ≡ pos unit *ℤ divisor (4 * n) A +ℤ neg_ℤ (pos 256 *ℤ S +ℤ y)
dividend_is n A S y = rw (split S, split y) (simp to_ℕ (omega arith))

divisor_is : (n A : ℕ) → pos (512 * unit) *ℤ pos (4 * n) -ℤ pos (2 * unit * A) ≡ pos (2 * unit) *ℤ divisor (4 * n) A
divisor_is n A = simp to_ℕ (omega arith)

module _ (g : System) (o : Settings) (costs : List ℤ) (a : State) where
  norms : (v : ℕ) → norm g o costs a v ≡ pos (4 * occurrences g.members g.triples v)
  unfolding norm column
  norms v =
      gathered_same g v (λ t p. sum_ℤ 4 (λ r. sign r p *ℤ sign r p)) (λ t p. pos 4 *ℤ pos 1 +ℤ pos 0 *ℤ pos 1) (λ t. norm_here)
      ∙ gathered_both g v (pos 4) (pos 0) (λ _ _. pos 1) (λ _ _. pos 1)
      ∙ rw (gathered_one g v) (simp to_ℕ (omega arith))

  dividends : (v : ℕ) → dividend15 g o costs a v
      ≡ pos unit *ℤ divisor (4 * occurrences g.members g.triples v) o.ratio +ℤ numerator o.weight (sum_of g.members g.triples a.rows v) (at costs v)
  unfolding dividend15 column sum_of share
  dividends v =
      let n = occurrences g.members g.triples v in
      let S = sum_of g.members g.triples a.rows v in
      let both : gathered g v (λ t p. pos (1024 * unit) *ℤ pos 1 +ℤ negsuc 255 *ℤ share a.rows t p) ≡ pos (1024 * unit) *ℤ pos n +ℤ negsuc 255 *ℤ S
      = gathered_both g v (pos (1024 * unit)) (negsuc 255) (λ _ _. pos 1) (share a.rows) ∙ ap (λ (z : ℤ). pos (1024 * unit) *ℤ z +ℤ negsuc 255 *ℤ S) (gathered_one g v) in
      ap (λ (z : ℤ). z -ℤ (pos o.weight *ℤ at costs v +ℤ pos (unit * o.ratio)))
      (gathered_same g v _ _ (λ t. share_here (λ r. slack (row a.rows t r)) (λ r. multiplier (row a.rows t r))) ∙ both)
      ∙ dividend_is n o.ratio S (pos o.weight *ℤ at costs v)

  -- the new s is the residual's negative
  rows : (t r : ℕ) → t < g.triples → r < 4 → row (iterate quotient g o costs a).rows t r ≡ neg_ℤ (residual17 g o costs a (iterate quotient g o costs a).values t r)
  unfolding iterate residual17 row_sum
  rows t r h l =
      row_renewed g a.rows _ t r h l
      ∙ residual_here (pos (multiplier (row a.rows t r))) (λ p. value_at (iterate quotient g o costs a).values (member g.members t p)) r l

  pub paper : Paper g o costs a
  unfolding divisor15 iterate values_of sums_of
  paper = record {
    norms = norms;
    divisors = λ v. rw (norms v) (divisor_is (occurrences g.members g.triples v) o.ratio);
    dividends = dividends;
    values = λ v h. get_or_tab g.variables (value_of quotient g o costs (sums_of g a.rows)) v (pos 0) h ∙ rw (get_or_tab g.variables (sum_of g.members g.triples a.rows) v (pos 0) h);
    slacks = λ t r h l. ap dn (rows t r h l) ∙ (about_neg (residual17 g o costs a (iterate quotient g o costs a).values t r)).1;
    multipliers = λ t r h l. ap up (rows t r h l) ∙ (about_neg (residual17 g o costs a (iterate quotient g o costs a).values t r)).0;
  }
