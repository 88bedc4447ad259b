-- The system, its projection, start and stop are the papers'. Assumes nothing.
use Rattle.integers.proofs.Prelude.{◌≡◌, refl, sym, ap, ap₂, subst, ◌∙◌, Bool, true, false, ◌&&◌, List, ℕ, zero, suc, ◌+◌, ◌*◌, ◌/◌, ◌≤◌, ◌<◌, min, arith}
use Rattle.integers.proofs.Prelude.{dec_lt, leb-true, le-leb, eq-eqb, ne_eqb, eqb, leb, ℤ, pos, negsuc, nat_abs, neg_ℤ, ◌+ℤ◌, ◌-ℤ◌, ◌*ℤ◌, ◌≤ℤ◌, ◌<ℤ◌, get_or-eq_default}
use mathlib.Core.Logic.{◌↔◌, ◌⊎◌, inl, inr}
use Rattle.integers.specs.Parts.{up, dn}
use Rattle.integers.specs.Sum.{sum_ℤ}
use Rattle.integers.specs.Nearest.{nearest}
use Rattle.integers.proofs.Linear.{◌⊖◌, split, to_ℕ, *ℤ_add, *ℤ_left_comm, ring, linear, abs_difference, abs_neg}
use Rattle.integers.proofs.Sums.{sum_ℕ_same, sum_ℤ_same, sum_ℤ_add}
use Rattle.quotient.specs.Quotient.{unit, quotient, Rounded}
use Rattle.quotient.proofs.Laws.{quotient_odd, quotient_is, rounded_by}
use Rattle.model.specs.declared.Settings.{Settings}
use Rattle.model.specs.Causes.{◌if◌}
use Rattle.model.specs.Code.{variables}
use Rattle.model.specs.Records.{code_of, judge}
use Rattle.model.specs.Splitting.{System, system_of, blank, member}
use Rattle.model.specs.Iteration.{at, value_at, sign, row_sum, row, slack, multiplier, ◌when◌, sum_of, occurrences, numerator, divisor, State, iterate}
use Rattle.model.specs.Run.{changes, settled_by, start}
use Rattle.model.specs.Words.{bit_at}
use Rattle.model.specs.Points.{Bits, centred}
use Rattle.model.specs.Paper.{right, residual17}
use Rattle.model.specs.PaperSystem.{matrix, times, at_member, PaperSystem, Projection, residual12, norm_square, StartStop}
use Rattle.model.specs.DecoderClaims.{iterate_of, Published}
use Rattle.model.proofs.Accepted.{accepted}
use Rattle.model.proofs.TripleRule.{members, members_long, member_is, occurs_some}
use Rattle.model.proofs.Bounds.{divisor_above}
use Rattle.model.proofs.Causes.{not_out_of_range}
use Rattle.model.specs.Calls.{out_of_range}
use Rattle.model.proofs.Rows.{none, value_variable}
use Rattle.model.proofs.Paper.{right_is, paper}

-- ---- a row of A
zero_times : (y : ℤ) → pos 0 *ℤ y ≡ pos 0
zero_times y = rw (split y) (simp to_ℕ (omega arith))

times_zero : (y : ℤ) → y *ℤ pos 0 ≡ pos 0
times_zero y = rw (split y) (simp to_ℕ (omega arith))

add_zero : (y : ℤ) → y +ℤ pos 0 ≡ y
add_zero y = rw (split y) (simp to_ℕ (omega arith))

zero_add : (y : ℤ) → pos 0 +ℤ y ≡ y
zero_add y = rw (split y) (simp to_ℕ (omega arith))

module _ (z : ℤ) (x : ℕ → ℤ) (i : ℕ) where
  other : (v : ℕ) → (i ≡ v → ⊥) → (z when eqb i v) *ℤ x v ≡ pos 0
  other v h = rw (ne_eqb i v h) (zero_times (x v))

  none_picked : (n : ℕ) → n ≤ i → sum_ℤ n (λ v. (z when eqb i v) *ℤ x v) ≡ pos 0
  none_picked zero h = refl
  none_picked (suc n) h = rw (none_picked n (omega arith), other n (λ e. omega arith))

  -- a sum over the variables sees only variable i
  picked : (n : ℕ) → i < n → sum_ℤ n (λ v. (z when eqb i v) *ℤ x v) ≡ z *ℤ x i
  picked zero h = absurd (omega arith)
  picked (suc n) h = by (dec_lt i n) (picked n)
    where
      by : Dec (i < n) → (i < n → sum_ℤ n (λ v. (z when eqb i v) *ℤ x v) ≡ z *ℤ x i) → sum_ℤ (suc n) (λ v. (z when eqb i v) *ℤ x v) ≡ z *ℤ x i
      by (yes l) ih = rw (ih l, other n (λ e. omega arith)) (add_zero (z *ℤ x i))
      by (no l) ih =
          let e : i ≡ n = omega arith in
          rw (none_picked n (omega arith), ← e, eq-eqb i i refl) (zero_add (z *ℤ x i))

apart : (a b c y : ℤ) → (pos 0 +ℤ a +ℤ b +ℤ c) *ℤ y ≡ a *ℤ y +ℤ b *ℤ y +ℤ c *ℤ y
apart a b c y = rw (zero_add a) (simp ring (simp linear (omega arith)))

times_same : (g : System) (x y : ℕ → ℤ) → ((v : ℕ) → v < g.variables → x v ≡ y v) → (t r : ℕ) → times g x t r ≡ times g y t r
unfolding times
times_same g x y h t r = sum_ℤ_same g.variables _ _ (λ v l. ap (λ (z : ℤ). matrix g t r v *ℤ z) (h v l))

-- each triple's members are variables of the system or the blank, which is none of them
record Within (g : System) : Type 0 where
  few : g.variables ≤ blank
  named : (t p : ℕ) → t < g.triples → p < 3 → (member g.members t p < g.variables) ⊎ (member g.members t p ≡ blank)

times_rows : (g : System) → Within g → (x : ℕ → ℤ) → x blank ≡ pos 0 → (t r : ℕ) → t < g.triples → times g x t r ≡ sum_ℤ 3 (λ p. sign r p *ℤ x (member g.members t p))
unfolding times matrix
times_rows g h x none t r l =
    let n = g.variables in
    let m : ℕ → ℕ = member g.members t in
    let f : ℕ → ℕ → ℤ = λ p v. (sign r p when eqb (m p) v) *ℤ x v in
    let one : (p : ℕ) → p < 3 → sum_ℤ n (f p) ≡ sign r p *ℤ x (m p) = λ p k. by (sign r p) (m p) (h.named t p l k) in
    sum_ℤ_same n _ (λ v. f 0 v +ℤ f 1 v +ℤ f 2 v) (λ v _. apart (sign r 0 when eqb (m 0) v) (sign r 1 when eqb (m 1) v) (sign r 2 when eqb (m 2) v) (x v))
    ∙ sum_ℤ_add n (λ v. f 0 v +ℤ f 1 v) (f 2) ∙ ap₂ ◌+ℤ◌ (sum_ℤ_add n (f 0) (f 1)) refl
    ∙ rw (one 0 (omega arith), one 1 (omega arith), one 2 (omega arith), zero_add (sign r 0 *ℤ x (m 0)))
  where
    by : (z : ℤ) (i : ℕ) → (i < g.variables) ⊎ (i ≡ blank) → sum_ℤ g.variables (λ v. (z when eqb i v) *ℤ x v) ≡ z *ℤ x i
    by z i (inl k) = picked z x i g.variables k
    by z i (inr e) = none_picked z x i g.variables (omega (arith, h.few)) ∙ sym (ap (λ (j : ℕ). z *ℤ x j) e ∙ ap (λ (y : ℤ). z *ℤ y) none ∙ times_zero z)

-- ---- the four rows: at centred values, and at 0 and 1
abbrev signed : ℕ → ℤ → ℤ → ℤ → ℤ
signed r x y z = pos 0 +ℤ sign r 0 *ℤ x +ℤ sign r 1 *ℤ y +ℤ sign r 2 *ℤ z

abbrev Relaxed : ℤ → ℤ → ℤ → ℕ → Type 0
Relaxed x y z r = (row_sum r x y z ≤ℤ pos unit) ↔ (signed r (pos unit +ℤ x) (pos unit +ℤ y) (pos unit +ℤ z) ≤ℤ (pos (2 * unit) *ℤ right r))

shifted : (p p' p'' q q' q'' y b : ℤ) → b -ℤ (q +ℤ q' +ℤ q'') ≡ y → (p +ℤ p' +ℤ p'') ≤ℤ y → (pos 0 +ℤ (q +ℤ p) +ℤ (q' +ℤ p') +ℤ (q'' +ℤ p'')) ≤ℤ b
shifted p p' p'' q q' q'' y b = rw (split p, split p', split p'', split q, split q', split q'', split y, split b) (simp to_ℕ (omega arith))

unshifted : (p p' p'' q q' q'' y b : ℤ) → b -ℤ (q +ℤ q' +ℤ q'') ≡ y → (pos 0 +ℤ (q +ℤ p) +ℤ (q' +ℤ p') +ℤ (q'' +ℤ p'')) ≤ℤ b → (p +ℤ p' +ℤ p'') ≤ℤ y
unshifted p p' p'' q q' q'' y b = rw (split p, split p', split p'', split q, split q', split q'', split y, split b) (simp to_ℕ (omega arith))

relaxed : (x y z : ℤ) (r : ℕ) → r < 4 → Relaxed x y z r
unfolding row_sum
relaxed x y z r h =
    let u = pos unit in
    let e = right_is r h in
    rw (*ℤ_add (sign r 0) u x, *ℤ_add (sign r 1) u y, *ℤ_add (sign r 2) u z)
    (shifted _ _ _ (sign r 0 *ℤ u) (sign r 1 *ℤ u) (sign r 2 *ℤ u) u _ e, unshifted _ _ _ (sign r 0 *ℤ u) (sign r 1 *ℤ u) (sign r 2 *ℤ u) u _ e)

-- both sides times 2U
doubled : (p p' p'' b : ℤ) → (pos 0 +ℤ pos (2 * unit) *ℤ p +ℤ pos (2 * unit) *ℤ p' +ℤ pos (2 * unit) *ℤ p'') ≤ℤ (pos (2 * unit) *ℤ b) → (pos 0 +ℤ p +ℤ p' +ℤ p'') ≤ℤ b
doubled p p' p'' b = rw (split p, split p', split p'', split b) (simp to_ℕ (omega arith))

undoubled : (p p' p'' b : ℤ) → (pos 0 +ℤ p +ℤ p' +ℤ p'') ≤ℤ b → (pos 0 +ℤ pos (2 * unit) *ℤ p +ℤ pos (2 * unit) *ℤ p' +ℤ pos (2 * unit) *ℤ p'') ≤ℤ (pos (2 * unit) *ℤ b)
undoubled p p' p'' b = rw (split p, split p', split p'', split b) (simp to_ℕ (omega arith))

centred_is : (e : ℕ) → e < 2 → pos unit +ℤ centred e ≡ pos (2 * unit) *ℤ pos e
centred_is zero h = refl
centred_is (suc zero) h = refl
centred_is (suc (suc e)) h = absurd (omega arith)

entries : (a b c r : ℕ) → a < 2 → b < 2 → c < 2 → r < 4 → (row_sum r (centred a) (centred b) (centred c) ≤ℤ pos unit) ↔ (signed r (pos a) (pos b) (pos c) ≤ℤ right r)
entries a b c r ha hb hc h =
    let k = pos (2 * unit) in
    let x : signed r (pos unit +ℤ centred a) (pos unit +ℤ centred b) (pos unit +ℤ centred c) ≡ pos 0 +ℤ k *ℤ (sign r 0 *ℤ pos a) +ℤ k *ℤ (sign r 1 *ℤ pos b) +ℤ k *ℤ (sign r 2 *ℤ pos c)
    = rw (centred_is a ha, centred_is b hb, centred_is c hc, *ℤ_left_comm (sign r 0) k (pos a), *ℤ_left_comm (sign r 1) k (pos b), *ℤ_left_comm (sign r 2) k (pos c)) in
    let m = relaxed (centred a) (centred b) (centred c) r h in (
      λ l. doubled (sign r 0 *ℤ pos a) (sign r 1 *ℤ pos b) (sign r 2 *ℤ pos c) (right r) (rw x at (m.0 l)),
      λ l. m.1 (rw x (undoubled (sign r 0 *ℤ pos a) (sign r 1 *ℤ pos b) (sign r 2 *ℤ pos c) (right r) l)),
    )

-- 2U times v: of a variable U + c, and of the blank 0
abbrev doubled_at : List ℤ → ℕ → ℤ
doubled_at c v = pos unit +ℤ value_at c v

doubled_rows : (g : System) → Within g → (c : List ℤ) (t r : ℕ) → t < g.triples
    → times g (λ v. pos unit +ℤ at c v) t r ≡ sum_ℤ 3 (λ q. sign r q *ℤ doubled_at c (member g.members t q))
doubled_rows g h c t r l =
    times_same g (λ v. pos unit +ℤ at c v) (doubled_at c) (λ v k. ap (λ (z : ℤ). pos unit +ℤ z) (sym (value_variable c v (omega (arith, h.few))))) t r
    ∙ times_rows g h (doubled_at c) refl t r l

paper_system : (g : System) → Within g → PaperSystem g
paper_system g h = record {
  rows = λ x t r l. times_same g x (at_member x) (λ v k. rw (ne_eqb v blank (λ e. omega (arith, h.few)))) t r ∙ times_rows g h (at_member x) refl t r l;
  points = λ p b. (
    λ q t r l k. rw (bits p b t r l) ((entries _ _ _ r (b.binary _) (b.binary _) (b.binary _) k).0 (q.meets t r l k)),
    λ q. record { point = b; meets = λ t r l k. (entries _ _ _ r (b.binary _) (b.binary _) (b.binary _) k).1 (rw (bits p b t r l) at (q t r l k)) },
  );
  centred = λ c t r l k. rw (doubled_rows g h c t r l) (relaxed _ _ _ r k);
}
  where
    bits : (p : List ℕ) → Bits g.variables p → (t r : ℕ) → t < g.triples
        → times g (λ v. pos (bit_at p v)) t r ≡ sum_ℤ 3 (λ q. sign r q *ℤ pos (bit_at p (member g.members t q)))
    bits p b = times_rows g h (λ v. pos (bit_at p v)) (ap pos (get_or-eq_default p 0 (omega (arith, b.long, h.few))))

-- ---- the projection
-- a quotient of magnitudes: at U or above it is U, below it is nearest
limit : (n d : ℕ) → 0 < d → unit * d ≤ n → quotient (pos n) (pos d) ≡ pos unit
limit n d h l = quotient_is n d unit h (record { range = omega arith; above = omega arith; below = λ k. absurd (omega arith) })

twice : (a b d : ℕ) → 2 * a ≤ 2 * b + d → 2 * b ≤ 2 * a + d → 2 * nat_abs (pos a -ℤ pos b) ≤ d
twice a b d h l = let m : nat_abs (pos a -ℤ pos b) ≤ d / 2 = abs_difference a b (d / 2) (omega arith) (omega arith) in omega arith

near : (n d : ℕ) → 0 < d → n ≤ unit * d → 2 * nat_abs (pos n -ℤ pos d *ℤ quotient (pos n) (pos d)) ≤ d
near n d h l =
    let q = min (nearest n d) unit in
    let r : Rounded n d q = rounded_by n d h in
    let e : quotient (pos n) (pos d) ≡ pos q = quotient_is n d q h r in
    let m : 2 * n ≤ 2 * (d * q) + d = by (dec_lt q unit) r.below r.range in
    rw e (twice n (d * q) d m r.above)
  where
    by : {q : ℕ} → Dec (q < unit) → (q < unit → 2 * n < 2 * (d * q) + d) → q ≤ unit → 2 * n ≤ 2 * (d * q) + d
    by {q} (yes k) f g = omega (arith, f k)
    by {q} (no k) f g = let e : q ≡ unit = omega arith in rw e (omega arith)

flipped : (a b q : ℤ) → neg_ℤ a -ℤ b *ℤ neg_ℤ q ≡ neg_ℤ (a -ℤ b *ℤ q)
flipped a b q = simp ring refl

-- of a divisor above 0; the fraction of equation 15 is (U d + n) / (2U d), and n is u less v
at_least : (d u v : ℕ) → (pos (2 * unit) *ℤ pos d) ≤ℤ (pos unit *ℤ pos d +ℤ (u ⊖ v)) → unit * d + v ≤ u
at_least d u v = simp to_ℕ (omega arith)

at_most : (d u v : ℕ) → (pos unit *ℤ pos d +ℤ (u ⊖ v)) ≤ℤ (pos (2 * unit) *ℤ pos d) → u ≤ unit * d + v
at_most d u v = simp to_ℕ (omega arith)

negative : (d u v : ℕ) → (pos unit *ℤ pos d +ℤ (u ⊖ v)) ≤ℤ pos 0 → unit * d + u ≤ v
negative d u v = simp to_ℕ (omega arith)

not_negative : (d u v : ℕ) → pos 0 ≤ℤ (pos unit *ℤ pos d +ℤ (u ⊖ v)) → v ≤ unit * d + u
not_negative d u v = simp to_ℕ (omega arith)

module _ (d : ℕ) where
  abbrev sum : ℤ → ℤ
  sum n = pos unit *ℤ pos (suc d) +ℤ n

  abbrev whole : ℤ
  whole = pos (2 * unit) *ℤ pos (suc d)

  too_large : (n : ℤ) → whole ≤ℤ sum n → quotient n (pos (suc d)) ≡ pos unit
  too_large n h = by n (at_least (suc d) (up n) (dn n) (subst (λ (z : ℤ). whole ≤ℤ sum z) (split n) h))
    where
      by : (n : ℤ) → unit * suc d + dn n ≤ up n → quotient n (pos (suc d)) ≡ pos unit
      by (pos n) h = limit n (suc d) (omega arith) (omega arith)
      by (negsuc n) h = absurd (omega arith)

  too_small : (n : ℤ) → sum n ≤ℤ pos 0 → quotient n (pos (suc d)) ≡ neg_ℤ (pos unit)
  too_small n h = by n (negative (suc d) (up n) (dn n) (subst (λ (z : ℤ). sum z ≤ℤ pos 0) (split n) h))
    where
      by : (n : ℤ) → unit * suc d + up n ≤ dn n → quotient n (pos (suc d)) ≡ neg_ℤ (pos unit)
      by (pos n) h = absurd (omega arith)
      by (negsuc n) h = quotient_odd (pos (suc n)) (pos (suc d)) ∙ ap neg_ℤ (limit (suc n) (suc d) (omega arith) (omega arith))

  nearest_one : (n : ℤ) → pos 0 ≤ℤ sum n → sum n ≤ℤ whole → 2 * nat_abs (n -ℤ pos (suc d) *ℤ quotient n (pos (suc d))) ≤ suc d
  nearest_one n h l =
      by n (not_negative (suc d) (up n) (dn n) (subst (λ (z : ℤ). pos 0 ≤ℤ sum z) (split n) h)) (at_most (suc d) (up n) (dn n) (subst (λ (z : ℤ). sum z ≤ℤ whole) (split n) l))
    where
      by : (n : ℤ) → dn n ≤ unit * suc d + up n → up n ≤ unit * suc d + dn n → 2 * nat_abs (n -ℤ pos (suc d) *ℤ quotient n (pos (suc d))) ≤ suc d
      by (pos n) h l = near n (suc d) (omega arith) (omega arith)
      by (negsuc n) h l =
          let q = quotient (pos (suc n)) (pos (suc d)) in
          rw (quotient_odd (pos (suc n)) (pos (suc d)), flipped (pos (suc n)) (pos (suc d)) q, abs_neg (pos (suc n) -ℤ pos (suc d) *ℤ q)) (near (suc n) (suc d) (omega arith) (omega arith))

-- what the three lines say of n and d
record Limited (n d : ℤ) : Type 0 where
  above : (pos (2 * unit) *ℤ d) ≤ℤ (pos unit *ℤ d +ℤ n) → quotient n d ≡ pos unit
  below : (pos unit *ℤ d +ℤ n) ≤ℤ pos 0 → quotient n d ≡ neg_ℤ (pos unit)
  between : pos 0 ≤ℤ (pos unit *ℤ d +ℤ n) → (pos unit *ℤ d +ℤ n) ≤ℤ (pos (2 * unit) *ℤ d) → 2 * nat_abs (n -ℤ d *ℤ quotient n d) ≤ nat_abs d

limited : (n d : ℤ) → pos 0 <ℤ d → Limited n d
limited n (pos zero) h = absurd h.lt
limited n (pos (suc d)) h = record { above = too_large d n; below = too_small d n; between = nearest_one d n }
limited n (negsuc d) h = absurd h.lt

module _ (g : System) (o : Settings) (costs : List ℤ) (a : State) where
  pub projection : (v : ℕ) → v < g.variables → pos 0 <ℤ divisor (4 * occurrences g.members g.triples v) o.ratio → Projection g o costs a v
  projection v h l =
      let p = paper g o costs a in
      let n = numerator o.weight (sum_of g.members g.triples a.rows v) (at costs v) in
      let d = divisor (4 * occurrences g.members g.triples v) o.ratio in
      let m = limited n d l in
      record {
        above = rw (p.divisors v, p.dividends v, p.values v h) m.above;
        below = rw (p.dividends v, p.values v h) m.below;
        between = rw (p.divisors v, p.dividends v, p.values v h) m.between;
      }

  -- ---- start and stop
  abbrev b : State
  b = iterate quotient g o costs a

  -- p is what z leaves of a residual R, and so its change is R without its sign, plus z
  parts : (R B S : ℤ) (p : ℕ) → R ≡ B -ℤ S -ℤ pos p → pos (dn R) ≡ pos p +ℤ (S +ℤ pos (up R) -ℤ B)
  parts R B S p e = by (up R) (dn R) B S p (sym (split R) ∙ e)
    where
      by : (u v : ℕ) (B S : ℤ) (p : ℕ) → u ⊖ v ≡ B -ℤ S -ℤ pos p → pos v ≡ pos p +ℤ (S +ℤ pos u -ℤ B)
      by u v B S p = rw (split B, split S) (simp to_ℕ (omega arith))

  module _ (within : Within g) where
    steps : (t r : ℕ) → t < g.triples → r < 4 → pos (multiplier (row b.rows t r)) ≡ pos (multiplier (row a.rows t r)) +ℤ residual12 g o costs a t r
    unfolding residual17
    steps t r h l =
        let p = paper g o costs a in
        let S : ℤ = sum_ℤ 3 (λ p. sign r p *ℤ doubled_at b.values (member g.members t p)) in
        rw (doubled_rows g within b.values t r h, p.slacks t r h l, p.multipliers t r h l)
        (parts (residual17 g o costs a b.values t r) (pos (2 * unit) *ℤ right r) S (multiplier (row a.rows t r)) refl)

    less : (x y z : ℤ) → x ≡ y +ℤ z → x -ℤ y ≡ z
    less x y z = rw (split x, split y, split z) (simp to_ℕ (omega arith))

    residuals : changes multiplier g.triples a.rows b.rows ≡ norm_square g o costs a (residual12 g o costs a)
    unfolding changes
    residuals =
        sum_ℕ_same g.triples _ _ (λ t h. sum_ℕ_same 4 _ _ (λ r l. ap (λ (z : ℤ). nat_abs z * nat_abs z)
        (less (pos (multiplier (row b.rows t r))) (pos (multiplier (row a.rows t r))) (residual12 g o costs a t r) (steps t r h l))))

    both : (m n x : ℕ) → (1 if (leb m x && leb n x) ≡ 1) ↔ ((m ≤ x) × (n ≤ x))
    both m n x = (to (leb m x) (leb n x) refl refl, λ h. rw (le-leb m x h.0, le-leb n x h.1))
      where
        to : (s t : Bool) → leb m x ≡ s → leb n x ≡ t → 1 if (s && t) ≡ 1 → (m ≤ x) × (n ≤ x)
        to true true e f h = (leb-true m x e, leb-true n x f)
        to true false e f h = absurd (omega arith)
        to false t e f h = absurd (omega arith)

    start_stop : StartStop g o costs a
    unfolding start settled_by changes
    start_stop = record {
      begins = λ i. rw (none (4 * g.triples) i) (refl, refl);
      steps = steps;
      stops = rw (← residuals) (both (changes multiplier g.triples a.rows b.rows) (changes slack g.triples a.rows b.rows) o.tolerance);
    }

-- ---- of every accepted code and settings
module _ (b : List ℕ) (judged : judge b ≡ 0) (o : Settings) (costs : List ℤ) where
  within : Within (system_of (code_of b))
  unfolding system_of
  within =
      let g = system_of (code_of b) in
      let m = members (code_of b) (accepted b judged) in
      record { few = m.few; named = λ t p h l. member_is g.members g.variables m t p (omega (arith, members_long (code_of b) (accepted b judged))) l }

  -- the divisors are above 0
  accepted_projection : out_of_range o ≡ false → (a : State) (v : ℕ) → v < variables (code_of b) → Projection (system_of (code_of b)) o costs a v
  unfolding system_of
  accepted_projection w a v l =
      projection (system_of (code_of b)) o costs a v l
      (divisor_above (occurrences (system_of (code_of b)).members (system_of (code_of b)).triples v) o.ratio (occurs_some (code_of b) (accepted b judged) v l)
      ((not_out_of_range o).0 w).ratio)

  pub published : out_of_range o ≡ false → Published b o costs
  published w = record {
    system = paper_system (system_of (code_of b)) within;
    updates = λ i. paper (system_of (code_of b)) o costs (iterate_of b o costs i);
    projections = λ i. accepted_projection w (iterate_of b o costs i);
    stops = λ i. start_stop (system_of (code_of b)) o costs (iterate_of b o costs i) within;
  }
