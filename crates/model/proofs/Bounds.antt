-- How large the numbers of a run get. Assumes nothing.
use Rattle.integers.proofs.Prelude.{◌≡◌, ◌∙◌, Bool, true, false, List, ℕ, zero, suc, ◌+◌, ◌*◌, ◌/◌, ◌%◌, ◌^◌, ◌≤◌, ◌<◌, arith, eqb, ℤ, pos}
use Rattle.integers.proofs.Prelude.{nat_abs, neg_ℤ, ◌+ℤ◌, ◌-ℤ◌, ◌*ℤ◌, ◌≤ℤ◌, ◌<ℤ◌, length}
use native.Mathlib.Nat.{mul-le-mul, mul-le-mul_left, le_trans, le_of_eq}
use Rattle.integers.specs.Parts.{up, dn}
use Rattle.integers.specs.Sum.{sum_ℕ, sum_ℤ}
use Rattle.integers.proofs.Linear.{to_ℕ, about, about_sum, abs_neg, abs_add, abs_mul, abs_difference}
use Rattle.integers.proofs.Sums.{sum_ℕ_same, sum_ℕ_scale, sum_ℕ_bound, sum_ℤ_bound}
use Rattle.lists.specs.Tabulated.{tab}
use Rattle.lists.proofs.Tabulated.{get_or_tab}
use Rattle.quotient.specs.Quotient.{unit, quotient}
use Rattle.quotient.proofs.Laws.{quotient_range}
use Rattle.model.specs.declared.Settings.{Settings}
use Rattle.model.specs.Causes.{◌if◌}
use Rattle.model.specs.Limits.{most_checks, most_triples, most_weight, most_ratio, most_iterations, most_done, most_cost, most_slack, most_multiplier, most_row, most_sum, most_numerator}
use Rattle.model.specs.Code.{Code, triples, variables}
use Rattle.model.specs.Sound.{Sound}
use Rattle.model.specs.Calls.{out_of_range}
use Rattle.model.specs.Splitting.{System, system_of, member}
use Rattle.model.specs.Iteration.{at, value_at, row, sign, row_sum, sum_at, slack, multiplier, share, ◌when◌, sum_of, occurrences, numerator, divisor, renewed, renewed_at, State, sums_of, value_of, values_of, rows_of, iterate}
use Rattle.model.specs.Run.{square_of_change, changes, start, after}
use Rattle.model.specs.Bounds.{RowsWithin, Ready, Bounds, Margins}
use Rattle.model.proofs.Causes.{not_out_of_range, within}
use Rattle.model.proofs.TripleRule.{occurs_some, occurs_few}
use Rattle.model.proofs.Rows.{signed_abs, at_tab, none, renewed_at_lem, value_small}

-- ---- the four sums, and a row's renewal
pub row_sum_bound : (r : ℕ) (a b c : ℤ) → r < 4 → nat_abs a ≤ unit → nat_abs b ≤ unit → nat_abs c ≤ unit → nat_abs (row_sum r a b c) ≤ 49152
unfolding row_sum
row_sum_bound r a b c h x y z =
    omega (
      arith,
      abs_add (sign r 0 *ℤ a +ℤ sign r 1 *ℤ b) (sign r 2 *ℤ c),
      abs_add (sign r 0 *ℤ a) (sign r 1 *ℤ b),
      signed_abs r 0 a h (omega arith),
      signed_abs r 1 b h (omega arith),
      signed_abs r 2 c h (omega arith),
    )

module _ (s sum : ℤ) (small : nat_abs sum ≤ 49152) where
  parts : up (renewed s sum) + (dn sum + unit) ≡ (multiplier s + up sum) + dn (renewed s sum)
  parts = omega (arith, about_sum (pos (multiplier s)) sum, about_sum (pos (multiplier s) +ℤ sum) (neg_ℤ (pos unit)))

  pub renewed_multiplier : multiplier (renewed s sum) ≤ multiplier s + most_multiplier 1
  renewed_multiplier = omega (arith, parts, about sum, about (renewed s sum))

  pub renewed_slack : slack (renewed s sum) ≤ most_slack
  renewed_slack = omega (arith, parts, about sum, about (renewed s sum))

  pub multiplier_change : nat_abs (pos (multiplier (renewed s sum)) -ℤ pos (multiplier s)) ≤ 65536
  multiplier_change = abs_difference (multiplier (renewed s sum)) (multiplier s) 65536 (omega (arith, renewed_multiplier)) (omega (arith, parts, about sum))

  pub renewed_small : multiplier s ≤ most_multiplier most_done → nat_abs (renewed s sum) ≤ most_row
  renewed_small h = omega (arith, about (renewed s sum), renewed_multiplier, renewed_slack)

-- ---- all rows, renewed with the values c
module _ (ts : List ℕ) (c : List ℤ) (small : (v : ℕ) → nat_abs (at c v) ≤ unit) where
  pub sum_at_small : (t r : ℕ) → r < 4 → nat_abs (sum_at ts c t r) ≤ 49152
  sum_at_small t r h =
      let of : (p : ℕ) → nat_abs (value_at c (member ts t p)) ≤ unit = λ p. value_small c (member ts t p) (small (member ts t p)) in
      row_sum_bound r _ _ _ h (of 0) (of 1) (of 2)

  pub renewed_within : (n T : ℕ) (s : List ℤ) → RowsWithin n s → RowsWithin (suc n) (tab (4 * T) (renewed_at ts s c))
  renewed_within n T s within =
      let sum : ℕ → ℤ = λ i. sum_at ts c (i / 4) (i % 4) in
      let sum_small : (i : ℕ) → nat_abs (sum i) ≤ 49152 = λ i. sum_at_small (i / 4) (i % 4) (omega arith) in
      record {
        multipliers = λ i. at_tab (λ z. multiplier z ≤ most_multiplier (suc n)) (4 * T) (renewed_at ts s c) i
            (λ _. omega (arith, renewed_multiplier (at s i) (sum i) (sum_small i), within.multipliers i)) (omega arith);
        slacks = λ i. at_tab (λ z. slack z ≤ most_slack) (4 * T) (renewed_at ts s c) i (λ _. renewed_slack (at s i) (sum i) (sum_small i)) (omega arith);
      }

-- ---- a total, where no part changes by more than 65,536
square : (a b : ℕ) → nat_abs (pos b -ℤ pos a) ≤ 65536 → square_of_change a b ≤ 4294967296
square a b h = mul-le-mul h h

pub changes_bound : (part : ℤ → ℕ) (T : ℕ) (old new : List ℤ) → T ≤ most_triples
    → ((t r : ℕ) → t < T → r < 4 → nat_abs (pos (part (row new t r)) -ℤ pos (part (row old t r))) ≤ 65536) → changes part T old new ≤ 2 ^ 47
unfolding changes
changes_bound part T old new few h =
    let term : ℕ → ℕ → ℕ = λ t r. square_of_change (part (row old t r)) (part (row new t r)) in
    let four : (t : ℕ) → t < T → sum_ℕ 4 (term t) ≤ 4 * 4294967296
    = λ t l. sum_ℕ_bound 4 4294967296 (term t) (λ r k. square (part (row old t r)) (part (row new t r)) (h t r l k)) in
    omega (arith, sum_ℕ_bound T (4 * 4294967296) (λ t. sum_ℕ 4 (term t)) four)

-- ---- the divisor
pub divisor_above : (e A : ℕ) → 1 ≤ e → A ≤ most_ratio → pos 0 <ℤ divisor (4 * e) A
divisor_above e A h k = simp to_ℕ (omega arith)

pub divisor_below : (e A m : ℕ) → e ≤ m → divisor (4 * e) A ≤ℤ pos (1024 * m)
divisor_below e A m h = simp to_ℕ (omega arith)

-- ---- both totals of the changes of rows that are renewed with any values within U
module _ (ts : List ℕ) (s c : List ℤ) (value : (v : ℕ) → nat_abs (at c v) ≤ unit) where
  pub totals_renewed : (T n : ℕ) → T ≤ most_triples → RowsWithin n s → let new = tab (4 * T) (renewed_at ts s c) in (changes multiplier T s new ≤ 2 ^ 47) × (changes slack T s new ≤ 2 ^ 47)
  totals_renewed T n few within =
      let new = tab (4 * T) (renewed_at ts s c) in (
        changes_bound multiplier T s new few (λ t r l k.
            rw (get_or_tab (4 * T) (renewed_at ts s c) (4 * t + r) (pos 0) (omega arith), renewed_at_lem ts s c t r k) (multiplier_change (row s t r) (sum_at ts c t r) (sum_at_small ts c value t r k))),
        changes_bound slack T s new few (λ t r l k.
            abs_difference (slack (row new t r)) (slack (row s t r)) 65536 (omega (arith, (renewed_within ts c value n T s within).slacks (4 * t + r))) (omega (arith, within.slacks (4 * t + r)))),
      )

-- ---- one iteration: the values and the rows, whatever the settings and costs
module _ (g : System) (o : Settings) (costs : List ℤ) (a : State) where
  abbrev e : ℕ → ℕ
  e v = occurrences g.members g.triples v

  abbrev b : State
  b = iterate quotient g o costs a

  pub values : (v : ℕ) → nat_abs (at b.values v) ≤ unit
  unfolding iterate values_of
  values v =
      at_tab (λ z. nat_abs z ≤ unit) g.variables (value_of quotient g o costs b.sums) v
      (λ _. quotient_range (numerator o.weight (at b.sums v) (at costs v)) (divisor (4 * e v) o.ratio)) (omega arith)

  pub rows : (n : ℕ) → RowsWithin n a.rows → RowsWithin (suc n) b.rows
  unfolding iterate rows_of
  rows n within = renewed_within g.members b.values values n g.triples a.rows within

-- ---- rows that a run reaches: how large s is, a position's share of a triple, and S of a variable
pub row_small : (n : ℕ) (s : List ℤ) → n ≤ most_iterations → RowsWithin n s → (i : ℕ) → nat_abs (at s i) ≤ most_row
row_small n s h w i = omega (arith, about (at s i), w.multipliers i, w.slacks i)

pub share_small : (s : List ℤ) (t p : ℕ) → p < 3 → ((r : ℕ) → nat_abs (row s t r) ≤ most_row) → nat_abs (share s t p) ≤ 4 * most_row
unfolding share
share_small s t p l h =
    let size : ℕ → ℤ = λ r. pos (slack (row s t r) + multiplier (row s t r)) in
    le_trans (sum_ℤ_bound 4 (λ r. sign r p *ℤ size r) (λ _. most_row) (λ r k. rw (signed_abs r p (size r) k l) (omega (arith, about (row s t r), h r)))) (omega arith)

when_bound : (t : Bool) (z : ℤ) (u : ℕ) → nat_abs z ≤ u → nat_abs (z when t) ≤ u * (1 if t)
when_bound true z u h = omega arith
when_bound false z u h = omega arith

sum_small : (ts : List ℕ) (T : ℕ) (s : List ℤ) → ((i : ℕ) → nat_abs (at s i) ≤ most_row) → (v : ℕ) → nat_abs (sum_of ts T s v) ≤ (4 * most_row) * occurrences ts T v
unfolding sum_of occurrences
sum_small ts T s small v =
    let u = 4 * most_row in
    let f : ℕ → ℕ → ℕ = λ t p. 1 if eqb (member ts t p) v in
    let part : ℕ → ℕ → ℤ = λ t p. share s t p when eqb (member ts t p) v in
    le_trans (sum_ℤ_bound T (λ t. sum_ℤ 3 (part t)) (λ t. sum_ℕ 3 (λ p. u * f t p))
    (λ t _. sum_ℤ_bound 3 (part t) (λ p. u * f t p) (λ p l. when_bound (eqb (member ts t p) v) (share s t p) u (share_small s t p l (λ r. small (4 * t + r))))))
    (le_of_eq (sum_ℕ_same T (λ t. sum_ℕ 3 (λ p. u * f t p)) (λ t. u * sum_ℕ 3 (f t)) (λ t _. sum_ℕ_scale 3 u (f t)) ∙ sum_ℕ_scale T u (λ t. sum_ℕ 3 (f t))))

-- ---- one iteration: all its numbers
module _ (g : System) (o : Settings) (costs : List ℤ) (n : ℕ) (a : State) (ready : Ready g.variables g.members g.triples o costs) (within : RowsWithin n a.rows) where
  abbrev b' : State
  b' = b g o costs a

  sums : n < most_iterations → (v : ℕ) → nat_abs (at b'.sums v) ≤ most_sum
  unfolding iterate sums_of
  sums h v =
      let u = 4 * most_row in
      at_tab (λ z. nat_abs z ≤ most_sum) g.variables (sum_of g.members g.triples a.rows) v
      (λ l. le_trans (sum_small g.members g.triples a.rows (row_small n a.rows (omega arith) within) v)
      (let m : u * e g o costs a v ≤ u * most_checks = mul-le-mul_left u (ready.few v l) in omega arith))
      (omega arith)

  numerators : n < most_iterations → (v : ℕ) → nat_abs (numerator o.weight (at b'.sums v) (at costs v)) ≤ most_numerator
  numerators h v =
      let x = at b'.sums v in
      let y = at costs v in
      let m : nat_abs (pos o.weight *ℤ y) ≤ most_weight * most_cost = rw abs_mul (mul-le-mul ready.weight (ready.cost v)) in
      rw (abs_neg (pos 256 *ℤ x +ℤ pos o.weight *ℤ y)) (omega (arith, abs_add (pos 256 *ℤ x) (pos o.weight *ℤ y), abs_mul (pos 256) x, sums h v))

  totals : (changes multiplier g.triples a.rows b'.rows ≤ 2 ^ 47) × (changes slack g.triples a.rows b'.rows ≤ 2 ^ 47)
  unfolding iterate rows_of
  totals = totals_renewed g.members a.rows b'.values (values g o costs a) g.triples n ready.triples within

  pub bounds : Bounds g o costs n a
  unfolding iterate
  bounds = record {
    divisor_least = λ v h. divisor_above (e g o costs a v) o.ratio (ready.some v h) ready.ratio;
    divisor_most = λ v h. divisor_below (e g o costs a v) o.ratio most_checks (ready.few v h);
    sums = sums;
    numerators = numerators;
    values = values g o costs a;
    rows = rows g o costs a n within;
    multiplier_total = totals.0;
    slack_total = totals.1;
  }

-- ---- after n iterations
pub start_within : (g : System) → RowsWithin 0 (start g).rows
unfolding start
start_within g = record { multipliers = λ i. rw (none (4 * g.triples) i) (omega arith); slacks = λ i. rw (none (4 * g.triples) i) (omega arith) }

pub rows_after : (g : System) (o : Settings) (costs : List ℤ) (n : ℕ) → RowsWithin n (after quotient g o costs n (start g)).rows
unfolding after
rows_after g o costs zero = start_within g
rows_after g o costs (suc n) = rows g o costs (after quotient g o costs n (start g)) n (rows_after g o costs n)

pub values_after : (g : System) (o : Settings) (costs : List ℤ) (n v : ℕ) → nat_abs (at (after quotient g o costs n (start g)).values v) ≤ unit
unfolding after start
values_after g o costs zero v = rw (none g.variables v) (omega arith)
values_after g o costs (suc n) v = values g o costs (after quotient g o costs n (start g)) v

-- ---- an accepted code, settings and costs are ready
pub ready : (k : Code) → Sound k → (o : Settings) → out_of_range o ≡ false → (costs : List ℤ) → length costs ≡ k.bits → ((v : ℕ) → nat_abs (at costs v) ≤ most_cost)
    → Ready (variables k) (system_of k).members (triples k) o costs
unfolding system_of
ready k s o h costs e small =
    let r = (not_out_of_range o).0 h in
    record {
      some = occurs_some k s;
      few = occurs_few k s;
      bits = omega (arith, e);
      triples = s.triples_most;
      weight = r.weight.1;
      ratio = r.ratio;
      cost = small;
    }

-- ---- what is left of the widths
pub margins : Margins
margins = record { row = omega arith; share = omega arith; sum = omega arith; numerator = omega arith }
