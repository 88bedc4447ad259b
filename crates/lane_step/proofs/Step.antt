-- A lane before an iteration, when its values are written, and when its rows are renewed. Assumes nothing.
use Rattle.integers.proofs.Prelude.{◌≡◌, refl, sym, ap, ap₂, ◌∙◌, Bool, true, false, List, ℕ, zero, suc, ◌+◌, ◌-◌, ◌*◌, ◌^◌, ◌≤◌, ◌<◌, arith, dec_lt}
use Rattle.integers.proofs.Prelude.{ltb, lt-ltb, le-ltb, ℤ, pos, nat_abs, neg_ℤ, ◌+ℤ◌, ◌-ℤ◌, ◌*ℤ◌, ◌≤ℤ◌, get_or}
use Rattle.integers.proofs.Linear.{split, to_ℕ, read_ℤ, about, about_sum, abs_add}
use Rattle.lists.specs.Tabulated.{tab}
use Rattle.lists.proofs.Tabulated.{tab_same, get_or_tab}
use Rattle.quotient.specs.Quotient.{unit, quotient}
use Rattle.quotient.proofs.Laws.{quotient_range}
use Rattle.model.specs.declared.Settings.{Settings}
use Rattle.model.specs.Limits.{most_done}
use Rattle.model.specs.Code.{Code}
use Rattle.model.specs.Iteration.{at, ◌when◌, occurrences, sum_of, divisor, renewed_at, State, iterate, sums_of, value_of, values_of, rows_of}
use Rattle.model.specs.Run.{settled_by, stop}
use Rattle.model.specs.Bounds.{RowsWithin}
use Rattle.model.proofs.Rows.{at_tab}
use Rattle.model.proofs.Bounds.{renewed_within}
use Rattle.lanes.specs.declared.Plan.{Plan}
use Rattle.lanes.specs.Lanes.{in_lane, values_at, sums_at, weighed_at, lane_rows, lane_values, lane_sum, lane_sums, low_part, high_part, lane_weighed, lane_state, SumsKept}
use Rattle.lane_values.specs.Valued.{lane_value, LaneValued}
use Rattle.lane_triples.specs.Walk.{Tripled, Due, new_rows, Walked}
use Rattle.lane_step.specs.Step.{system_for, Weighed, Summed, Small}

-- a state by its lists
stated : {S S' c c' s s' : List ℤ} → S ≡ S' → c ≡ c' → s ≡ s'
    → ◌≡◌ {A = State} (record { sums = S; values = c; rows = s }) (record { sums = S'; values = c'; rows = s' })
stated {S} {S'} {c} {c'} {s} {s'} d e f = rw (d, e, f) refl

-- what is raised and lowered again
lowered : (z : ℤ) (n : ℕ) → z +ℤ pos n -ℤ pos n ≡ z
lowered z n = rw (split z) (simp to_ℕ (omega arith))

raised : (z : ℤ) → nat_abs z ≤ unit → (pos 0 ≤ℤ (z +ℤ pos unit)) × (nat_abs (z +ℤ pos unit) ≤ 2 * unit)
raised z h = (omega (arith, read_ℤ, about z, about_sum z (pos unit)), omega (arith, abs_add z (pos unit)))

-- entries that are taken only below n
when_same : (n x : ℕ) (y z : ℤ) → (x < n → y ≡ z) → (y when ltb x n) ≡ (z when ltb x n)
when_same n x y z h = by (dec_lt x n)
  where
    by : Dec (x < n) → (y when ltb x n) ≡ (z when ltb x n)
    by (yes l) = rw (lt-ltb x n l) (h l)
    by (no l) = rw (le-ltb x n (omega arith)) refl

-- ---- the sums of list i, and W × L, where their entries are the same
module _ (p : Plan) (w w' : List ℤ) (l : ℕ) where
  abbrev SameSums : ℕ → Type 0
  SameSums i = (j : ℕ) → j < p.variables + p.bits → in_lane p.lanes w' l (sums_at p i + j) ≡ in_lane p.lanes w l (sums_at p i + j)

  low_same : (i : ℕ) → SameSums i → (x : ℕ) → x < p.variables → low_part p i w' l x ≡ low_part p i w l x
  low_same i s x h = s x (omega arith)

  high_same : (i : ℕ) → SameSums i → (x : ℕ) → high_part p i w' l x ≡ high_part p i w l x
  high_same i s x = when_same p.bits x _ _ (λ b. s (p.variables + x) (omega arith))

  sums_same : (i : ℕ) → SameSums i → lane_sums p i w' l ≡ lane_sums p i w l
  sums_same i s =
      tab_same p.variables (lane_sum p i w' l) (lane_sum p i w l)
      (λ x h. ap₂ (λ (y z : ℤ). y +ℤ pos (2 ^ 14) *ℤ z) (low_same i s x h) (high_same i s x))

  kept_same : (counts : List ℕ) (i : ℕ) → SameSums i → SumsKept p counts i w l → SumsKept p counts i w' l
  kept_same counts i s k x h = rw (low_same i s x h, high_same i s x) (k x h)

  abbrev SameWeighed : Type 0
  SameWeighed = (b : ℕ) → b < p.bits → in_lane p.lanes w' l (weighed_at p + b) ≡ in_lane p.lanes w l (weighed_at p + b)

  weighed_same : SameWeighed → (x : ℕ) → lane_weighed p w' l x ≡ lane_weighed p w l x
  weighed_same s x = when_same p.bits x _ _ (s x)

-- a list of sums without any
kept_none : (p : Plan) (counts : List ℕ) (i : ℕ) (w : List ℤ) (l : ℕ)
    → ((j : ℕ) → j < p.variables + p.bits → in_lane p.lanes w l (sums_at p i + j) ≡ pos 0) → SumsKept p counts i w l
kept_none p counts i w l z x h =
    let low : low_part p i w l x ≡ pos 0 = z x (omega arith) in
    let high : high_part p i w l x ≡ pos 0
    = when_same p.bits x _ (pos 0) (λ b. z (p.variables + x) (omega arith)) ∙ zero_when (ltb x p.bits) in
    rw (low, high) (record { narrow = λ _. (omega arith, refl); wide = λ _. (omega arith, omega arith) })
  where
    zero_when : (b : Bool) → (pos 0 when b) ≡ pos 0
    zero_when true = refl
    zero_when false = refl

-- of the two lists
both : (p : Plan) (counts : List ℕ) (i : ℕ) (w : List ℤ) (l : ℕ) → i ≤ 1 → SumsKept p counts i w l → SumsKept p counts (1 - i) w l
    → SumsKept p counts 0 w l × SumsKept p counts 1 w l
both p counts zero w l h a b = (a, b)
both p counts (suc zero) w l h a b = (b, a)
both p counts (suc (suc i)) w l h a b = absurd (omega arith)

one_of : (p : Plan) (counts : List ℕ) (i n : ℕ) (w : List ℤ) (l : ℕ) → i ≤ 1 → Small p counts n w l → SumsKept p counts i w l
one_of p counts zero n w l h s = s.first
one_of p counts (suc zero) n w l h s = s.second
one_of p counts (suc (suc i)) n w l h s = absurd (omega arith)

-- what is small is so with more iterations done
pub small_more : (p : Plan) (counts : List ℕ) (k n : ℕ) (w : List ℤ) (l : ℕ) → k ≤ n → Small p counts k w l → Small p counts n w l
small_more p counts k n w l h s = record {
  rows = record { multipliers = λ i. omega (arith, s.rows.multipliers i); slacks = s.rows.slacks };
  first = s.first;
  second = s.second;
  values = s.values;
  weighed = s.weighed;
}

module _ {p : Plan} {counts : List ℕ} (o : Settings) {i : ℕ} (two : i ≤ 1) {w w₁ : List ℤ} {l : ℕ} (valued : LaneValued p counts o.ratio i w w₁ l) where
  -- ---- the values are written
  abbrev c : ℕ → ℤ
  c x = lane_value p counts o.ratio i w l x

  value_small : (x : ℕ) → nat_abs (c x) ≤ unit
  value_small x = quotient_range (neg_ℤ (pos 256 *ℤ lane_sum p i w l x +ℤ lane_weighed p w l x)) (divisor (4 * get_or counts x 0) o.ratio)

  rows_first : lane_rows p w₁ l ≡ lane_rows p w l
  rows_first = tab_same (4 * p.triples) (in_lane p.lanes w₁ l) (in_lane p.lanes w l) valued.rows

  values_first : lane_values p w₁ l ≡ tab p.variables c
  values_first = tab_same p.variables _ c (λ x h. ap (λ (z : ℤ). z -ℤ pos unit) (valued.values x h) ∙ lowered (c x) unit)

  first_small : (x : ℕ) → nat_abs (at (lane_values p w₁ l) x) ≤ unit
  first_small x = rw values_first (at_tab (λ z. nat_abs z ≤ unit) p.variables c x (λ _. value_small x) (omega arith))

  pub due : RowsWithin most_done (lane_rows p w l) → Due p (1 - i) w₁ l
  due within = record {
    within = rw rows_first within;
    values = λ x h. rw (valued.values x h, lowered (c x) unit) (value_small x);
    cleared = valued.cleared;
  }

  abbrev there : 1 - (1 - i) ≡ i
  there = omega arith

  -- ---- the rows are renewed
  module _ {ts : List ℕ} {w₂ : List ℤ} (tripled : Tripled p ts counts) (walked : Walked p ts counts (1 - i) w₁ l p.triples w₂) where
    rows_second : lane_rows p w₂ l ≡ new_rows p ts w₁ l
    rows_second = tab_same (4 * p.triples) (in_lane p.lanes w₂ l) (renewed_at ts (lane_rows p w₁ l) (lane_values p w₁ l)) walked.done

    values_second : lane_values p w₂ l ≡ lane_values p w₁ l
    values_second = tab_same p.variables _ _ (λ x h. ap (λ (z : ℤ). z -ℤ pos unit) (walked.values x h))

    same_second : SameSums p w w₂ l i
    same_second j h = rw there at (walked.others j h) ∙ valued.sums j h

    pub weighed_second : (x : ℕ) → lane_weighed p w₂ l x ≡ lane_weighed p w l x
    weighed_second = weighed_same p w w₂ l (λ b h. walked.weighed b h ∙ valued.weighed b h)

    counted : (x : ℕ) → x < p.variables → occurrences ts p.triples x ≡ get_or counts x 0
    counted x h = rw tripled.counted (sym (get_or_tab p.variables (occurrences ts p.triples) x 0 h))

    pub small_second : (n : ℕ) → Small p counts n w l → Small p counts (suc n) w₂ l
    small_second n s =
        let k : SumsKept p counts (1 - i) w₂ l = λ x h. rw (counted x h) at (walked.kept x h) in
        let b = both p counts i w₂ l two (kept_same p w w₂ l counts i same_second (one_of p counts i n w l two s)) k in
        record {
          rows = rw rows_second (renewed_within ts (lane_values p w₁ l) first_small n p.triples (lane_rows p w₁ l) (rw rows_first s.rows));
          first = b.0;
          second = b.1;
          values = λ x h. rw (walked.values x h, valued.values x h) (raised (c x) (value_small x));
          weighed = λ x. rw (weighed_second x) (s.weighed x);
        }

    pub summed_second : Summed p ts (1 - i) w₂ l
    summed_second =
        tab_same p.variables (lane_sum p (1 - i) w₂ l) (sum_of ts p.triples (new_rows p ts w₁ l)) walked.sums
        ∙ ap (λ (s : List ℤ). tab p.variables (sum_of ts p.triples s)) (sym rows_second)

    -- an iteration of the frame whose costs the lane has
    module _ (k : Code) (costs : List ℤ) (weighed : Weighed p o.weight costs w l) (summed : Summed p ts i w l) where
      abbrev a : State
      a = lane_state p (1 - i) w l

      sums_are : lane_sums p i w₂ l ≡ sums_of (system_for k p ts) a.rows
      unfolding sums_of
      sums_are = sums_same p w w₂ l i same_second ∙ summed

      -- S of each variable, as it was summed
      sum_is : (x : ℕ) → x < p.variables → at (sums_of (system_for k p ts) a.rows) x ≡ lane_sum p i w l x
      unfolding sums_of
      sum_is x h = ap (λ (s : List ℤ). at s x) (sym summed) ∙ get_or_tab p.variables (lane_sum p i w l) x (pos 0) h

      values_are : lane_values p w₂ l ≡ values_of quotient (system_for k p ts) o costs (sums_of (system_for k p ts) a.rows)
      unfolding values_of
      values_are =
          values_second ∙ values_first
          ∙ tab_same p.variables c (value_of quotient (system_for k p ts) o costs (sums_of (system_for k p ts) a.rows))
          (λ x h. rw (sum_is x h, weighed x, counted x h) refl)

      pub goes_on : lane_state p i w₂ l ≡ iterate quotient (system_for k p ts) o costs a
      unfolding iterate rows_of
      goes_on =
          let rows : lane_rows p w₂ l ≡ rows_of (system_for k p ts) a.rows (values_of quotient (system_for k p ts) o costs (sums_of (system_for k p ts) a.rows))
          = rows_second ∙ ap₂ (λ (s c : List ℤ). tab (4 * p.triples) (renewed_at ts s c)) rows_first (sym values_second ∙ values_are) in
          stated sums_are values_are rows

      pub stops : settled_by o.tolerance p.triples (lane_rows p w₁ l) (new_rows p ts w₁ l) ≡ stop (system_for k p ts) o a (lane_state p i w₂ l)
      stops = ap₂ (settled_by o.tolerance p.triples) rows_first (sym rows_second)

  -- ---- no frame runs in its four: the rows stay
  module _ (w₂ : List ℤ) (same : (j : ℕ) → in_lane p.lanes w₂ l j ≡ in_lane p.lanes w₁ l j) where
    pub weighed_left : (x : ℕ) → lane_weighed p w₂ l x ≡ lane_weighed p w l x
    weighed_left = weighed_same p w w₂ l (λ b h. same (weighed_at p + b) ∙ valued.weighed b h)

    pub small_left : (n : ℕ) → Small p counts n w l → Small p counts (suc n) w₂ l
    small_left n s =
        let k = kept_none p counts (1 - i) w₂ l (λ j h. same (sums_at p (1 - i) + j) ∙ valued.cleared j h) in
        let b = both p counts i w₂ l two (kept_same p w w₂ l counts i (λ j h. same (sums_at p i + j) ∙ valued.sums j h) (one_of p counts i n w l two s)) k in
        let rows : lane_rows p w₂ l ≡ lane_rows p w l
        = tab_same (4 * p.triples) (in_lane p.lanes w₂ l) (in_lane p.lanes w l) (λ j h. same j ∙ valued.rows j h) in
        record {
          rows = rw rows (small_more p counts n (suc n) w l (omega arith) s).rows;
          first = b.0;
          second = b.1;
          values = λ x h. rw (same (values_at p + x), valued.values x h) (raised (c x) (value_small x));
          weighed = λ x. rw (weighed_left x) (s.weighed x);
        }
