-- Lanes as they begin, with the costs of their frames: rows, values and sums are those of the start. Assumes nothing.
use Rattle.integers.proofs.Prelude.{◌≡◌, refl, sym, ◌∙◌, Bool, true, false, List, [], ℕ, zero, suc, ◌+◌, ◌*◌, ◌≤◌, ◌<◌, arith, eqb, ltb, lt-ltb, le-ltb, dec_lt}
use Rattle.integers.proofs.Prelude.{ℤ, pos, nat_abs, ◌*ℤ◌}
use native.Mathlib.Nat.{mul-le-mul}
use lib.IntN.{*ℤ-zero}
use lib.ListN.{replicate}
use Rattle.integers.specs.Sum.{sum_ℤ}
use Rattle.integers.proofs.Linear.{abs_mul}
use Rattle.lists.specs.Tabulated.{tab, part}
use Rattle.lists.proofs.Tabulated.{tab_same, tab_replicate}
use Rattle.quotient.specs.Quotient.{unit}
use Rattle.model.specs.declared.Settings.{Settings}
use Rattle.model.specs.Limits.{most_weight, most_cost}
use Rattle.model.specs.Code.{Code}
use Rattle.model.specs.Splitting.{System, member}
use Rattle.model.specs.Iteration.{at, ◌when◌, row, sign, slack, multiplier, share, sum_of}
use Rattle.model.specs.Run.{start}
use Rattle.model.specs.Group.{end_of}
use Rattle.model.proofs.GroupSteps.{steps_are_runs}
use Rattle.model.proofs.Rows.{none}
use Rattle.model.proofs.Bounds.{start_within}
use Rattle.lanes.specs.declared.Plan.{Plan}
use Rattle.lanes.specs.Lanes.{in_lane, values_at, sums_at, weighed_at, lane_rows, lane_values, lane_sum, lane_sums, low_part, high_part, lane_weighed, lane_state, SumsKept}
use Rattle.lane_step.specs.Step.{system_for, Summed, Small}
use Rattle.group_step.specs.declared.Stage.{Stage}
use Rattle.group_step.specs.Frames.{going, frame_now}
use Rattle.run.proofs.Remains.{any}
use Rattle.group_run.specs.Given.{Given}
use Rattle.group_run.specs.Course.{ends, Put, InLanes}

-- ---- sums over rows that are all 0
sum_none : (n : ℕ) (f : ℕ → ℤ) → ((k : ℕ) → f k ≡ pos 0) → sum_ℤ n f ≡ pos 0
sum_none zero f h = refl
sum_none (suc n) f h = rw (sum_none n f h, h n) refl

when_none : (z : ℤ) (b : Bool) → z ≡ pos 0 → (z when b) ≡ pos 0
when_none z true h = h
when_none z false h = refl

module _ (s : List ℤ) (h : (i : ℕ) → at s i ≡ pos 0) where
  share_none : (t q : ℕ) → share s t q ≡ pos 0
  unfolding share
  share_none t q = sum_none 4 (λ r. sign r q *ℤ pos (slack (row s t r) + multiplier (row s t r))) (λ r. rw (h (4 * t + r)) (*ℤ-zero (sign r q)))

  sums_none : (ts : List ℕ) (T v : ℕ) → sum_of ts T s v ≡ pos 0
  unfolding sum_of
  sums_none ts T v = sum_none T _ (λ t. sum_none 3 _ (λ q. when_none (share s t q) (eqb (member ts t q) v) (share_none t q)))

-- ---- lane l of w, where it begins
module _ (p : Plan) (w : List ℤ) (l : ℕ) (rows : (j : ℕ) → j < values_at p → in_lane p.lanes w l j ≡ pos 0)
    (values : (v : ℕ) → v < p.variables → in_lane p.lanes w l (values_at p + v) ≡ pos unit)
    (sums : (j : ℕ) → sums_at p 0 ≤ j → j < weighed_at p → in_lane p.lanes w l j ≡ pos 0) where
  rows_are : lane_rows p w l ≡ replicate (4 * p.triples) (pos 0)
  rows_are = tab_same (4 * p.triples) (in_lane p.lanes w l) (λ _. pos 0) rows ∙ tab_replicate (4 * p.triples) (pos 0)

  values_are : lane_values p w l ≡ replicate p.variables (pos 0)
  values_are =
      tab_same p.variables _ (λ _. pos 0) (λ v h. rw (values v h) refl) ∙ tab_replicate p.variables (pos 0)

  -- the sums of both lists
  module _ (i : ℕ) (two : i ≤ 1) where
    sum_there : (j : ℕ) → j < p.variables + p.bits → in_lane p.lanes w l (sums_at p i + j) ≡ pos 0
    sum_there j h = by i two
      where
        by : (i : ℕ) → i ≤ 1 → in_lane p.lanes w l (sums_at p i + j) ≡ pos 0
        by zero _ = sums (sums_at p 0 + j) (omega arith) (omega arith)
        by (suc zero) _ = sums (sums_at p 1 + j) (omega arith) (omega arith)
        by (suc (suc _)) k = absurd (omega arith)

    low_none : (v : ℕ) → v < p.variables → low_part p i w l v ≡ pos 0
    low_none v h = sum_there v (omega arith)

    high_none : (v : ℕ) → high_part p i w l v ≡ pos 0
    high_none v = by (dec_lt v p.bits)
      where
        by : Dec (v < p.bits) → high_part p i w l v ≡ pos 0
        by (yes h) = rw (lt-ltb v p.bits h) (sum_there (p.variables + v) (omega arith))
        by (no h) = rw (le-ltb v p.bits (omega arith)) refl

    kept : (counts : List ℕ) → SumsKept p counts i w l
    kept counts v h = rw (low_none v h, high_none v) (record { narrow = λ _. (omega arith, refl); wide = λ _. (omega arith, omega arith) })

    lane_sums_lem : lane_sums p i w l ≡ tab p.variables (λ _. pos 0)
    lane_sums_lem = tab_same p.variables (lane_sum p i w l) (λ _. pos 0) (λ v h. rw (low_none v h, high_none v) refl)

  pub small : (counts : List ℕ) → ((v : ℕ) → nat_abs (lane_weighed p w l v) ≤ most_weight * most_cost) → Small p counts 0 w l
  unfolding start
  small counts weighed = record {
    rows = rw rows_are (start_within (system_for any p []));
    first = kept 0 (omega arith) counts;
    second = kept 1 (omega arith) counts;
    values = λ v h. rw (values v h) (record { le = tt }, omega arith);
    weighed = weighed;
  }

  pub summed : (ts : List ℕ) → Summed p ts 0 w l
  summed ts =
      lane_sums_lem 0 (omega arith)
      ∙ sym (tab_same p.variables _ (λ _. pos 0) (λ v h. sums_none (lane_rows p w l) (λ i. rw rows_are (none (4 * p.triples) i)) ts p.triples v))

  pub started : (k : Code) (ts : List ℕ) → lane_state p 1 w l ≡ start (system_for k p ts)
  unfolding start
  started k ts = rw (lane_sums_lem 1 (omega arith), values_are, rows_are, tab_replicate p.variables (pos 0)) refl

-- ---- lanes that begin as w₁ and, when the frames that run have their costs, are w₂
module _ {p : Plan} {F : ℕ} {o : Settings} {ts counts : List ℕ} {costs : List ℤ} {stages : List Stage} (given : Given p F o ts counts costs stages)
    (below : (f : ℕ) → going stages f ≡ true → f < F) {w₁ w₂ : List ℤ}
    (values : (l v : ℕ) → l < p.lanes → v < p.variables → in_lane p.lanes w₁ l (values_at p + v) ≡ pos unit)
    (rows : (l j : ℕ) → l < p.lanes → j < values_at p → in_lane p.lanes w₁ l j ≡ pos 0)
    (behind : (l j : ℕ) → l < p.lanes → sums_at p 0 ≤ j → in_lane p.lanes w₁ l j ≡ pos 0) (put : Put p o.weight costs stages F w₁ w₂) where
  module _ (l : ℕ) (h : l < p.lanes) where
    rows₂ : (j : ℕ) → j < values_at p → in_lane p.lanes w₂ l j ≡ pos 0
    rows₂ j k = put.before l j h (omega arith) ∙ rows l j h k

    values₂ : (v : ℕ) → v < p.variables → in_lane p.lanes w₂ l (values_at p + v) ≡ pos unit
    values₂ v k = put.before l (values_at p + v) h (omega arith) ∙ values l v h k

    sums₂ : (j : ℕ) → sums_at p 0 ≤ j → j < weighed_at p → in_lane p.lanes w₂ l j ≡ pos 0
    sums₂ j k m = put.before l j h m ∙ behind l j h k

    within : (v : ℕ) → nat_abs (lane_weighed p w₂ l v) ≤ most_weight * most_cost
    within v = by (going stages l) refl
      where
        by : (t : Bool) → going stages l ≡ t → nat_abs (lane_weighed p w₂ l v) ≤ most_weight * most_cost
        by true r =
            let ready = given.ready l (below l r) r in
            rw (put.weighed l (below l r) r v, abs_mul (pos o.weight) (at (part p.bits l costs) v)) (mul-le-mul ready.weight (ready.cost v))
        by false r =
            let z : lane_weighed p w₂ l v ≡ pos 0
            = when_none _ (ltb v p.bits) (put.others l (weighed_at p + v) h r ∙ behind l (weighed_at p + v) h (omega arith)) in
            rw z (omega arith)

  lane_below : (f : ℕ) → going stages f ≡ true → f < p.lanes
  lane_below f r = omega (arith, below f r, given.lanes)

  pub in_lanes : InLanes p o ts counts 0 0 stages w₂
  in_lanes = record {
    fits = put.fits;
    small = λ l h. small p w₂ l (rows₂ l h) (values₂ l h) (sums₂ l h) counts (within l h);
    more = λ f r. given.limit.0;
    summed = λ f r. (let h = lane_below f r in summed p w₂ f (rows₂ f h) (values₂ f h) (sums₂ f h) ts);
    weighed = λ f r. (part p.bits f costs, put.weighed f (below f r) r);
  }

  -- how the frames end from there
  pub from_start : (k : Code) (S c s : List ℤ) (f : ℕ)
      → end_of (system_for k p ts) o (part p.bits f costs) (frame_now p 1 0 w₂ stages S c s f) ≡ ends p o k ts costs 0 stages S c s f
  from_start k S c s f = by (going stages f) refl
    where
      g : System
      g = system_for k p ts

      by : (t : Bool) → going stages f ≡ t
          → end_of g o (part p.bits f costs) (frame_now p 1 0 w₂ stages S c s f) ≡ ends p o k ts costs 0 stages S c s f
      by true r =
          let h = lane_below f r in
          rw (r, started p w₂ f (rows₂ f h) (values₂ f h) (sums₂ f h) k ts) (steps_are_runs g o (part p.bits f costs)).begins
      by false r = rw r refl
