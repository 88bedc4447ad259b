-- One triple in four lanes: it may be renewed as `Step` says, and the walk is one triple further in these lanes. Assumes nothing.
use Rattle.integers.proofs.Prelude.{◌≡◌, refl, sym, ap, subst, ◌∙◌, Bool, true, false, cond, List, ℕ, zero, suc, ◌+◌, ◌-◌, ◌*◌, ◌^◌, ◌≤◌, ◌<◌, arith, dec_lt}
use Rattle.integers.proofs.Prelude.{ltb-true, ltb-false, lt-ltb, eqb-true, eqb-false, eq-eqb, eqb, ℤ, pos, nat_abs, ◌+ℤ◌, ◌-ℤ◌, ◌*ℤ◌, length, get_or, get_or-eq_default, sets}
use mathlib.Core.Logic.{◌⊎◌, inl, inr, ◌≢◌}
use native.Mathlib.Nat.{add-zero, add-suc, mul-le-mul_left}
use lib.Seq.{length-sets}
use lib.Signed.{shr_z}
use Rattle.integers.specs.Sum.{sum_ℕ, sum_ℤ}
use Rattle.integers.proofs.Linear.{split, to_ℕ, about}
use Rattle.integers.proofs.Sums.{sum_ℕ_split, sum_ℕ_bound, sum_ℤ_same}
use Rattle.lists.specs.Tabulated.{tab}
use Rattle.lists.proofs.Tabulated.{get_or_tab}
use Rattle.quotient.specs.Quotient.{unit}
use Rattle.model.specs.Limits.{most_triples, most_done, most_row}
use Rattle.model.specs.Causes.{◌if◌}
use Rattle.model.specs.Splitting.{blank, member}
use Rattle.model.specs.Iteration.{at, row, sign, value_at, slack, multiplier, share, renewed_at, occurrences}
use Rattle.model.proofs.Rows.{three, at_tab, renewed_at_lem, value_small}
use Rattle.model.proofs.Bounds.{renewed_within, row_small}
use Rattle.fours.proofs.Parts.{high_small, low_small}
use Rattle.fours.proofs.Rows.{share_small}
use Rattle.lanes.specs.declared.Plan.{Plan}
use Rattle.lanes.proofs.Places.{list_short, fits_same}
use Rattle.lanes.specs.Lanes.{in_lane, values_at, sums_at, lane_size, Fits, lane_rows, lane_values, most_narrow, Kept}
use Rattle.lane_triples.specs.Step.{added, MayAdd, highs_of, lows_of, given, MayGive, with_rows, MayRenew, Places, is_wide, values_in, row_in, shares_in, after, MayStep}
use Rattle.lane_triples.specs.Walk.{Tripled, Due, new_rows, Walked, InWalk, SameBeside}
use Rattle.lane_triples.proofs.Stores.{put_here, put_other}
use Rattle.lane_triples.proofs.Lane.{high, part_count, Partly, before_weighed, Put, gave_whole, gave_parts, gave_none, begun, ended, row_put, place_given}

-- ---- how often a variable occurs
part_below : (m n : ℕ) (f : ℕ → ℕ) → m ≤ n → sum_ℕ m f ≤ sum_ℕ n f
part_below m n f h = let e : m + (n - m) ≡ n = omega arith in omega (arith, sum_ℕ_split m (n - m) f, ap (λ (k : ℕ). sum_ℕ k f) e)

module _ (ts : List ℕ) (T : ℕ) where
  -- once more, if a place that comes next names it
  once_more : (t q : ℕ) → t < T → q < 3 → part_count ts t q (member ts t q) + 1 ≤ occurrences ts T (member ts t q)
  unfolding occurrences
  once_more t q h l =
      let v = member ts t q in
      let one : ℕ → ℕ → ℕ = λ u x. 1 if eqb (member ts u x) v in
      let this : one t q ≡ 1 = rw (eq-eqb v v refl) in
      omega (arith, this, part_below (suc q) 3 (one t) l, part_below (suc t) T (λ u. sum_ℕ 3 (one u)) h)

  few : (v : ℕ) → occurrences ts T v ≤ T * 3
  unfolding occurrences
  few v = sum_ℕ_bound T 3 (λ t. sum_ℕ 3 (λ x. 1 if eqb (member ts t x) v)) (λ t _. sum_ℕ_bound 3 1 (λ x. 1 if eqb (member ts t x) v) (λ x _. by (eqb (member ts t x) v)))
    where
      by : (e : Bool) → 1 if e ≤ 1
      by true = omega arith
      by false = omega arith

-- ---- four numbers
-- what holds of four and of 0 holds of any entry
four_or_zero : (P : ℤ → Type 0) (q : List ℤ) → length q ≡ 4 → ((k : ℕ) → k < 4 → P (at q k)) → P (pos 0) → (k : ℕ) → P (at q k)
four_or_zero P q e h z k = by (dec_lt k 4)
  where
    by : Dec (k < 4) → P (at q k)
    by (yes l) = h k l
    by (no l) = rw (get_or-eq_default q (pos 0) {n = k} (omega arith)) z

-- they are their two parts
no_high : (z : ℤ) → z +ℤ pos (2 ^ 14) *ℤ pos 0 ≡ z
no_high z = rw (split z) (simp to_ℕ (omega arith))

both_parts : (x : List ℤ) (k : ℕ) → k < 4 → at (lows_of x) k +ℤ pos (2 ^ 14) *ℤ at (highs_of x) k ≡ at x k
both_parts x k n =
    rw (get_or_tab 4 (λ k. at x k -ℤ pos (2 ^ 14) *ℤ shr_z (at x k) (2 ^ 14)) k (pos 0) n, get_or_tab 4 (λ k. shr_z (at x k) (2 ^ 14)) k (pos 0) n) (by (at x k) (shr_z (at x k) (2 ^ 14)))
  where
    by : (z y : ℤ) → (z -ℤ pos (2 ^ 14) *ℤ y) +ℤ pos (2 ^ 14) *ℤ y ≡ z
    by z y = rw (split z, split y) (simp to_ℕ (omega arith))

-- ---- triple t comes next in the lanes from h on, which stood in w and stand in w₀
pub record Turn (p : Plan) (ts counts : List ℕ) (i : ℕ) (w : List ℤ) (t h : ℕ) (w₀ : List ℤ) : Type 0 where
  pub fits : Fits p w₀
  pub tripled : Tripled p ts counts
  pub list : i ≤ 1
  pub below : t < p.triples
  pub room : h + 4 ≤ p.lanes
  pub lanes : InWalk p ts counts i w h (h + 4) t w₀

-- s has its places
pub record Stands (p : Plan) (ts counts : List ℕ) (i t h : ℕ) (s : Places) : Type 0 where
  pub rows : s.rows ≡ p.lanes * (4 * t) + h
  pub none : (q : ℕ) → q < 3 → s.none q ≡ eqb (member ts t q) blank
  pub value : (q : ℕ) → q < 3 → s.none q ≡ false → s.value q ≡ p.lanes * (values_at p + member ts t q) + h
  pub sum : (q : ℕ) → q < 3 → s.none q ≡ false → s.sum q ≡ p.lanes * (sums_at p i + member ts t q) + h
  pub wide : (q : ℕ) → q < 3 → s.none q ≡ false → s.wide q ≡ is_wide counts (member ts t q)
  pub apart : (q : ℕ) → q < 3 → s.none q ≡ false → s.wide q ≡ true → s.apart ≡ p.lanes * p.variables

-- ---- a store of four in a list of lanes
module _ (p : Plan) (h : ℕ) (room : h + 4 ≤ p.lanes) where
  -- entry j of four lanes became f's
  record Stored (j : ℕ) (f : ℕ → ℤ) (w w' : List ℤ) : Type 0 where
    long : length w' ≡ length w
    here : (k : ℕ) → k < 4 → Put j (f k) (in_lane p.lanes w (h + k)) (in_lane p.lanes w' (h + k))
    beside : SameBeside p h (h + 4) w w'

  module _ (w : List ℤ) (fits : Fits p w) where
    in_list : (j : ℕ) → j < lane_size p → p.lanes * j + h + 3 < length w
    in_list j l = omega (arith, fits.long, mul-le-mul_left p.lanes l)

    stored : (j i : ℕ) (f : ℕ → ℤ) → j < lane_size p → i ≡ p.lanes * j + h → Stored j f w (sets w i (tab 4 f))
    stored j i f l e =
        let inside : i + 3 < length w = omega (arith, in_list j l) in
        record {
          long = length-sets w i (tab 4 f);
          here = λ k m. record {
            here = put_here p.lanes h fits.lanes room w j i e f inside k m;
            other = λ n d. put_other p.lanes h fits.lanes room w j i e f inside (h + k) n (omega arith) (inl d);
          };
          beside = λ l n m d. put_other p.lanes h fits.lanes room w j i e f inside l n m (inr d);
        }

    -- an entry as the code reads it
    entry : (j i : ℕ) → i ≡ p.lanes * j + h → (k : ℕ) → at w (i + k) ≡ in_lane p.lanes w (h + k) j
    entry j i e k = ap (at w) (omega arith)

    increased : (j i : ℕ) (q : List ℤ) → j < lane_size p → i ≡ p.lanes * j + h → Stored j (λ k. in_lane p.lanes w (h + k) j +ℤ at q k) w (added w i q)
    unfolding added
    increased j i q l e =
        let s = stored j i (λ k. at w (i + k) +ℤ at q k) l e in
        record {
          long = s.long;
          here = λ k m. record { here = (s.here k m).here ∙ ap (λ (z : ℤ). z +ℤ at q k) (entry j i e k); other = (s.here k m).other };
          beside = s.beside;
        }

-- ---- what the triple is renewed with
module _ {p : Plan} {ts counts : List ℕ} {i : ℕ} {w : List ℤ} {t h : ℕ} {w₀ : List ℤ} (turn : Turn p ts counts i w t h w₀) {s : Places} (st : Stands p ts counts i t h s) where
  abbrev L : ℕ
  L = p.lanes

  abbrev c : ℕ → List ℤ
  c k = lane_values p w (h + k)

  abbrev new : ℕ → List ℤ
  new k = new_rows p ts w (h + k)

  due : (k : ℕ) → k < 4 → Due p i w (h + k)
  due k m = (turn.lanes (h + k) (omega arith) (omega arith)).0

  walked : (k : ℕ) → k < 4 → Walked p ts counts i w (h + k) t w₀
  walked k m = (turn.lanes (h + k) (omega arith) (omega arith)).1

  in_triples : 3 * t + 2 < length ts
  in_triples = omega (arith, turn.tripled.long, turn.below)

  -- a place that is not the blank's has a variable
  variable : (q : ℕ) → q < 3 → s.none q ≡ false → member ts t q < p.variables
  variable q l e =
      three (λ q. eqb (member ts t q) blank ≡ false → member ts t q < p.variables) (λ _. turn.tripled.named.first t in_triples) (λ _. turn.tripled.named.second t in_triples)
      (λ e. by (turn.tripled.named.third t in_triples) (eqb-false (member ts t 2) blank e)) q l (sym (st.none q l) ∙ e)
    where
      by : (member ts t 2 < p.variables) ⊎ (member ts t 2 ≡ blank) → member ts t 2 ≢ blank → member ts t 2 < p.variables
      by (inl h) other = h
      by (inr h) other = absurd (other h)

  value_is : (q k : ℕ) → q < 3 → k < 4 → at (values_in L w₀ s q) k -ℤ pos unit ≡ value_at (c k) (member ts t q)
  value_is q k l m = ap (λ (z : ℤ). z -ℤ pos unit) (get_or_tab 4 (λ k. cond (s.none q) (pos 0) (at w₀ (s.value q + k))) k (pos 0) m) ∙ by (s.none q) refl
    where
      by : (e : Bool) → s.none q ≡ e → cond e (pos 0) (at w₀ (s.value q + k)) -ℤ pos unit ≡ value_at (c k) (member ts t q)
      by true e = rw (← st.none q l, e)
      by false e =
          let v = variable q l e in
          let is : at w₀ (s.value q + k) ≡ in_lane L w (h + k) (values_at p + member ts t q)
          = entry p h turn.room w₀ turn.fits (values_at p + member ts t q) (s.value q) (st.value q l e) k ∙ (walked k m).values (member ts t q) v in
          rw (is, ← st.none q l, e, get_or_tab p.variables (λ v. in_lane L w (h + k) (values_at p + v) -ℤ pos unit) (member ts t q) (pos 0) v)

  values_small : (k : ℕ) → k < 4 → (v : ℕ) → nat_abs (at (c k) v) ≤ unit
  values_small k m v = at_tab (λ z. nat_abs z ≤ unit) p.variables (λ v. in_lane L w (h + k) (values_at p + v) -ℤ pos unit) v ((due k m).values v) (omega arith)

  value_within : (q : ℕ) → q < 3 → (k : ℕ) → nat_abs (at (values_in L w₀ s q) k -ℤ pos unit) ≤ unit
  value_within q l = four_or_zero (λ z. nat_abs (z -ℤ pos unit) ≤ unit) (values_in L w₀ s q) refl (λ k m. rw (value_is q k l m) (value_small (c k) (member ts t q) (values_small k m (member ts t q)))) (omega arith)

  old_is : (r k : ℕ) → r < 4 → k < 4 → at w₀ (s.rows + r * L + k) ≡ row (lane_rows p w (h + k)) t r
  old_is r k l m =
      let e : s.rows + r * L ≡ L * (4 * t + r) + h = omega (arith, st.rows) in
      entry p h turn.room w₀ turn.fits (4 * t + r) (s.rows + r * L) e k
      ∙ (walked k m).left (4 * t + r) (omega arith) (omega (arith, turn.below))
      ∙ sym (get_or_tab (4 * p.triples) (in_lane L w (h + k)) (4 * t + r) (pos 0) (omega (arith, turn.below)))

  new_is : (r k : ℕ) → r < 4 → k < 4 → row_in L w₀ s r k ≡ renewed_at ts (lane_rows p w (h + k)) (c k) (4 * t + r)
  new_is r k l m =
      rw (old_is r k l m, value_is 0 k (omega arith) m, value_is 1 k (omega arith) m, value_is 2 k (omega arith) m) (sym (renewed_at_lem ts (lane_rows p w (h + k)) (c k) t r l))

  may_renew : MayRenew L w₀ s.rows (values_in L w₀ s 0) (values_in L w₀ s 1) (values_in L w₀ s 2)
  may_renew = record {
    room = omega (arith, st.rows, in_list p h turn.room w₀ turn.fits (4 * t + 3) (omega (arith, turn.below)));
    multipliers = λ r k l m. rw (old_is r k l m) ((due k m).within.multipliers (4 * t + r));
    slacks = λ r k l m. rw (old_is r k l m) ((due k m).within.slacks (4 * t + r));
    first = value_within 0 (omega arith);
    second = value_within 1 (omega arith);
    third = value_within 2 (omega arith);
  }

  -- what the new rows give
  share_is : (q k : ℕ) → k < 4 → at (shares_in L w₀ s q) k ≡ share (new k) t q
  unfolding share
  share_is q k m =
      let signed : ℕ → ℤ → ℤ = λ r z. sign r q *ℤ pos (slack z + multiplier z) in
      get_or_tab 4 (λ k. sum_ℤ 4 (λ r. signed r (row_in L w₀ s r k))) k (pos 0) m
      ∙ sum_ℤ_same 4 (λ r. signed r (row_in L w₀ s r k)) (λ r. signed r (row (new k) t r)) (λ r l. ap (signed r)
      (new_is r k l m ∙ sym (get_or_tab (4 * p.triples) (renewed_at ts (lane_rows p w (h + k)) (c k)) (4 * t + r) (pos 0) (omega (arith, turn.below)))))

  share_within : (q k : ℕ) → q < 3 → k < 4 → nat_abs (share (new k) t q) ≤ 2 * most_row
  unfolding share
  share_within q k l m =
      let within = renewed_within ts (c k) (values_small k m) most_done p.triples (lane_rows p w (h + k)) (due k m).within in
      share_small (λ r. slack (row (new k) t r) + multiplier (row (new k) t r)) most_row
      (λ r. omega (arith, about (row (new k) t r), row_small (suc most_done) (new k) (omega arith) within (4 * t + r))) q l

  -- ---- the lanes while it is renewed: n rows are, and q places are given their shares
  record State (n q : ℕ) (w' : List ℤ) : Type 0 where
    long : length w' ≡ length w₀
    lanes : (k : ℕ) → k < 4 → Partly p ts counts i w (h + k) t n q (in_lane L w' (h + k))
    beside : SameBeside p h (h + 4) w₀ w'

  now_fits : {n q : ℕ} {w' : List ℤ} → State n q w' → Fits p w'
  now_fits a = fits_same turn.fits _ a.long

  -- ---- rows
  start : State (4 * t + 0) 0 w₀
  start = rw (add-zero (4 * t)) (record { long = refl; lanes = λ k m. begun (walked k m); beside = λ l j _ _. refl })

  row_step : (r : ℕ) {w' : List ℤ} (e : ℕ) → r < 4 → e ≡ L * (4 * t + r) + h → State (4 * t + r) 0 w' → State (4 * t + suc r) 0 (sets w' e (tab 4 (row_in L w₀ s r)))
  row_step r {w'} e l is a =
      let x = stored p h turn.room w' (now_fits a) (4 * t + r) e (row_in L w₀ s r) (omega (arith, turn.below)) is in
      record {
        long = x.long ∙ a.long;
        lanes = λ k m. rw (add-suc (4 * t) r) (row_put (a.lanes k m) (omega (arith, turn.below)) (record { here = (x.here k m).here ∙ new_is r k l m; other = (x.here k m).other }));
        beside = λ l j b o. x.beside l j b o ∙ a.beside l j b o;
      }

  rows_renewed : State (4 * suc t) 0 (with_rows L w₀ s.rows (row_in L w₀ s))
  unfolding with_rows
  rows_renewed =
      let e : 4 * suc t ≡ 4 * t + 4 = omega arith in
      rw e (row_step 3 (s.rows + 3 * L) (omega arith) (omega (arith, st.rows)) (row_step 2 (s.rows + 2 * L) (omega arith) (omega (arith, st.rows))
      (row_step 1 (s.rows + L) (omega arith) (omega (arith, st.rows)) (row_step 0 s.rows (omega arith) (omega (arith, st.rows)) start))))

  -- ---- the share of place q, which has no variable
  none_step : (q : ℕ) {w' : List ℤ} → q < 3 → s.none q ≡ true → State (4 * suc t) q w' → State (4 * suc t) (suc q) w'
  none_step q {w'} l e a =
      let m_is : member ts t q ≡ blank = eqb-true (member ts t q) blank (sym (st.none q l) ∙ e) in
      let above : p.variables ≤ member ts t q = omega (arith, turn.tripled.named.few) in
      record {
        long = a.long;
        lanes = λ k m.
            place_given (a.lanes k m) (omega (arith, turn.below)) turn.list (share (new k) t q) (pos 0)
            (gave_none p i (member ts t q) (share (new k) t q) (pos 0) (in_lane L w' (h + k)) above) (no_high (share (new k) t q)) (λ v u e. absurd (omega arith));
        beside = a.beside;
      }

  -- ---- or has one
  module _ (q : ℕ) (l : q < 3) (some : s.none q ≡ false) {w' : List ℤ} (a : State (4 * suc t) q w') where
    abbrev m : ℕ
    m = member ts t q

    abbrev x : List ℤ
    x = shares_in L w₀ s q

    abbrev count : ℕ
    count = get_or counts m 0

    var : m < p.variables
    var = variable q l some

    -- one more is counted, and there are not many
    next : part_count ts t q m + 1 ≤ count
    next = rw (ap (λ (c : List ℕ). get_or c m 0) turn.tripled.counted ∙ get_or_tab p.variables (occurrences ts p.triples) m 0 var) (once_more ts p.triples t q turn.below l)

    most : count ≤ 3 * most_triples
    most =
        rw (ap (λ (c : List ℕ). get_or c m 0) turn.tripled.counted ∙ get_or_tab p.variables (occurrences ts p.triples) m 0 var)
        (omega (arith, few ts p.triples m, turn.fits.triples))

    narrow : s.wide q ≡ false → count ≤ most_narrow
    narrow e = ltb-false most_narrow count (sym (st.wide q l some) ∙ e)

    broad : s.wide q ≡ true → most_narrow < count
    broad e = ltb-true most_narrow count (sym (st.wide q l some) ∙ e)

    -- no auxiliary is so
    bit : s.wide q ≡ true → m < p.bits
    bit e = by (dec_lt m p.bits)
      where
        by : Dec (m < p.bits) → m < p.bits
        by (yes h) = h
        by (no h) = absurd (omega (arith, broad e, turn.tripled.auxiliaries m (omega arith) var))

    in_sums : (v : ℕ) → v < p.variables + p.bits → sums_at p i + v < lane_size p
    in_sums v h = omega (arith, before_weighed p i turn.list)

    kept : (k : ℕ) → k < 4 → Kept count (part_count ts t q m) (in_lane L w' (h + k) (sums_at p i + m)) (high p i (in_lane L w' (h + k)) m)
    kept k n = (a.lanes k n).kept m var

    share_most : (k : ℕ) → nat_abs (at x k) ≤ 2 * most_row
    share_most = four_or_zero (λ z. nat_abs z ≤ 2 * most_row) x refl (λ k n. rw (share_is q k n) (share_within q k l n)) (omega arith)

    -- the sum, and what is added to it
    at_sum : s.sum q ≡ L * (sums_at p i + m) + h
    at_sum = st.sum q l some

    put_low : (z : List ℤ) → Stored p h turn.room (sums_at p i + m) (λ k. in_lane L w' (h + k) (sums_at p i + m) +ℤ at z k) w' (added w' (s.sum q) z)
    put_low z = increased p h turn.room w' (now_fits a) (sums_at p i + m) (s.sum q) z (in_sums m (omega (arith, var))) at_sum

    may_low : (z : List ℤ) → ((k : ℕ) → k < 4 → nat_abs (in_lane L w' (h + k) (sums_at p i + m)) + nat_abs (at z k) < 2 ^ 31) → MayAdd w' (s.sum q) z
    may_low z small = record {
      room = omega (arith, at_sum, in_list p h turn.room w' (now_fits a) (sums_at p i + m) (in_sums m (omega (arith, var))));
      small = λ k n. rw (entry p h turn.room w' (now_fits a) (sums_at p i + m) (s.sum q) at_sum k) (small k n);
    }

    high_most : (k : ℕ) → nat_abs (at (highs_of x) k) ≤ 2 ^ 14
    high_most k = at_tab (λ z. nat_abs z ≤ 2 ^ 14) 4 (λ k. shr_z (at x k) (2 ^ 14)) k (λ _. high_small (at x k) (share_most k)) (omega arith)

    low_most : (k : ℕ) → nat_abs (at (lows_of x) k) ≤ 2 ^ 14
    low_most k = at_tab (λ z. nat_abs z ≤ 2 ^ 14) 4 (λ k. at x k -ℤ pos (2 ^ 14) *ℤ shr_z (at x k) (2 ^ 14)) k (λ _. low_small (at x k)) (omega arith)

    -- in two parts
    module _ (e : s.wide q ≡ true) where
      abbrev between : List ℤ
      between = added w' (s.sum q) (lows_of x)

      then_fits : Fits p between
      then_fits = fits_same (now_fits a) _ (put_low (lows_of x)).long

      at_high : s.sum q + s.apart ≡ L * (sums_at p i + (p.variables + m)) + h
      at_high = omega (arith, at_sum, st.apart q l some e)

      put_high : Stored p h turn.room (sums_at p i + (p.variables + m)) (λ k. in_lane L between (h + k) (sums_at p i + (p.variables + m)) +ℤ at (highs_of x) k) between (added between (s.sum q + s.apart) (highs_of x))
      put_high = increased p h turn.room between then_fits (sums_at p i + (p.variables + m)) (s.sum q + s.apart) (highs_of x) (in_sums (p.variables + m) (omega (arith, bit e))) at_high

      may_high : MayAdd between (s.sum q + s.apart) (highs_of x)
      may_high = record {
        room = omega (arith, at_high, in_list p h turn.room between then_fits (sums_at p i + (p.variables + m)) (in_sums (p.variables + m) (omega (arith, bit e))));
        small = λ k n.
            rw (entry p h turn.room between then_fits (sums_at p i + (p.variables + m)) (s.sum q + s.apart) at_high k)
            (rw (((put_low (lows_of x)).here k n).other (sums_at p i + (p.variables + m)) (λ z. omega (arith, var)))
            (omega (arith, rw (lt-ltb m p.bits (bit e)) at ((kept k n).wide (broad e)).1, next, most, high_most k)));
      }

    may_give : MayGive (s.wide q) w' (s.sum q) (s.sum q + s.apart) x
    may_give = record {
      share = share_most;
      whole = λ e. may_low x (λ k n. omega (arith, ((kept k n).narrow (narrow e)).0, narrow e, next, share_most k));
      low = λ e. may_low (lows_of x) (λ k n. omega (arith, ((kept k n).wide (broad e)).0, next, most, low_most k));
      high = may_high;
    }

    give_step : (e : Bool) → s.wide q ≡ e → State (4 * suc t) (suc q) (given e w' (s.sum q) (s.sum q + s.apart) x)
    unfolding given
    give_step false e =
        let y = put_low x in
        record {
          long = y.long ∙ a.long;
          lanes = λ k n.
              place_given (a.lanes k n) (omega (arith, turn.below)) turn.list (at x k) (pos 0) (gave_whole p i m (at x k) (y.here k n) var) (no_high (at x k) ∙ share_is q k n) (λ v u z.
              rw (← z) (record { narrow = λ _. (omega (arith, share_most k), refl); wide = λ b. absurd (omega (arith, narrow e)) }));
          beside = λ l j b o. y.beside l j b o ∙ a.beside l j b o;
        }
    give_step true e =
        let y = put_low (lows_of x) in
        let z = put_high e in
        record {
          long = z.long ∙ y.long ∙ a.long;
          lanes = λ k n.
              place_given (a.lanes k n) (omega (arith, turn.below)) turn.list (at (lows_of x) k) (at (highs_of x) k)
              (gave_parts p i m (at (lows_of x) k) (y.here k n) var (at (highs_of x) k) (z.here k n) (bit e)) (both_parts x k n ∙ share_is q k n) (λ v u same.
              rw (← same) (record { narrow = λ b. absurd (omega (arith, broad e)); wide = λ _. (omega (arith, low_most k), omega (arith, high_most k)) }));
          beside = λ l j b o. z.beside l j b o ∙ y.beside l j b o ∙ a.beside l j b o;
        }

  -- ---- place after place
  after_state : (q : ℕ) → q ≤ 3 → State (4 * suc t) q (after L w₀ s q)
  unfolding after
  after_state zero h = rows_renewed
  after_state (suc q) h = by (s.none q) refl (after_state q (omega arith))
    where
      by : (e : Bool) → s.none q ≡ e → State (4 * suc t) q (after L w₀ s q)
          → State (4 * suc t) (suc q) (cond e (after L w₀ s q) (given (s.wide q) (after L w₀ s q) (s.sum q) (s.sum q + s.apart) (shares_in L w₀ s q)))
      by true e a = none_step q (omega arith) e a
      by false e a = give_step q (omega arith) e a (s.wide q) refl

  pub may_step : MayStep L w₀ s
  may_step = record {
    long = omega (arith, list_short turn.fits);
    values = λ q l e. omega (arith, st.value q l e, in_list p h turn.room w₀ turn.fits (values_at p + member ts t q) (omega (arith, variable q l e)));
    renew = may_renew;
    give = λ q l e. may_give q l e (after_state q (omega arith));
  }

  pub stepped : InWalk p ts counts i w h (h + 4) (suc t) (after L w₀ s 3)
  stepped l a b =
      let k = l - h in
      let e : h + k ≡ l = omega arith in
      subst (λ (l : ℕ). Due p i w l × Walked p ts counts i w l (suc t) (after L w₀ s 3)) e (due k (omega arith), ended ((after_state 3 (omega arith)).lanes k (omega arith)))

  pub stepped_long : length (after L w₀ s 3) ≡ length w₀
  stepped_long = (after_state 3 (omega arith)).long

  pub stepped_beside : SameBeside p h (h + 4) w₀ (after L w₀ s 3)
  stepped_beside = (after_state 3 (omega arith)).beside
