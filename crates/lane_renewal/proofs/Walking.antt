-- Lanes while their triples are renewed and counted. Assumes nothing.
use Rattle.integers.proofs.Prelude.{◌≡◌, refl, sym, ap, ap₂, ◌∙◌, Bool, true, false, List, ℕ, ◌+◌, ◌-◌, ◌*◌, ◌^◌, ◌≤◌, ◌<◌, arith, dec_lt, ltb, ltb-true, ℤ, pos, negsuc, nat_abs, ◌-ℤ◌, ◌*ℤ◌, get_or}
use Rattle.integers.specs.Sum.{sum_ℕ}
use Rattle.integers.proofs.Sums.{sum_ℕ_same, sum_ℕ_split}
use Rattle.lists.proofs.Tabulated.{get_or_tab}
use Rattle.quotient.specs.Quotient.{unit}
use Rattle.model.specs.Limits.{most_triples, most_done, most_iterations}
use Rattle.model.specs.Iteration.{at, multiplier, slack, sum_of, occurrences, renewed_at}
use Rattle.model.specs.Run.{changes, settled_by}
use Rattle.model.specs.Bounds.{RowsWithin}
use Rattle.model.proofs.Rows.{at_tab}
use Rattle.model.proofs.Runs.{changes_rows, settled_by_lem}
use Rattle.model.proofs.Bounds.{renewed_within, totals_renewed, row_small}
use Rattle.rows.specs.Sides.{change_of}
use Rattle.rows.proofs.Four.{side_multiplier, side_slack}
use Rattle.lanes.specs.declared.Plan.{Plan}
use Rattle.lanes.specs.Lanes.{in_lane, values_at, Fits, lane_rows, lane_values, low_part, high_part}
use Rattle.lanes.proofs.Places.{place_below}
use Rattle.lane_triples.specs.Walk.{Due, new_rows, Walked, SameBeside}
use Rattle.lane_renewal.specs.declared.Totals.{Totals}
use Rattle.lane_renewal.specs.Counting.{settled_in, rows_change, Comparable, AtMost, Grown, NoneWithin, lane_changes, Counted}

-- ---- one lane: how large its rows and totals are
module _ (p : Plan) (ts : List ℕ) (w : List ℤ) (l : ℕ) where
  -- the total of one side, over some triples and over all
  part_most : (side : ℤ) (t : ℕ) → t ≤ p.triples → lane_changes side p ts w l t ≤ lane_changes side p ts w l p.triples
  part_most side t h =
      let rest = 4 * p.triples - 4 * t in
      let e : 4 * t + rest ≡ 4 * p.triples = omega arith in
      omega (arith, rw e at (sum_ℕ_split (4 * t) rest (λ j. change_of side (at (lane_rows p w l) j) (at (new_rows p ts w l) j))))

  whole_is : (side : ℤ) (part : ℤ → ℕ) → ((z : ℤ) → multiplier (side *ℤ z) ≡ part z) → lane_changes side p ts w l p.triples ≡ changes part p.triples (lane_rows p w l) (new_rows p ts w l)
  whole_is side part is =
      sum_ℕ_same (4 * p.triples) _ _ (λ j _. rw (is (at (lane_rows p w l) j), is (at (new_rows p ts w l) j))) ∙ sym (changes_rows part p.triples (lane_rows p w l) (new_rows p ts w l))

  module _ {i : ℕ} (due : Due p i w l) where
    values_small : (v : ℕ) → nat_abs (at (lane_values p w l) v) ≤ unit
    values_small v = at_tab (λ z. nat_abs z ≤ unit) p.variables (λ v. in_lane p.lanes w l (values_at p + v) -ℤ pos unit) v (due.values v) (omega arith)

    comparable : (j : ℕ) → Comparable (at (lane_rows p w l) j) (at (new_rows p ts w l) j)
    comparable j =
        let new : RowsWithin most_iterations (new_rows p ts w l) = renewed_within ts (lane_values p w l) values_small most_done p.triples (lane_rows p w l) due.within in
        (row_small most_done (lane_rows p w l) (omega arith) due.within j, row_small most_iterations (new_rows p ts w l) (omega arith) new j)

    totals_small : (t : ℕ) → p.triples ≤ most_triples → t ≤ p.triples → (lane_changes (pos 1) p ts w l t ≤ 2 ^ 47) × (lane_changes (negsuc 0) p ts w l t ≤ 2 ^ 47)
    totals_small t few h =
        let most = totals_renewed ts (lane_rows p w l) (lane_values p w l) values_small p.triples most_done few due.within in
        (omega (arith, part_most (pos 1) t h, whole_is (pos 1) multiplier side_multiplier, most.0), omega (arith, part_most (negsuc 0) t h, whole_is (negsuc 0) slack side_slack, most.1))

    -- before the walk
    walked_none : (counts : List ℕ) → Walked p ts counts i w l 0 w
    unfolding sum_of occurrences
    walked_none counts = record {
      done = λ j h. absurd (omega arith);
      left = λ j _ _. refl;
      values = λ v _. refl;
      sums = λ v h. rw (low v h, high v (ltb v p.bits) refl);
      kept = λ v h. rw (low v h, high v (ltb v p.bits) refl) (record { narrow = λ _. (omega arith, refl); wide = λ _. (omega arith, omega arith) });
      others = λ j _. refl;
      weighed = λ b _. refl;
    }
      where
        low : (v : ℕ) → v < p.variables → low_part p i w l v ≡ pos 0
        low v h = due.cleared v (omega arith)

        high : (v : ℕ) (t : Bool) → ltb v p.bits ≡ t → high_part p i w l v ≡ pos 0
        high v true e = rw e (due.cleared (p.variables + v) (omega (arith, ltb-true v p.bits e)))
        high v false e = rw e

-- ---- the lanes from..to
module _ (p : Plan) (ts counts : List ℕ) (i from to : ℕ) (w : List ℤ) where
  pub counted_none : (totals : Totals) → Fits p w → ((l : ℕ) → from ≤ l → l < to → Due p i w l) → ((l : ℕ) → (get_or totals.multipliers l 0 ≡ 0) × (get_or totals.slacks l 0 ≡ 0))
      → Counted p ts counts i from to w 0 w totals
  counted_none totals fits due zero = record {
    few = omega arith;
    fits = fits;
    walked = λ l f h. walked_none p ts w l (due l f h) counts;
    beside = λ l j _ _. refl;
    of_multipliers = λ l _ _. (zero l).0;
    of_slacks = λ l _ _. (zero l).1;
  }

  -- how large their totals are
  pub counted_small : {t : ℕ} {w' : List ℤ} {totals : Totals} → Counted p ts counts i from to w t w' totals → p.triples ≤ most_triples
      → ((l : ℕ) → from ≤ l → l < to → Due p i w l) → AtMost from to (2 ^ 62) totals
  counted_small {t} c few due = record {
    multipliers = λ l f h. omega (arith, c.of_multipliers l f h, (small l f h).0);
    slacks = λ l f h. omega (arith, c.of_slacks l f h, (small l f h).1);
  }
    where
      small : (l : ℕ) → from ≤ l → l < to → (lane_changes (pos 1) p ts w l t ≤ 2 ^ 47) × (lane_changes (negsuc 0) p ts w l t ≤ 2 ^ 47)
      small l f h = totals_small p ts w l (due l f h) t few c.few

  -- whether a frame that runs settles
  pub settled : (X t : ℕ) (running : List Bool) (totals : Totals) (w' : List ℤ) → Counted p ts counts i from to w t w' totals
      → (t < p.triples → NoneWithin X running totals from to) → (l : ℕ) → from ≤ l → l < to → get_or running l false ≡ true
      → settled_in X totals l ≡ settled_by X p.triples (lane_rows p w l) (new_rows p ts w l)
  settled X t running totals w' c none l f h runs =
      let m = c.of_multipliers l f h in
      let s = c.of_slacks l f h in
      let M = whole_is p ts w l (pos 1) multiplier side_multiplier in
      let S = whole_is p ts w l (negsuc 0) slack side_slack in
      settled_by_lem X p.triples _ _ (lane_rows p w l) (new_rows p ts w l)
      (omega (arith, m, M, part_most p ts w l (pos 1) t c.few)) (omega (arith, s, S, part_most p ts w l (negsuc 0) t c.few))
      (λ a b. let e = all a b (dec_lt t p.triples) in (m ∙ ap (lane_changes (pos 1) p ts w l) e ∙ M, s ∙ ap (lane_changes (negsuc 0) p ts w l) e ∙ S))
    where
      all : get_or totals.multipliers l 0 ≤ X → get_or totals.slacks l 0 ≤ X → Dec (t < p.triples) → t ≡ p.triples
      all a b (yes k) = absurd (none k l f h runs a b)
      all a b (no k) = omega (arith, c.few)

-- ---- n triples more: `before` keeps their rows, which stood in w₁, and w₂ has the renewed ones
pub record Block (p : Plan) (ts counts : List ℕ) (i from to : ℕ) (w : List ℤ) (t : ℕ) (w₁ : List ℤ) (totals : Totals) (n : ℕ) (before w₂ : List ℤ) : Type 0 where
  pub so_far : Counted p ts counts i from to w t w₁ totals
  pub few : t + n ≤ p.triples
  pub room : to ≤ p.lanes
  pub kept : (k : ℕ) → k < p.lanes * (4 * n) → at before k ≡ at w₁ (p.lanes * (4 * t) + k)
  pub walked : (l : ℕ) → from ≤ l → l < to → Walked p ts counts i w l (t + n) w₂

module _ {p : Plan} {ts counts : List ℕ} {i from to : ℕ} {w : List ℤ} {t : ℕ} {w₁ : List ℤ} {totals : Totals} {n : ℕ} {before w₂ : List ℤ}
    (b : Block p ts counts i from to w t w₁ totals n before w₂) where
  old_at : (r l : ℕ) → r < 4 * n → from ≤ l → l < to → at before (p.lanes * r + l) ≡ at (lane_rows p w l) (4 * t + r)
  old_at r l h f g =
      let e : p.lanes * (4 * t) + (p.lanes * r + l) ≡ p.lanes * (4 * t + r) + l = omega arith in
      b.kept (p.lanes * r + l) (place_below p.lanes (4 * n) r l (omega (arith, b.room)) h)
      ∙ ap (at w₁) e
      ∙ (b.so_far.walked l f g).left (4 * t + r) (omega arith) (omega (arith, b.few))
      ∙ sym (get_or_tab (4 * p.triples) (in_lane p.lanes w l) (4 * t + r) (pos 0) (omega (arith, b.few)))

  new_at : (r l : ℕ) → r < 4 * n → from ≤ l → l < to → at w₂ (p.lanes * (4 * t) + p.lanes * r + l) ≡ at (new_rows p ts w l) (4 * t + r)
  new_at r l h f g =
      let e : p.lanes * (4 * t) + p.lanes * r + l ≡ p.lanes * (4 * t + r) + l = omega arith in
      ap (at w₂) e
      ∙ (b.walked l f g).done (4 * t + r) (omega arith)
      ∙ sym (get_or_tab (4 * p.triples) (renewed_at ts (lane_rows p w l) (lane_values p w l)) (4 * t + r) (pos 0) (omega (arith, b.few)))

  pub rows_comparable : ((l : ℕ) → from ≤ l → l < to → Due p i w l) → (r l : ℕ) → r < 4 * n → from ≤ l → l < to
      → Comparable (at before (p.lanes * r + l)) (at w₂ (p.lanes * (4 * t) + p.lanes * r + l))
  rows_comparable due r l h f g = rw (old_at r l h f g, new_at r l h f g) (comparable p ts w l (due l f g) (4 * t + r))

  total : (side : ℤ) (l : ℕ) → from ≤ l → l < to → lane_changes side p ts w l t + rows_change side before w₂ (p.lanes * (4 * t)) p.lanes (4 * n) l ≡ lane_changes side p ts w l (t + n)
  total side l f g =
      let h : ℕ → ℕ = λ j. change_of side (at (lane_rows p w l) j) (at (new_rows p ts w l) j) in
      let e : 4 * t + 4 * n ≡ 4 * (t + n) = omega arith in
      ap (λ (x : ℕ). lane_changes side p ts w l t + x) (sum_ℕ_same (4 * n) _ (λ r. h (4 * t + r)) (λ r k. ap₂ (change_of side) (old_at r l k f g) (new_at r l k f g)))
      ∙ sym (sum_ℕ_split (4 * t) (4 * n) h)
      ∙ ap (λ (x : ℕ). sum_ℕ x h) e

  pub counted_more : (totals' : Totals) → Fits p w₂ → SameBeside p from to w₁ w₂
      → Grown from to (λ side. rows_change side before w₂ (p.lanes * (4 * t)) p.lanes (4 * n)) totals totals' → Counted p ts counts i from to w (t + n) w₂ totals'
  counted_more totals' fits beside grown = record {
    few = b.few;
    fits = fits;
    walked = b.walked;
    beside = λ l j h k. beside l j h k ∙ b.so_far.beside l j h k;
    of_multipliers = λ l f g. grown.multipliers l f g ∙ omega (arith, b.so_far.of_multipliers l f g, total (pos 1) l f g);
    of_slacks = λ l f g. grown.slacks l f g ∙ omega (arith, b.so_far.of_slacks l f g, total (negsuc 0) l f g);
  }
