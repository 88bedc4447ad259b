-- `lane_renewal::count_rows` meets its contract: after r turns the totals have grown by the changes of r rows. Assumes nothing.
use Rattle.integers.proofs.Prelude.{ℕ, ◌+◌, ◌*◌, ◌^◌, ◌≤◌, ◌<◌, arith, add-one, List, ℤ, pos, negsuc, nat_abs}
use Rattle.integers.proofs.Sums.{sum_ℕ_bound}
use Rattle.model.specs.Limits.{most_row}
use Rattle.model.specs.Iteration.{at}
use Rattle.rows.proofs.Four.{change_small}
use Rattle.lane_renewal.specs.declared.Totals.{Totals}
use Rattle.lane_renewal.specs.Counting.{row_change, rows_change, Comparable, AtMost, Grown}
use Rattle.lane_renewal.proofs.count_rows.Goals as goal

module _ (before w : List ℤ) (i L from to r : ℕ) {t t' : Totals} (so_far : Grown from to (λ side. rows_change side before w i L r) t t') where
  -- r rows are so few that the totals do not exceed 2 ^ 63
  small : (n : ℕ) → ((r l : ℕ) → r < n → from ≤ l → l < to → Comparable (at before (L * r + l)) (at w (i + L * r + l))) → n ≤ 32 → r < n
      → AtMost from to (2 ^ 62) t → AtMost from to (2 ^ 63) t'
  small n all few h a = record {
    multipliers = λ l f g. omega (arith, so_far.multipliers l f g, a.multipliers l f g, most (pos 1) (omega arith) l f g);
    slacks = λ l f g. omega (arith, so_far.slacks l f g, a.slacks l f g, most (negsuc 0) (omega arith) l f g);
  }
    where
      most : (side : ℤ) → nat_abs side ≤ 1 → (l : ℕ) → from ≤ l → l < to → rows_change side before w i L r l ≤ r * (most_row * most_row)
      most side one l f g =
          sum_ℕ_bound r (most_row * most_row) (λ r. row_change side before (L * r) w (i + L * r) l) (λ k m. change_small side one _ _ (all k l (omega arith) f g))

  -- and one row more is counted
  further : (t'' : Totals) → Grown from to (λ side. row_change side before (L * r) w (i + L * r)) t' t'' → Grown from to (λ side. rows_change side before w i L (r + 1)) t t''
  further t'' g = record {
    multipliers = λ l f h. rw (add-one r) (omega (arith, g.multipliers l f h, so_far.multipliers l f h));
    slacks = λ l f h. rw (add-one r) (omega (arith, g.slacks l f h, so_far.slacks l f h));
  }

pub count_row-requires-clause-at_most : goal.count_row-requires-clause-at_most
count_row-requires-clause-at_most c =
    let a = c.args in
    small a.before.now a.work.now a.first a.lanes a.from a.to c.loop-r.r c.loop-r.invariant.1 a.rows c.requires.comparable c.requires.few.2 c.loop-r-test.true c.requires.at_most

pub loop-r-preserved : goal.loop-r-preserved
loop-r-preserved c =
    let a = c.args in
    (omega (arith, c.loop-r-test.true), further a.before.now a.work.now a.first a.lanes a.from a.to c.loop-r.r c.loop-r.invariant.1 _ c.count_row.ensures)
