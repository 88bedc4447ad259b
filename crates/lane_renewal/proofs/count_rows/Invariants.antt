-- `lane_renewal::count_rows` meets its contract: after r turns the totals have grown by the changes of r rows. Assumes nothing.
use Rattle.integers.proofs.Prelude.{◌≤◌}
use Rattle.lane_renewal.specs.Counting.{rows_change, Grown}
use Rattle.lane_renewal.proofs.count_rows.Given as goal

abbrev pub invariant-loop-r : goal.invariant-loop-r
invariant-loop-r l = (l.r ≤ l.rows) × Grown l.from l.to (λ side. rows_change side l.before l.work l.first l.lanes l.r) l.initial.totals l.totals
