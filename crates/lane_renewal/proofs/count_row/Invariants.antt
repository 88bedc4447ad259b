-- `lane_renewal::count_row` meets its contract: after some turns the totals of the lanes before l have grown. Assumes nothing.
use Rattle.integers.proofs.Prelude.{◌≤◌, pos, negsuc}
use Rattle.lane_renewal.specs.Counting.{row_change}
use Rattle.lane_renewal.proofs.Reaching.{Reached}
use Rattle.lane_renewal.proofs.count_row.Given as goal

abbrev pub invariant-loop-l : goal.invariant-loop-l
invariant-loop-l l = record {
  order : l.from ≤ l.l;
  multipliers : Reached (row_change (pos 1) l.before l.i l.work l.j) l.from l.initial.totals.multipliers l.totals.multipliers l.l;
  slacks : Reached (row_change (negsuc 0) l.before l.i l.work l.j) l.from l.initial.totals.slacks l.totals.slacks l.l;
}
