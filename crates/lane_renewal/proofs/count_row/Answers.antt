-- `lane_renewal::count_row` meets its contract: after some turns the totals of the lanes before l have grown. Assumes nothing.
use Rattle.integers.proofs.Prelude.{ap, ℕ, ◌+◌, arith, rules, pos, negsuc, get_or}
use Rattle.lane_renewal.specs.Counting.{row_change}
use Rattle.lane_renewal.proofs.Reaching.{reached_next}
use Rattle.lane_renewal.proofs.count_row.Goals as goal

pub loop-l-preserved : goal.loop-l-preserved
loop-l-preserved c =
    let a = c.args in
    record {
      order = omega arith;
      multipliers = reached_next (row_change (pos 1) a.before.now a.i a.work.now a.j) a.from a.totals.now.multipliers _ (search rules) (ap (λ (x : ℕ). get_or c.loop-l.totals.multipliers c.loop-l.l 0 + x) (search rules)) c.loop-l.invariant.multipliers;
      slacks = reached_next (row_change (negsuc 0) a.before.now a.i a.work.now a.j) a.from a.totals.now.slacks _ (search rules) (ap (λ (x : ℕ). get_or c.loop-l.totals.slacks c.loop-l.l 0 + x) (search rules)) c.loop-l.invariant.slacks;
    }
