-- `lane_lists::sum_in` meets its contract: both parts of the sum of a bit, one of an auxiliary's. Assumes nothing.
use Rattle.integers.proofs.Prelude.{◌+◌, arith}
use Rattle.lanes.specs.Lanes.{sums_at}
use Rattle.lanes.proofs.Places.{behind_in, sums_end}
use Rattle.lane_lists.proofs.sum_in.Goals as goal

-- the high part stands behind the sums
pub bounds-work-first-then-v-p : goal.bounds-work-first-then-v-p
bounds-work-first-then-v-p c =
    let a = c.args in
    behind_in c.requires.0 (sums_at a.p a.i) a.l (a.p.variables + a.v) a.first c.requires.3 c.requires.1 (omega (arith, sums_end a.p a.i c.requires.2))
