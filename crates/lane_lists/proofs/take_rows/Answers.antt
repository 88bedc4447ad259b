-- `lane_lists::take_rows` meets its contract: after i turns the first i rows are the lane's. Assumes nothing.
use Rattle.integers.proofs.Prelude.{refl, arith, w32}
use Rattle.lists.proofs.Tabulated.{over_stored}
use Rattle.lanes.specs.Lanes.{in_lane}
use Rattle.lane_lists.proofs.take_rows.Goals as goal

pub loop-i-preserved : goal.loop-i-preserved
loop-i-preserved c = (
  omega arith,
  rw c.loop-i.invariant.1
      (over_stored w32 c.loop-i.i (in_lane c.args.p.lanes c.args.work.now c.args.l) c.args.rows.now _ (omega (arith, c.loop-i-test.true)) (record { sfits = c.rows-1.given }) refl),
)
