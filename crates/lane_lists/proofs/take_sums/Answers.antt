-- `lane_lists::take_sums` meets its contract: after v turns the first v sums are the lane's. Assumes nothing.
use Rattle.integers.proofs.Prelude.{arith, w64}
use Rattle.lists.proofs.Tabulated.{over_stored}
use Rattle.lanes.specs.Lanes.{lane_sum}
use Rattle.lane_lists.proofs.take_sums.Goals as goal

pub loop-v-preserved : goal.loop-v-preserved
loop-v-preserved c =
    let a = c.args in (
      omega arith,
      rw c.loop-v.invariant.1
          (over_stored w64 c.loop-v.v (lane_sum a.p a.i a.work.now a.l) a.sums.now _ (omega (arith, c.loop-v-test.true)) (record { sfits = c.sum_in.type_inv }) c.sum_in.ensures),
    )
