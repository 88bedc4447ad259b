-- `reduction::add` meets its contract: the columns so far are sums, the others as they were. Assumes nothing.
use Rattle.integers.proofs.Prelude.{arith}
use Rattle.reduction.proofs.Table.{sum_slices}
use Rattle.reduction.proofs.add.Goals as goal

pub returns : goal.returns
returns c =
    let a = c.args in
    sum_slices a.start a.bits a.row.now a.other.now c.loop-i.row (omega arith) c.loop-i.invariant.0 (λ i h k. c.loop-i.invariant.3 i (omega arith) h)
