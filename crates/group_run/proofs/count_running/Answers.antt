-- `group_run::count_running` meets its contract. Assumes nothing.
use Rattle.integers.proofs.Prelude.{arith, rules}
use Rattle.group_run.proofs.Running.{counted_next}
use Rattle.group_run.proofs.count_running.Goals as goal
use Rattle.group_run.proofs.count_running.Goals.{else-running-f, then-running-f}

pub loop-f-preserved : goal.loop-f-preserved
loop-f-preserved c =
    let next = counted_next c.args.running.now c.loop-f.f (search rules) in
    elim c.if-running-f.branch [
      | then-running-f w ↦ (omega arith, omega (arith, w.n-is), omega (arith, w.n-is, rw w.if-running-f.true at next))
      | else-running-f w ↦ (omega arith, omega (arith, w.n-is), omega (arith, w.n-is, rw w.if-running-f.false at next))
    ]
