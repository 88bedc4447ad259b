-- `frames::main` is safe and ends: before each read the state holds what `session::advance` requires of it. Assumes nothing.
use Rattle.integers.proofs.Prelude.{sym, arith, rules, length-take-le}
use Rattle.session.proofs.Turns.{start_kept}
use Rattle.session.proofs.Steps.{sent_kept}
use Rattle.frames.proofs.main.Goals as goal

pub loop-init : goal.loop-init
loop-init c = (search rules, rw c.start-state.ensures start_kept)

pub slice_bounds-read-end : goal.slice_bounds-read-end
slice_bounds-read-end c = sym c.loop.invariant.0

pub read-came-requires : goal.read-came-requires
read-came-requires c = omega (arith, c.loop.invariant.0, c.loop.invariant.1.fits)

pub advance-step-requires : goal.advance-step-requires
advance-step-requires c =
    record { kept = rw c.read-came.ensures.1 c.loop.invariant.1; most = c.read-came.ensures.0 }

pub slice_bounds-out-end : goal.slice_bounds-out-end
slice_bounds-out-end c = c.advance-step.ensures.within

pub slice_bounds-write_all-end : goal.slice_bounds-write_all-end
slice_bounds-write_all-end c = sym (length-take-le _ _ c.advance-step.ensures.within)

pub loop-preserved : goal.loop-preserved
loop-preserved c = (search rules, sent_kept _ _ _ c.write_all.result c.sent-state.ensures c.advance-step.ensures.stepped.holds)
