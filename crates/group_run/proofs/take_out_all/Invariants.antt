-- `group_run::take_out_all` meets its contract: the frames so far are out. Assumes nothing.
use Rattle.integers.proofs.Prelude.{◌≡◌}
use Rattle.group_step.specs.Lent.{Kept}
use Rattle.group_run.proofs.Taken.{Taken}
use Rattle.group_run.proofs.take_out_all.Given as goal

abbrev pub invariant-loop-f : goal.invariant-loop-f
invariant-loop-f l = let x = l.initial.frames in record {
  kept : Kept x l.frames;
  stages : l.frames.stages ≡ x.stages;
  taken : Taken x.walk.plan l.i l.work x.stages x.sums.now x.values.now x.rows.now l.frames.sums.now l.frames.values.now l.frames.rows.now l.f;
}
