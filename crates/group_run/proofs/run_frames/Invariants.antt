-- `group_run::run_frames` meets its contract: the frames so far have ended as they do by themselves. Assumes nothing.
use Rattle.group_step.specs.Lent.{Kept}
use Rattle.group_run.proofs.Parts.{parts_of}
use Rattle.group_run.proofs.Singles.{Done}
use Rattle.group_run.proofs.run_frames.Given as goal

abbrev pub invariant-loop-f : goal.invariant-loop-f
invariant-loop-f l = let x = l.initial.frames in record {
  kept : Kept x l.frames;
  done : Done x.walk.plan l.settings x.walk.triples.now x.walk.counts.now l.costs x.count l.done (parts_of x) (parts_of l.frames) l.f;
}
