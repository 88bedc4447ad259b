-- `group_run::step_on` meets its contract: what has been done and what remains is the whole. Assumes nothing.
use Rattle.integers.proofs.Prelude.{◌-◌}
use Rattle.group_step.specs.Lent.{Kept}
use Rattle.group_run.proofs.Parts.{parts_of}
use Rattle.group_run.proofs.Steps.{Stepped}
use Rattle.group_run.proofs.step_on.Given as goal

abbrev pub invariant-loop-settings : goal.invariant-loop-settings
invariant-loop-settings l = let x = l.initial.frames in record {
  kept : Kept x l.frames;
  stepped : Stepped x.walk.plan l.settings x.walk.triples.now x.walk.counts.now x.count l.initial.work (parts_of x) l.work (parts_of l.frames) l.i l.k;
}

abbrev pub decreases-loop-settings : goal.decreases-loop-settings
decreases-loop-settings l = l.settings.limit - l.k
