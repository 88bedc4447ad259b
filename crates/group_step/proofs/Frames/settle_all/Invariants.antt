-- `group_step::Frames::settle_all` meets its contract: the frames below f are settled. Assumes nothing.
use Rattle.integers.proofs.Prelude.{◌≤◌}
use Rattle.lane_renewal.specs.Counting.{settled_in}
use Rattle.group_step.specs.Lent.{frame_in, Kept}
use Rattle.group_step.proofs.Settled.{SettledTo}
use Rattle.group_step.proofs.Frames.settle_all.Given as goal

abbrev pub invariant-loop-f : goal.invariant-loop-f
invariant-loop-f l = record {
  below : l.f ≤ l.self.count;
  kept : Kept l.initial.self l.self;
  are : SettledTo l.settings (settled_in l.settings.tolerance l.totals) (frame_in l.i l.k l.work l.initial.self) (frame_in l.i l.k l.work l.self) l.f;
}
