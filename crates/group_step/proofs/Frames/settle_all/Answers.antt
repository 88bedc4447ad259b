-- `group_step::Frames::settle_all` meets its contract: the frames below f are settled. Assumes nothing.
use Rattle.integers.proofs.Prelude.{refl, ◌∙◌, arith, lt-ltb}
use Rattle.lane_renewal.specs.Counting.{settled_in}
use Rattle.group_step.specs.Lent.{frame_in}
use Rattle.group_step.proofs.Settled.{settled_none, settled_next}
use Rattle.group_step.proofs.Frames.settle_all.Goals as goal

pub loop-f-init : goal.loop-f-init
loop-f-init c = record {
  below = omega arith;
  kept = record { walk = refl; count = refl; sums = refl; values = refl; rows = refl };
  are = settled_none c.args.settings (settled_in c.args.settings.tolerance c.args.totals.now) (frame_in c.args.i c.args.k c.args.work.now c.args.self.now);
}

pub loop-f-preserved : goal.loop-f-preserved
loop-f-preserved c =
    let k = c.settle.ensures.kept in
    let x = c.loop-f.invariant in
    let frame = frame_in c.args.i c.args.k c.args.work.now in
    record {
      below = omega (arith, c.loop-f-test.true, k.count, x.kept.count);
      kept = record { walk = k.walk ∙ x.kept.walk; count = k.count ∙ x.kept.count; sums = k.sums ∙ x.kept.sums; values = k.values ∙ x.kept.values; rows = k.rows ∙ x.kept.rows };
      are = settled_next c.args.settings (settled_in c.args.settings.tolerance c.args.totals.now) (frame c.args.self.now) (frame c.loop-f.self) (frame c.settle.new.self) c.loop-f.f x.are
          c.settle.ensures.settled;
    }

pub returns-clause-settled : goal.returns-clause-settled
returns-clause-settled c g h = c.loop-f.invariant.are g ∙ rw (lt-ltb g c.loop-f.f (omega (arith, c.loop-f-test.false))) refl
