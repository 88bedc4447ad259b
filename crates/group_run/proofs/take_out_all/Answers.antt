-- `group_run::take_out_all` meets its contract: the frames so far are out. Assumes nothing.
use Rattle.integers.proofs.Prelude.{sym, ap, ◌∙◌, cond, List, eqb}
use Rattle.lanes.specs.Lanes.{lane_state}
use Rattle.lane_renewal.specs.declared.Walk.{Walk}
use Rattle.group_step.specs.declared.Stage.{Stage}
use Rattle.group_step.specs.Frames.{going, part_state}
use Rattle.group_step.proofs.Settled.{goes_by}
use Rattle.group_run.proofs.Parts.{kept_then, part_by}
use Rattle.group_run.proofs.Taken.{taken_none, taken_next}
use Rattle.group_run.proofs.take_out_all.Goals as goal
use Rattle.group_run.proofs.take_out_all.Goals.{else-runs, then-runs}

pub loop-f-preserved : goal.loop-f-preserved
loop-f-preserved c =
    let x = c.args.frames.now in
    let y = c.loop-f.frames in
    let f = c.loop-f.f in
    let inv = c.loop-f.invariant in
    let own = ap (λ (l : List Stage). going l f) (sym inv.stages) ∙ goes_by y.stages f ∙ sym c.runs.ensures in
    elim c.if-runs.branch [
      | then-runs w ↦
          let k = kept_then inv.kept w.take_out.ensures.kept in
          rw w.frames-is (record {
            kept = k;
            stages = w.take_out.ensures.stages ∙ inv.stages;
            taken = taken_next x.walk.plan c.args.i c.args.work.now x.stages x.sums.now x.values.now x.rows.now (own ∙ w.if-runs.true) inv.taken _ _ _
                (λ g. sym (part_by k g) ∙ w.take_out.ensures.parts g
                ∙ ap (λ (v : Walk). cond (eqb g f) (lane_state v.plan c.args.i c.args.work.now f) (part_state v.plan y.sums.now y.values.now y.rows.now g)) inv.kept.walk);
          })
      | else-runs w ↦ rw w.frames-is (record {
        kept = inv.kept;
        stages = inv.stages;
        taken = taken_none x.walk.plan c.args.i c.args.work.now x.stages x.sums.now x.values.now x.rows.now (own ∙ w.if-runs.false) inv.taken;
      })
    ]
