-- `group_run::run_frames` meets its contract: the frames so far have ended as they do by themselves. Assumes nothing.
use Rattle.integers.proofs.Prelude.{sym, ap, subst, ◌∙◌, true, cond, ◌*◌, eqb}
use Rattle.lists.specs.Tabulated.{part}
use Rattle.model.specs.Bounds.{Lent}
use Rattle.lane_renewal.specs.declared.Walk.{Walk}
use Rattle.group_step.specs.Frames.{ended_in}
use Rattle.group_step.proofs.Settled.{goes_by}
use Rattle.group_run.specs.Course.{end_from}
use Rattle.group_run.proofs.Givens.{lent}
use Rattle.group_run.proofs.Parts.{parts_of, kept_then, end_by}
use Rattle.group_run.proofs.Singles.{done_none, done_next, done_all}
use Rattle.group_run.proofs.run_frames.Goals as goal
use Rattle.group_run.proofs.run_frames.Goals.{else-runs, then-runs}

pub run_frame-requires-clause-lent : goal.run_frame-requires-clause-lent
run_frame-requires-clause-lent c =
    let y = c.loop-f.frames in
    let f = c.loop-f.f in
    let inv = c.loop-f.invariant in
    subst (λ (v : Walk). Lent c.args.settings v.triples.now v.counts.now (part v.plan.bits f c.args.costs.now) v.plan.triples
    (part v.plan.variables f y.sums.now) (part v.plan.variables f y.values.now) (part (4 * v.plan.triples) f y.rows.now)) (sym inv.kept.walk)
    (lent inv.done.given f c.loop-f-test.true (rw (inv.kept.walk, inv.kept.count) at y.held) (goes_by y.stages f ∙ sym c.runs.ensures ∙ c.if-runs.true))

pub loop-f-preserved : goal.loop-f-preserved
loop-f-preserved c =
    let x = c.args.frames.now in
    let y = c.loop-f.frames in
    let n = c.loop-f.f in
    let inv = c.loop-f.invariant in
    let a = c.args in
    let own = goes_by y.stages n ∙ sym c.runs.ensures in
    elim c.if-runs.branch [
      | then-runs w ↦
          let k = kept_then inv.kept w.run_frame.ensures.kept in
          rw w.frames-is (record {
            kept = k;
            done = done_next x.walk.plan a.settings x.walk.triples.now x.walk.counts.now a.costs.now x.count a.done c.loop-f-test.true (own ∙ w.if-runs.true) inv.done (parts_of w.run_frame.new.frames)
                (λ f code. sym (end_by k f) ∙ w.run_frame.ensures.ended f code
                ∙ ap (λ (v : Walk). cond (eqb f n) (end_from v.plan a.settings code v.triples.now (part v.plan.bits n a.costs.now) a.done true (ended_in v.plan y.stages y.sums.now y.values.now y.rows.now n))
                (ended_in v.plan y.stages y.sums.now y.values.now y.rows.now f)) inv.kept.walk)
                w.run_frame.ensures.stops;
          })
      | else-runs w ↦ rw w.frames-is (record {
        kept = inv.kept;
        done = done_none x.walk.plan a.settings x.walk.triples.now x.walk.counts.now a.costs.now x.count a.done c.loop-f-test.true (own ∙ w.if-runs.false) inv.done;
      })
    ]

pub returns-clause-ends : goal.returns-clause-ends
returns-clause-ends c f h code =
    let x = c.args.frames.now in
    let a = c.args in
    end_by c.loop-f.invariant.kept f
    ∙ done_all x.walk.plan a.settings x.walk.triples.now x.walk.counts.now a.costs.now x.count a.done c.loop-f-test.false c.loop-f.invariant.done f h code
