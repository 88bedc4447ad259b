-- `group_run::put_all_costs` meets its contract: the frames so far have their costs. Assumes nothing.
use Rattle.integers.proofs.Prelude.{◌≡◌, sym, ◌∙◌, suc, ◌+◌, ◌-◌, ◌*◌, ◌≤◌, arith, length}
use Rattle.lists.specs.Tabulated.{part}
use Rattle.lists.proofs.Parts.{length_part, part_end}
use Rattle.group_step.proofs.Settled.{goes_by}
use Rattle.group_run.proofs.Costs.{put_none, put_next}
use Rattle.group_run.proofs.put_all_costs.Goals as goal
use Rattle.group_run.proofs.put_all_costs.Goals.{else-runs, then-runs}

pub put_costs-requires-clause-in_range : goal.put_costs-requires-clause-in_range
put_costs-requires-clause-in_range c =
    let bits = c.args.frames.now.walk.plan.bits in
    let size : (c.loop-f.f * bits + bits) - c.loop-f.f * bits ≡ bits = omega arith in
    rw size (c.requires.in_range c.loop-f.f c.loop-f-test.true (goes_by c.args.frames.now.stages c.loop-f.f ∙ sym c.runs.ensures ∙ c.if-runs.true))

pub loop-f-preserved : goal.loop-f-preserved
loop-f-preserved c =
    let x = c.args.frames.now in
    let p = x.walk.plan in
    let f = c.loop-f.f in
    let put = c.loop-f.invariant.1 in
    let size : (f * p.bits + p.bits) - f * p.bits ≡ p.bits = omega arith in
    let end : suc f * p.bits ≤ length c.args.costs.now = omega (arith, part_end p.bits x.count f c.loop-f-test.true, c.requires.fits.1) in
    let own = goes_by x.stages f ∙ sym c.runs.ensures in
    elim c.if-runs.branch [
      | then-runs w ↦ (
        omega arith,
        rw w.work-is
            (put_next p c.args.weight c.args.costs.now x.stages f put (omega (arith, x.room, c.loop-f-test.true)) (own ∙ w.if-runs.true) (length_part p.bits f c.args.costs.now end) _
            w.put_costs.ensures.fits (rw size at w.put_costs.ensures.costs_are_in) w.put_costs.ensures.before w.put_costs.ensures.other_lanes),
      )
      | else-runs w ↦ (omega arith, rw w.work-is (put_none p c.args.weight c.args.costs.now x.stages f put (own ∙ w.if-runs.false)))
    ]
