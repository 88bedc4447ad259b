-- `group_step::Frames::step` meets its contract: every running frame goes one iteration on, then those that stop are taken out. Assumes nothing.
use Rattle.integers.proofs.Prelude.{◌∙◌, arith, add-one}
use Rattle.model.specs.Limits.{most_done}
use Rattle.lane_renewal.specs.Counting.{settled_in}
use Rattle.lane_step.specs.Step.{system_for}
use Rattle.lane_step.proofs.Step.{small_more}
use Rattle.group_step.proofs.Settled.{steps_on}
use Rattle.group_step.proofs.Frames.step.Goals as goal

pub advance-totals-requires-clause-small : goal.advance-totals-requires-clause-small
advance-totals-requires-clause-small c l h =
    let x = c.args.self.now in
    small_more x.walk.plan x.walk.counts.now c.args.k most_done c.args.work.now l (omega (arith, c.requires.fits.2)) (c.requires.small l h)

pub settle_all-requires-clause-raised : goal.settle_all-requires-clause-raised
settle_all-requires-clause-raised c l h = (c.advance-totals.ensures.small l c.args.k h (c.requires.small l h)).values

pub returns-clause-goes_on : goal.returns-clause-goes_on
returns-clause-goes_on c f h k costs weighed =
    let x = c.args.self.now in
    rw (add-one c.args.k) at (c.settle_all.ensures.settled f h)
    ∙ steps_on (system_for k x.walk.plan x.walk.triples.now) c.args.settings costs x.walk.plan c.args.i c.args.k c.args.work.now c.advance-totals.new.work x.stages x.sums.now x.values.now x.rows.now f
    (settled_in c.args.settings.tolerance c.advance-totals.result f)
    (λ r. c.advance-totals.ensures.iterated f (rw c.running-running.ensures r) k costs (weighed r) (c.requires.summed f r))

pub returns-clause-small : goal.returns-clause-small
returns-clause-small c l h = c.advance-totals.ensures.small l c.args.k h (c.requires.small l h)
