-- `group_step::Frames::settle` meets its contract. Assumes nothing.
use Rattle.integers.proofs.Prelude.{◌≡◌, refl, sym, ap, ◌∙◌, Bool, ℕ, arith, ◌<◌, length, length-set, set}
use Rattle.model.specs.Causes.{◌if◌}
use Rattle.lane_renewal.specs.Counting.{settled_in}
use Rattle.group_step.specs.declared.Stage.TheVariants as stage
use Rattle.group_step.proofs.Settled.{still, stopped, goes_by, runs_out}
use Rattle.group_step.proofs.Frames.settle.Goals as goal

pub invariant_of-self : goal.invariant_of-self
invariant_of-self c =
    let x = c.args.self.now in
    record { few = x.few; room = x.room; marked = record { long = length-set x.stages c.args.f _ ∙ x.marked.long; below = λ g r. x.marked.below g (still x.stages c.args.f _ (omega (arith, x.marked.long, x.few, c.requires.fits.2)) refl g r) }; held = x.held }

pub returns-then-settled-settings-clause-settled : goal.returns-then-settled-settings-clause-settled
returns-then-settled-settings-clause-settled c =
    let x = c.args.self.now in
    let y = c.take_out.new.self in
    let o = c.args.settings in
    let σ : ℕ → ℕ = λ g. settled_in o.tolerance c.args.totals.now g in
    let is : σ c.args.f ≡ (1 if c.settles-settled.result) = ap (λ (b : Bool). 1 if b) (sym (rw c.from-tolerance.ensures at c.settles-settled.ensures)) in
    let stored = c.take_out.ensures.stages ∙ ap (λ (n : ℕ). set x.stages c.args.f (stage.Ended (record { k = n; settled = c.settles-settled.result }))) (omega arith) in
    stopped x.walk.plan o c.args.i c.args.k c.args.work.now x.stages x.sums.now x.values.now x.rows.now c.args.f σ
    y.walk.plan y.stages y.sums.now y.values.now y.rows.now c.settles-settled.result
    (ap (λ w. w.plan) c.take_out.ensures.kept.walk) stored is inside c.take_out.ensures.parts
    (goes_by x.stages c.args.f ∙ sym c.runs.ensures ∙ c.if-runs.true) (rw is (runs_out _ c.args.k o.limit c.if-settled-settings.true))
  where
    inside : c.args.f < length c.args.self.now.stages
    inside = omega (arith, c.args.self.now.marked.long, c.args.self.now.few, c.requires.fits.2)
