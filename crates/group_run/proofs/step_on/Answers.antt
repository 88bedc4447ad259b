-- `group_run::step_on` meets its contract: what has been done and what remains is the whole. Assumes nothing.
use Rattle.integers.proofs.Prelude.{◌≡◌, refl, sym, ap, subst, ◌∙◌, true, cond, List, T, ℕ, suc, ◌-◌, ◌≤◌, ◌<◌, arith, ne_eqb}
use Rattle.model.specs.Limits.{most_iterations}
use Rattle.lanes.specs.Lanes.{Fits, Raised, lane_state, lane_weighed}
use Rattle.lane_values.specs.Valued.{Counted}
use Rattle.lane_renewal.specs.declared.Walk.{Walk}
use Rattle.lane_step.specs.Step.{runs, system_for, Weighed, Summed, Small}
use Rattle.model.specs.Group.{onward}
use Rattle.group_step.specs.declared.Stage.{Stage}
use Rattle.group_step.specs.Frames.{marks, going, part_state, ended_in, frame_now}
use Rattle.group_step.specs.Lent.{frame_in}
use Rattle.group_run.specs.Course.{enough_run, end_from}
use Rattle.group_run.proofs.Parts.{parts_of, kept_same, kept_then, frame_by, part_by, end_by}
use Rattle.group_run.proofs.Running.{one_runs}
use Rattle.group_run.proofs.Steps.{stepped_next, rows_done, taken_out}
use Rattle.group_run.proofs.step_on.Goals as goal
use Rattle.group_run.proofs.step_on.Goals.{After-take_out_all}

pub loop-settings-init : goal.loop-settings-init
loop-settings-init c = record {
  kept = kept_same c.args.frames.now;
  stepped = record { two = omega arith; few = omega arith; first = λ e. refl; lanes = c.requires.in_lanes; ran = λ f h. h; kept = λ l v h. refl; rest = λ f h c costs w. refl };
}

pub step-requires-clause-one_runs : goal.step-requires-clause-one_runs
step-requires-clause-one_runs c =
    one_runs (marks c.loop-settings.frames.stages) (ap enough_run (sym c.running.ensures) ∙ sym c.enough_run.ensures ∙ c.loop-settings-test.true)

pub step-requires-clause-fits : goal.step-requires-clause-fits
step-requires-clause-fits c =
    let inv = c.loop-settings.invariant in
    let one = one_runs (marks c.loop-settings.frames.stages) (ap enough_run (sym c.running.ensures) ∙ sym c.enough_run.ensures ∙ c.loop-settings-test.true) in
    subst (λ (v : Walk). Fits v.plan c.loop-settings.work × (c.loop-settings.i ≤ 1) × (c.loop-settings.k < most_iterations) × Counted v.plan v.counts.now) (sym inv.kept.walk)
    (inv.stepped.lanes.fits, inv.stepped.two, omega (arith, inv.stepped.lanes.more one.0 one.1, c.requires.settings.0), c.requires.settings.1)

pub step-requires-clause-small : goal.step-requires-clause-small
step-requires-clause-small c =
    let inv = c.loop-settings.invariant in
    subst (λ (v : Walk). (l : ℕ) → l < v.plan.lanes → Small v.plan v.counts.now c.loop-settings.k c.loop-settings.work l) (sym inv.kept.walk) inv.stepped.lanes.small

pub loop-settings-smaller : goal.loop-settings-smaller
loop-settings-smaller c =
    let one = one_runs (marks c.loop-settings.frames.stages) (ap enough_run (sym c.running.ensures) ∙ sym c.enough_run.ensures ∙ c.loop-settings-test.true) in
    omega (arith, c.loop-settings.invariant.stepped.lanes.more one.0 one.1)

pub loop-settings-preserved : goal.loop-settings-preserved
loop-settings-preserved c =
    let a = c.args in
    let x₀ = a.frames.now in
    let x = c.loop-settings.frames in
    let y = c.step.new.self in
    let i = c.loop-settings.i in
    let w = c.loop-settings.work in
    let w' = c.step.new.work in
    let inv = c.loop-settings.invariant in
    let on = c.step.ensures in
    let one = one_runs (marks x.stages) (ap enough_run (sym c.running.ensures) ∙ sym c.enough_run.ensures ∙ c.loop-settings-test.true) in
    let k = kept_then inv.kept on.kept in
    record {
      kept = k;
      stepped = stepped_next x₀.walk.plan a.settings x₀.walk.triples.now x₀.walk.counts.now x₀.count w' (parts_of y) x₀.room (inv.stepped.lanes.more one.0 one.1) inv.stepped
          (subst (λ (v : Walk). Fits v.plan w') inv.kept.walk on.fits) (λ f r. omega (arith, y.marked.below f r, k.count))
          (λ f h code costs weighed. sym (frame_by k i (suc c.loop-settings.k) w' f)
          ∙ subst (λ (v : Walk). (going x.stages f ≡ true → Weighed v.plan a.settings.weight costs w f)
          → frame_in i (suc c.loop-settings.k) w' y f ≡ onward (system_for code v.plan v.triples.now) a.settings costs (frame_now v.plan (1 - i) c.loop-settings.k w x.stages x.sums.now x.values.now x.rows.now f))
          inv.kept.walk (on.goes_on f (omega (arith, h, inv.kept.count)) code costs) weighed)
          (subst (λ (v : Walk). (l : ℕ) → l < v.plan.lanes → Small v.plan v.counts.now (suc c.loop-settings.k) w' l) inv.kept.walk on.small)
          (subst (λ (v : Walk). (l u : ℕ) → l < v.plan.lanes → lane_weighed v.plan w' l u ≡ lane_weighed v.plan w l u) inv.kept.walk on.weighed)
          (subst (λ (v : Walk). (f : ℕ) → going y.stages f ≡ true → (going x.stages f ≡ true) × Summed v.plan v.triples.now (1 - i) w' f) inv.kept.walk on.ran_before);
    }

-- ---- behind the steps
pub take_out_all-requires-clause-raised : goal.take_out_all-requires-clause-raised
take_out_all-requires-clause-raised c =
    let inv = c.loop-settings.invariant in
    subst (λ (v : Walk). (l : ℕ) → l < v.plan.lanes → Raised v.plan c.loop-settings.work l) (sym inv.kept.walk) (λ l h. (inv.stepped.lanes.small l h).values)

-- at first enough frames ran, so there was a step; and then the frames that still run are out of their lanes
module _ (c : After-take_out_all) where
  some : c.loop-settings.k ≡ 0 → ⊥
  some z =
      let first : c.loop-settings.frames.stages ≡ c.args.frames.now.stages = c.loop-settings.invariant.stepped.first z in
      subst T (sym c.requires.enough ∙ ap (λ (l : List Stage). enough_run (marks l)) (sym first) ∙ ap enough_run (sym c.running.ensures) ∙ sym c.enough_run.ensures ∙ c.loop-settings-test.false) tt

  out : let x = c.loop-settings.frames in
      let y = c.take_out_all.new.frames in
      let p = c.args.frames.now.walk.plan in
      (f : ℕ) → f < c.args.frames.now.count → part_state p y.sums.now y.values.now y.rows.now f
      ≡ cond (going x.stages f) (lane_state p (1 - c.loop-settings.i) c.loop-settings.work f) (part_state p x.sums.now x.values.now x.rows.now f)
  out f h =
      let x = c.loop-settings.frames in
      let inv = c.loop-settings.invariant in
      sym (part_by (kept_then inv.kept c.take_out_all.ensures.kept) f) ∙ c.take_out_all.ensures.parts f (omega (arith, h, inv.kept.count))
      ∙ ap (λ (v : Walk). cond (going x.stages f) (lane_state v.plan (1 - c.loop-settings.i) c.loop-settings.work f) (part_state v.plan x.sums.now x.values.now x.rows.now f)) inv.kept.walk

pub returns-clause-ran_before : goal.returns-clause-ran_before
returns-clause-ran_before c f r =
    let d = (goal.at.returns-clause-ran_before c).After-take_out_all in
    let a = c.args in
    let x₀ = a.frames.now in
    let y = c.take_out_all.new.frames in
    let inv = c.loop-settings.invariant in
    let on : going c.loop-settings.frames.stages f ≡ true = ap (λ (l : List Stage). going l f) (sym c.take_out_all.ensures.stages) ∙ r in
    let less : f < x₀.count = omega (arith, c.loop-settings.frames.marked.below f on, inv.kept.count) in (
      inv.stepped.ran f on,
      rows_done x₀.walk.plan a.settings x₀.walk.triples.now x₀.walk.counts.now x₀.count inv.stepped (ne_eqb c.loop-settings.k 0 (some d)) y.sums.now y.values.now y.rows.now (out d) f less (omega (arith, less, x₀.room)) on,
    )

pub returns-clause-ends : goal.returns-clause-ends
returns-clause-ends c f h code costs own =
    let d = (goal.at.returns-clause-ends c).After-take_out_all in
    let a = c.args in
    let x₀ = a.frames.now in
    let y = c.take_out_all.new.frames in
    let inv = c.loop-settings.invariant in
    let k = kept_then inv.kept c.take_out_all.ensures.kept in
    ap (end_from x₀.walk.plan a.settings code x₀.walk.triples.now costs c.loop-settings.k (going y.stages f)) (end_by k f)
    ∙ ap (λ (l : List Stage). end_from x₀.walk.plan a.settings code x₀.walk.triples.now costs c.loop-settings.k (going l f) (ended_in x₀.walk.plan l y.sums.now y.values.now y.rows.now f)) c.take_out_all.ensures.stages
    ∙ taken_out x₀.walk.plan a.settings x₀.walk.triples.now x₀.walk.counts.now x₀.count inv.stepped (ne_eqb c.loop-settings.k 0 (some d)) y.sums.now y.values.now y.rows.now (out d) f h code costs own
