-- `group_run::run_in_lanes` meets its contract: the lanes begin at the start of each run, and the steps go on with it. Assumes nothing.
use Rattle.integers.proofs.Prelude.{◌∙◌, true, ◌≡◌, ℕ, ◌≤◌}
use Rattle.lists.specs.Tabulated.{part}
use Rattle.model.specs.Bounds.{Ready}
use Rattle.group_step.specs.Frames.{marks, going}
use Rattle.group_run.proofs.Running.{one_runs}
use Rattle.group_run.proofs.Givens.{counted}
use Rattle.group_run.proofs.Begun.{in_lanes, from_start}
use Rattle.group_run.proofs.run_in_lanes.Goals as goal
use Rattle.group_run.proofs.run_in_lanes.Goals.{Start}

-- a frame that runs
module _ (s : Start) where
  one : (f : ℕ) × (going s.args.frames.now.stages f ≡ true)
  one = one_runs (marks s.args.frames.now.stages) s.requires.enough

  ready : let x = s.args.frames.now in Ready x.walk.plan.variables x.walk.triples.now x.walk.plan.triples s.args.settings (part x.walk.plan.bits one.0 s.args.costs.now)
  ready = s.requires.given.ready one.0 (s.args.frames.now.marked.below one.0 one.1) one.1

pub new-divisors-requires : goal.new-divisors-requires
new-divisors-requires c = (ready (goal.at.new-divisors-requires c).Start).ratio

pub step_on-requires-clause-settings : goal.step_on-requires-clause-settings
step_on-requires-clause-settings c =
    let s = (goal.at.step_on-requires-clause-settings c).Start in
    (c.requires.given.limit.1, counted c.requires.given (one s).0 (c.args.frames.now.marked.below (one s).0 (one s).1) (one s).1)

pub step_on-requires-clause-in_lanes : goal.step_on-requires-clause-in_lanes
step_on-requires-clause-in_lanes c =
    let b = c.begin.ensures in
    in_lanes c.requires.given c.args.frames.now.marked.below b.values_are_unit b.before_zero b.behind_zero c.put_all_costs.ensures

pub returns-clause-ends : goal.returns-clause-ends
returns-clause-ends c f h k =
    let x = c.args.frames.now in
    let b = c.begin.ensures in
    c.step_on.ensures.ends f h k (part x.walk.plan.bits f c.args.costs.now) (c.put_all_costs.ensures.weighed f h)
    ∙ from_start c.requires.given x.marked.below b.values_are_unit b.before_zero b.behind_zero c.put_all_costs.ensures k x.sums.now x.values.now x.rows.now f
