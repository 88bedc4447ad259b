-- `group_run::put_all_costs` meets its contract: the frames so far have their costs. Assumes nothing.
use Rattle.integers.proofs.Prelude.{◌≤◌}
use Rattle.group_run.specs.Course.{Put}
use Rattle.group_run.proofs.put_all_costs.Given as goal

abbrev pub invariant-loop-f : goal.invariant-loop-f
invariant-loop-f l = (l.f ≤ l.frames.count) × Put l.frames.walk.plan l.weight l.costs l.frames.stages l.f l.initial.work l.work
