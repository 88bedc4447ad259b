-- `group_step::Frames::running` meets its contract: the first f marks are those of the stages. Assumes nothing.
use Rattle.integers.proofs.Prelude.{sym, ap, ◌∙◌, arith, rules, length-set, take_all}
use Rattle.group_step.specs.Frames.{marks}
use Rattle.group_step.proofs.Settled.{marks_next}
use Rattle.group_step.proofs.Frames.running.Goals as goal

pub loop-f-preserved : goal.loop-f-preserved
loop-f-preserved c = (
  length-set c.loop-f.running c.loop-f.f _ ∙ c.loop-f.invariant.0,
  rw c.runs.ensures (marks_next c.loop-f.running c.args.self.now.stages c.loop-f.f (omega (arith, c.loop-f.invariant.0, c.loop-f-test.true)) (search rules) c.loop-f.invariant.1),
)

pub returns : goal.returns
returns c =
    let l = c.args.self.now.stages in
    sym (take_all c.loop-f.f c.loop-f.running (omega (arith, c.loop-f.invariant.0, c.loop-f-test.false))) ∙ c.loop-f.invariant.1 ∙ ap marks (take_all c.loop-f.f l (search rules))
