-- `stream::read_frame` meets its contract: the bytes, then the costs. Assumes nothing.
use Rattle.std.proofs.lemmas.Result.{err_from_is_err_and}
use Rattle.integers.proofs.Prelude.{◌≡◌, sym, ap, ◌∙◌, Bool, take}
use Rattle.lists.specs.Entries.{some}
use Rattle.model.specs.Causes.{◌if◌}
use Rattle.model.specs.Calls.{forbidden}
use Rattle.model.proofs.Told.{determined}
use Rattle.program.specs.Frames.{judge_frame}
use Rattle.program.proofs.Frames.{take_costs}
use Rattle.stream.proofs.Costs.{whole_refused, whole, frame_judged}
use Rattle.stream.proofs.read_frame.Goals as goal
use Rattle.stream.proofs.read_frame.Goals.{After-some_forbidden}

pub returns-in_err-judge_whole-clause-number : goal.returns-in_err-judge_whole-clause-number
returns-in_err-judge_whole-clause-number c =
    let p = err_from_is_err_and c.from_residual.result c.from_residual.ensures.1 in
    rw (p.1, p.2) (whole_refused c.args.bits c.args.s.now _ c.in_err-judge_whole.ensures (determined.refuses _).0)

pub write_costs-requires : goal.write_costs-requires
write_costs-requires c = (whole c.args.bits c.args.s.now (sym c.in_ok-judge_whole.ensures), c.requires.room)

-- a whole frame: what is found
judged : (c : After-some_forbidden) → judge_frame c.args.bits c.args.s.now ≡ 13 if c.some_forbidden.result
judged c =
    frame_judged c.args.bits c.args.s.now (sym c.in_ok-judge_whole.ensures)
    ∙ ap (λ (t : Bool). 13 if t) (sym (c.some_forbidden.ensures.value ∙ ap (some forbidden) (ap (take c.args.bits) c.write_costs.ensures ∙ take_costs c.args.bits c.args.s.now c.args.costs.now)))

pub returns-then-some_forbidden-clause-number : goal.returns-then-some_forbidden-clause-number
returns-then-some_forbidden-clause-number c = rw (judged (goal.at.returns-then-some_forbidden-clause-number c).After-some_forbidden, c.if-some_forbidden.true)

pub returns-clause-number : goal.returns-clause-number
returns-clause-number c = rw (judged (goal.at.returns-clause-number c).After-some_forbidden, c.if-some_forbidden.false)
