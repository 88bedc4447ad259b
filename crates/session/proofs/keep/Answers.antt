-- `session::keep` meets its contract: the next check, a refusal, or the settings. Assumes nothing.
use Rattle.integers.proofs.Prelude.{◌≡◌, sym, arith, rules, length, length-take-le}
use Rattle.session.proofs.Causes.{refusing}
use Rattle.session.proofs.Records.{next_check, code_refused, code_kept}
use Rattle.session.proofs.keep.Goals as goal
use Rattle.session.proofs.keep.Goals.{After-bytes-1}

long : (c : After-bytes-1) → length c.args.buffer.now ≡ 10260
long c = search rules

pub returns-then-left-gt0 : goal.returns-then-left-gt0
returns-then-left-gt0 c = next_check _ (long (goal.at.returns-then-left-gt0 c).After-bytes-1) _ _ _ c.requires.0 c.requires.1 c.if-left-gt0.true _

pub slice_bounds-judge_code-end : goal.slice_bounds-judge_code-end
slice_bounds-judge_code-end c = sym (length-take-le _ _ (omega (arith, c.requires.1)))

pub returns-in-Err : goal.returns-in-Err
returns-in-Err c =
    code_refused _ (long (goal.at.returns-in-Err c).After-bytes-1) _ _ _ c.requires.0 c.requires.1 c.if-left-gt0.false c.in-Err.ensures (refusing c.in-Err.cause) c.refuse.ensures

pub returns : goal.returns
returns c =
    code_kept _ (long (goal.at.returns c).After-bytes-1) _ _ _ c.requires.0 c.requires.1 c.if-left-gt0.false (sym c.in_default.ensures) _
