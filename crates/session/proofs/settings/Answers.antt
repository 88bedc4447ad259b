-- `session::settings` meets its contract: a refusal, or settings that are kept. Assumes nothing.
use Rattle.integers.proofs.Prelude.{◌≡◌, sym, ◌∙◌, ◌+◌, ◌-◌, ℕ, List, arith, rules, length, take, drop}
use Rattle.program.specs.Frames.{judge_settings}
use Rattle.session.proofs.Causes.{refusing}
use Rattle.session.proofs.Records.{settings_refused, settings_kept}
use Rattle.session.proofs.settings.Goals as goal
use Rattle.session.proofs.settings.Goals.{After-bytes-1}

long : (c : After-bytes-1) → length c.args.buffer.now ≡ 10260
long c = search rules

judged : (n at came : ℕ) (buffer : List ℕ) → n ≡ judge_settings (take (at + came - at) (drop at buffer)) → n ≡ judge_settings (take came (drop at buffer))
judged n at came buffer e = let size : at + came - at ≡ came = omega arith in e ∙ rw size

pub returns-in-Err : goal.returns-in-Err
returns-in-Err c =
    settings_refused _ (long (goal.at.returns-in-Err c).After-bytes-1) _ _ c.requires.0 c.requires.1 (judged _ c.args.state.at c.args.came c.args.buffer.now c.in-Err.ensures) (refusing c.in-Err.cause) c.refuse.ensures

pub returns : goal.returns
returns c =
    settings_kept _ (long (goal.at.returns c).After-bytes-1) _ _ c.requires.0 c.requires.1 _ _ (sym (judged _ c.args.state.at c.args.came c.args.buffer.now c.in_default.ensures)) c.two_bytes-bits.ensures.0
