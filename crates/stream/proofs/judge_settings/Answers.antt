-- `stream::judge_settings` meets its contract: setting by setting. Assumes nothing.
use Rattle.std.proofs.lemmas.Result.{err_from_is_err_and}
use Rattle.integers.proofs.Prelude.{◌≡◌, ◌≤◌, arith, length}
use Rattle.model.specs.Records.{two_bytes}
use Rattle.model.proofs.Told.{determined}
use Rattle.stream.proofs.Judged.{weight_decides, ratio_decides, limit_decides, cut, whole}
use Rattle.stream.proofs.judge_settings.Goals as goal
use Rattle.stream.proofs.judge_settings.Goals.{After-judge_setting}

long : (c : After-judge_setting) → 2 ≤ length c.args.s.now
long c = omega (arith, c.in_ok-mark.ensures)

mark : (c : After-judge_setting) → two_bytes c.args.s.now ≡ 0x4C53
mark c = omega (arith, c.in_ok-mark.ensures, c.in_ok-mark.mark-is, c.if-mark-ne-SETTINGS_MARK.false)

pub returns-in_err-judge_setting : goal.returns-in_err-judge_setting
returns-in_err-judge_setting c =
    let j = (goal.at.returns-in_err-judge_setting c).After-judge_setting in
    let p = err_from_is_err_and c.from_residual-in_err-judge_setting.result c.from_residual-in_err-judge_setting.ensures.1 in
    rw (p.1, p.2) (weight_decides _ (long j) (mark j) c.in_err-judge_setting.ensures (determined.refuses _).0)

pub returns-in_err-judge_setting-2 : goal.returns-in_err-judge_setting-2
returns-in_err-judge_setting-2 c =
    let j = (goal.at.returns-in_err-judge_setting-2 c).After-judge_setting in
    let p = err_from_is_err_and c.from_residual-in_err-judge_setting-2.result c.from_residual-in_err-judge_setting-2.ensures.1 in
    rw (p.1, p.2) (ratio_decides _ (long j) (mark j) c.in_ok-judge_setting.ensures c.in_err-judge_setting-2.ensures (determined.refuses _).0)

pub returns-in_err-judge_setting-3 : goal.returns-in_err-judge_setting-3
returns-in_err-judge_setting-3 c =
    let j = (goal.at.returns-in_err-judge_setting-3 c).After-judge_setting in
    let p = err_from_is_err_and c.from_residual-in_err-judge_setting-3.result c.from_residual-in_err-judge_setting-3.ensures.1 in
    rw (p.1, p.2) (limit_decides _ (long j) (mark j) c.in_ok-judge_setting.ensures c.in_ok-judge_setting-2.ensures c.in_err-judge_setting-3.ensures (determined.refuses _).0)

pub returns-then-s-lt12 : goal.returns-then-s-lt12
returns-then-s-lt12 c =
    let j = (goal.at.returns-then-s-lt12 c).After-judge_setting in
    cut _ (long j) (mark j) c.in_ok-judge_setting.ensures c.in_ok-judge_setting-2.ensures c.in_ok-judge_setting-3.ensures c.if-s-lt12.true

pub returns : goal.returns
returns c =
    let j = (goal.at.returns c).After-judge_setting in
    whole _ (long j) (mark j) c.in_ok-judge_setting.ensures c.in_ok-judge_setting-2.ensures c.in_ok-judge_setting-3.ensures (omega (arith, c.if-s-lt12.false))
