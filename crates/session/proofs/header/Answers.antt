-- `session::header` meets its contract: a refusal, or a header that is kept. Assumes nothing.
use Rattle.integers.proofs.Prelude.{◌≡◌, sym, arith, rules, length, length-take-le}
use Rattle.session.proofs.Causes.{refusing}
use Rattle.session.proofs.Records.{header_refused, header_kept}
use Rattle.session.proofs.header.Goals as goal
use Rattle.session.proofs.header.Goals.{After-bytes-1}

long : (c : After-bytes-1) → length c.args.buffer.now ≡ 10260
long c = search rules

pub slice_bounds-judge_header-end : goal.slice_bounds-judge_header-end
slice_bounds-judge_header-end c = let a = c.requires.0 in sym (length-take-le _ _ (omega (arith, a.most, a.kept.fits)))

pub returns-in-Err : goal.returns-in-Err
returns-in-Err c =
    header_refused _ (long (goal.at.returns-in-Err c).After-bytes-1) _ _ c.requires.0 c.requires.1 c.in-Err.ensures (refusing c.in-Err.cause) c.refuse.ensures

pub returns : goal.returns
returns c =
    header_kept _ (long (goal.at.returns c).After-bytes-1) _ _ c.requires.0 c.requires.1 _ _ (sym c.in_default.ensures) c.two_bytes-left.ensures.0
