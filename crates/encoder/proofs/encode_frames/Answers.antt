-- `encoder::encode_frames` meets its contract: the causes in their order, then the words. Assumes nothing.
use Rattle.std.proofs.lemmas.Result.{err_from_is_err_and}
use Rattle.model.proofs.Told.{determined}
use Rattle.encoder.proofs.Answers.{some_bits, frames_unfit, frames_refused, frames_long, frames_room, frames_told}
use Rattle.encoder.proofs.encode_frames.Goals as goal

pub returns-in_err-code : goal.returns-in_err-code
returns-in_err-code c =
    let p = err_from_is_err_and c.from_residual.result c.from_residual.ensures.1 in
    rw (p.1, p.2) (frames_unfit _ _ _ _ _ c.in_err-code.ensures.number (determined.refuses _).0)

pub judge-requires : goal.judge-requires
judge-requires c =
    let code = c.in_ok-code.ensures in
    some_bits _ code.number _ code.code.0 _ c.new-reduction.ensures.columns c.new-reduction.ensures.width

pub returns-in_err-judge : goal.returns-in_err-judge
returns-in_err-judge c =
    let code = c.in_ok-code.ensures in
    let p = err_from_is_err_and c.from_residual-in_err-judge.result c.from_residual-in_err-judge.ensures.1 in
    rw (p.1, p.2)
    (frames_refused _ code.number _ code.code.0 _ c.new-reduction.ensures.columns c.new-reduction.ensures.width _ _ _ _ c.in_err-judge.ensures (determined.refuses _).0)

pub write_words-requires : goal.write_words-requires
write_words-requires c =
    let code = c.in_ok-code.ensures in
    let reduction = c.new-reduction.ensures in
    record {
      messages = frames_long _ code.number _ code.code.0 _ reduction.columns reduction.width _ _ _ c.in_ok-judge.ensures;
      room = frames_room _ code.number _ code.code.0 _ reduction.columns reduction.width _ _ _ c.in_ok-judge.ensures;
    }

pub returns : goal.returns
returns c =
    let code = c.in_ok-code.ensures in
    let reduction = c.new-reduction.ensures in
    frames_told _ code.number _ code.code.0 _ reduction.columns reduction.width _ _ _ c.in_ok-judge.ensures _ c.write_words.ensures
