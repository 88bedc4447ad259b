-- `encoder::message_length` meets its contract. Assumes nothing.
use Rattle.std.proofs.lemmas.Result.{err_from_is_err_and}
use Rattle.model.proofs.Told.{determined}
use Rattle.encoder.proofs.Answers.{length_unfit, length_told}
use Rattle.encoder.proofs.message_length.Goals as goal

pub returns-in_err-code : goal.returns-in_err-code
returns-in_err-code c =
    let p = err_from_is_err_and c.from_residual.result c.from_residual.ensures.1 in
    rw (p.1, p.2) (length_unfit _ _ c.in_err-code.ensures.number (determined.refuses _).0)

pub returns : goal.returns
returns c =
    let code = c.in_ok-code.ensures in
    length_told _ code.number _ code.code.0 _ c.new.ensures.columns c.new.ensures.width _ c.message_length.ensures
