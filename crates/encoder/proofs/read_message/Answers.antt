-- `encoder::read_message` meets its contract: the causes in their order, then the first odd check, then the message. Assumes nothing.
use Rattle.std.proofs.lemmas.Result.{err_from_is_err_and}
use Rattle.integers.proofs.Prelude.{refl, arith}
use Rattle.model.proofs.Told.{determined}
use Rattle.codeword.proofs.Verdicts.{odd_told, even_told}
use Rattle.encoder.proofs.Answers.{reading_unfit, reading_refused, reading_short, reading_told}
use Rattle.encoder.proofs.read_message.Goals as goal

pub returns-in_err-code : goal.returns-in_err-code
returns-in_err-code c =
    let p = err_from_is_err_and c.from_residual.result c.from_residual.ensures.1 in
    rw (p.1, p.2) (reading_unfit _ _ _ _ c.in_err-code.ensures.number (determined.refuses _).0)

pub returns-in_err-judge_word : goal.returns-in_err-judge_word
returns-in_err-judge_word c =
    let code = c.in_ok-code.ensures in
    let p = err_from_is_err_and c.from_residual-in_err-judge_word.result c.from_residual-in_err-judge_word.ensures.1 in
    rw (p.1, p.2) (reading_refused _ code.number _ code.code.0 _ _ _ c.bits.ensures.value _ c.in_err-judge_word.ensures (determined.refuses _).0)

pub returns-then-message-message_length : goal.returns-then-message-message_length
returns-then-message-message_length c =
    let code = c.in_ok-code.ensures in
    let reduction = c.new-reduction.ensures in
    reading_short _ code.number _ code.code.0 _ reduction.columns reduction.width _ _ _ c.bits.ensures.value c.in_ok-judge_word.ensures
    (omega (arith, c.message_length.ensures, c.if-message-message_length.true))

pub returns-in-Some : goal.returns-in-Some
returns-in-Some c =
    let code = c.in_ok-code.ensures in
    let reduction = c.new-reduction.ensures in
    reading_told _ code.number _ code.code.0 _ reduction.columns reduction.width _ _ _ c.bits.ensures.value c.in_ok-judge_word.ensures
    (omega (arith, c.message_length.ensures, c.if-message-message_length.false)) _ _ (odd_told _ _ _ c.in-Some.ensures) refl

pub returns : goal.returns
returns c =
    let code = c.in_ok-code.ensures in
    let reduction = c.new-reduction.ensures in
    reading_told _ code.number _ code.code.0 _ reduction.columns reduction.width _ _ _ c.bits.ensures.value c.in_ok-judge_word.ensures
    (omega (arith, c.message_length.ensures, c.if-message-message_length.false)) _ _ (even_told _ _ c.in_default.ensures) c.write_message.ensures
