use Rattle.std.proofs.lemmas.Result.{err_from_is_err_and}
use Rattle.integers.proofs.Prelude.{refl, arith}
use Rattle.model.proofs.Told.{determined}
use Rattle.codeword.proofs.Verdicts.{extend_unsound, extend_refused, extend_short, word_long, extends, odd_told, even_told}
use Rattle.codeword.proofs.extend.Goals as goal

pub returns-in_err-code : goal.returns-in_err-code
returns-in_err-code c =
    let p = err_from_is_err_and c.from_residual.result c.from_residual.ensures.1 in
    rw (p.1, p.2) (extend_unsound _ _ _ c.in_err-code.ensures.number (determined.refuses _).0 _)

pub returns-in_err-judge_word : goal.returns-in_err-judge_word
returns-in_err-judge_word c =
    let p = err_from_is_err_and c.from_residual-in_err-judge_word.result c.from_residual-in_err-judge_word.ensures.1 in
    rw (p.1, p.2)
    (extend_refused _ _ c.in_ok-code.ensures.number _ c.in_ok-code.ensures.code _ c.bits.ensures.value _ c.in_err-judge_word.ensures (determined.refuses _).0 _)

pub returns-then-point-variables : goal.returns-then-point-variables
returns-then-point-variables c =
    extend_short _ _ c.in_ok-code.ensures.number _ c.in_ok-code.ensures.code _ c.bits.ensures.value c.in_ok-judge_word.ensures _
    (omega (arith, c.variables.ensures.value, c.if-point-variables.true))

pub first_odd-requires : goal.first_odd-requires
first_odd-requires c =
    omega (arith, word_long _ _ c.in_ok-code.ensures.number _ c.in_ok-code.ensures.code _ c.bits.ensures.value c.in_ok-judge_word.ensures)

pub returns-in-Some : goal.returns-in-Some
returns-in-Some c =
    extends _ _ c.in_ok-code.ensures.number _ c.in_ok-code.ensures.code _ c.bits.ensures.value c.in_ok-judge_word.ensures _
    (omega (arith, c.variables.ensures.value, c.if-point-variables.false)) _ _ (odd_told _ _ _ c.in-Some.ensures) refl

pub write_point-requires : goal.write_point-requires
write_point-requires c = record {
  word = word_long _ _ c.in_ok-code.ensures.number _ c.in_ok-code.ensures.code _ c.bits.ensures.value c.in_ok-judge_word.ensures;
  room = omega (arith, c.variables.ensures.value, c.if-point-variables.false);
}

pub returns : goal.returns
returns c =
    extends _ _ c.in_ok-code.ensures.number _ c.in_ok-code.ensures.code _ c.bits.ensures.value c.in_ok-judge_word.ensures _
    (omega (arith, c.variables.ensures.value, c.if-point-variables.false)) _ _ (even_told _ _ c.in_default.ensures) c.write_point.ensures
