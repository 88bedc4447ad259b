use Rattle.std.proofs.lemmas.Result.{err_from_is_err_and}
use Rattle.integers.proofs.Prelude.{arith}
use Rattle.model.proofs.Told.{determined}
use Rattle.codeword.proofs.Verdicts.{test_unsound, test_refused, word_long, tells, odd_told, even_told}
use Rattle.codeword.proofs.test.Goals as goal

pub returns-in_err-code : goal.returns-in_err-code
returns-in_err-code c =
    let p = err_from_is_err_and c.from_residual.result c.from_residual.ensures.1 in
    rw (p.1, p.2) (test_unsound _ _ _ c.in_err-code.ensures.number (determined.refuses _).0)

pub returns-in_err-judge_word : goal.returns-in_err-judge_word
returns-in_err-judge_word c =
    let p = err_from_is_err_and c.from_residual-in_err-judge_word.result c.from_residual-in_err-judge_word.ensures.1 in
    rw (p.1, p.2)
    (test_refused _ _ c.in_ok-code.ensures.number _ c.in_ok-code.ensures.code _ c.bits.ensures.value _ c.in_err-judge_word.ensures (determined.refuses _).0)

pub first_odd-requires : goal.first_odd-requires
first_odd-requires c =
    omega (arith, word_long _ _ c.in_ok-code.ensures.number _ c.in_ok-code.ensures.code _ c.bits.ensures.value c.in_ok-judge_word.ensures)

pub returns-in-Some : goal.returns-in-Some
returns-in-Some c =
    tells _ _ c.in_ok-code.ensures.number _ c.in_ok-code.ensures.code _ c.bits.ensures.value c.in_ok-judge_word.ensures _ (odd_told _ _ _ c.in-Some.ensures)

pub returns-in-None : goal.returns-in-None
returns-in-None c =
    tells _ _ c.in_ok-code.ensures.number _ c.in_ok-code.ensures.code _ c.bits.ensures.value c.in_ok-judge_word.ensures _ (even_told _ _ c.in-None.ensures)
