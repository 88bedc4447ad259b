use Rattle.std.proofs.lemmas.Result.{err_from_is_err_and}
use Rattle.integers.proofs.Prelude.{◌≡◌, sym, ◌∙◌, ◌<◌, ℕ, arith}
use Rattle.model.specs.declared.Cause.{Cause}
use Rattle.model.specs.Causes.{number}
use Rattle.model.proofs.Told.{determined}
use Rattle.reader.proofs.Decided.{header_decides, bits_few, checks_few, checks_decide, judged, trailing_decides, triples_decide, uncovered_decides, sound, known}
use Rattle.reader.proofs.code.Code.read.Goals as goal
use Rattle.reader.proofs.code.Code.read.Goals.{In_ok-header, In_ok-triples, Else-not-is_empty, Else-triples-gt-MOST_TRIPLES}

-- what refuses is not 0
refusing : (c : Cause) (n : ℕ) → number c ≡ n → 0 < n
refusing c n e = omega (arith, e, (determined.refuses c).0)

pub returns-in_err-header-clause-number : goal.returns-in_err-header-clause-number
returns-in_err-header-clause-number c =
    let p = err_from_is_err_and c.from_residual.result c.from_residual.ensures.1 in
    let e = c.in_err-header.ensures.number in
    rw (p.1, p.2) (e ∙ sym (header_decides _ (refusing _ _ e)))

pub judge_checks-requires : goal.judge_checks-requires
judge_checks-requires c = checks_few _ _ _ _ (sym c.in_ok-header.ensures.number) c.in_ok-header.ensures.header

pub returns-in_err-triples-clause-number : goal.returns-in_err-triples-clause-number
returns-in_err-triples-clause-number c =
    let p = err_from_is_err_and c.from_residual-in_err-triples.result c.from_residual-in_err-triples.ensures.1 in
    let e = c.in_err-triples.ensures.number in
    rw (p.1, p.2) (e ∙ sym (checks_decide _ _ _ _ (sym c.in_ok-header.ensures.number) c.in_ok-header.ensures.header (refusing _ _ e)))

pub returns-then-not-is_empty-clause-number : goal.returns-then-not-is_empty-clause-number
returns-then-not-is_empty-clause-number c =
    trailing_decides _ _ _ _ (sym c.in_ok-header.ensures.number) c.in_ok-header.ensures.header (sym c.in_ok-triples.ensures.number) _ _ c.in_ok-triples.ensures.found
    (grind (arith, c.is_empty.ensures, c.if-not-is_empty.true))

pub returns-then-triples-gt-MOST_TRIPLES-clause-number : goal.returns-then-triples-gt-MOST_TRIPLES-clause-number
returns-then-triples-gt-MOST_TRIPLES-clause-number c =
    triples_decide _ _ _ _ (sym c.in_ok-header.ensures.number) c.in_ok-header.ensures.header (sym c.in_ok-triples.ensures.number) _ _ c.in_ok-triples.ensures.found
    (grind (arith, c.is_empty.ensures, c.if-not-is_empty.false)) c.if-triples-gt-MOST_TRIPLES.true

pub invariant_of-all : goal.invariant_of-all
invariant_of-all c =
    judged _ _ _ _ (sym c.in_ok-header.ensures.number) c.in_ok-header.ensures.header (sym c.in_ok-triples.ensures.number) _ _ c.in_ok-triples.ensures.found

pub covers-requires : goal.covers-requires
covers-requires c = bits_few _ _ _ _ (sym c.in_ok-header.ensures.number) c.in_ok-header.ensures.header

pub returns-then-not-covers-clause-number : goal.returns-then-not-covers-clause-number
returns-then-not-covers-clause-number c =
    uncovered_decides _ _ _ _ (sym c.in_ok-header.ensures.number) c.in_ok-header.ensures.header (sym c.in_ok-triples.ensures.number) _ _ c.in_ok-triples.ensures.found
    (grind (arith, c.is_empty.ensures, c.if-not-is_empty.false)) (omega (arith, c.if-triples-gt-MOST_TRIPLES.false)) (sym c.covers.ensures ∙ c.if-not-covers.true)

pub invariant_of-result : goal.invariant_of-result
invariant_of-result c =
    known _ _ _ _ (sym c.in_ok-header.ensures.number) c.in_ok-header.ensures.header (sym c.in_ok-triples.ensures.number) _ _ c.in_ok-triples.ensures.found
    (grind (arith, c.is_empty.ensures, c.if-not-is_empty.false)) (omega (arith, c.if-triples-gt-MOST_TRIPLES.false)) (sym c.covers.ensures ∙ c.if-not-covers.false)

pub returns-clause-number : goal.returns-clause-number
returns-clause-number c =
    sym (sound _ _ _ _ (sym c.in_ok-header.ensures.number) c.in_ok-header.ensures.header (sym c.in_ok-triples.ensures.number) _ _ c.in_ok-triples.ensures.found
    (grind (arith, c.is_empty.ensures, c.if-not-is_empty.false)) (omega (arith, c.if-triples-gt-MOST_TRIPLES.false)) (sym c.covers.ensures ∙ c.if-not-covers.false))
