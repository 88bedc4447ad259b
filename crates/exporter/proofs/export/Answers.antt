-- `exporter::export` meets its contract: the judgement, and the text of an accepted code where it fits. Assumes nothing.
use Rattle.std.proofs.lemmas.Result.{err_from_is_err_and}
use Rattle.integers.proofs.Prelude.{sym, arith}
use Rattle.model.proofs.Told.{determined}
use Rattle.exporter.proofs.Answers.{export_refused, export_short, export_done}
use Rattle.exporter.proofs.export.Goals as goal

pub returns-in_err-code : goal.returns-in_err-code
returns-in_err-code c =
    let p = err_from_is_err_and c.from_residual.result c.from_residual.ensures.1 in
    rw (p.1, p.2) (export_refused _ (λ i. omega (arith, c.type_inv.code i)) _ _ (sym c.in_err-code.ensures.number) (determined.refuses _).0)

pub returns-then-text-bytes : goal.returns-then-text-bytes
returns-then-text-bytes c =
    let fitted = rw c.in_ok-code.ensures.code at c.write_text-bytes.ensures in
    export_short _ (λ i. omega (arith, c.type_inv.code i)) _ (sym c.in_ok-code.ensures.number) _ _ fitted (omega (arith, c.if-text-bytes.true))

pub returns : goal.returns
returns c =
    let fitted = rw c.in_ok-code.ensures.code at c.write_text-bytes.ensures in
    export_done _ (λ i. omega (arith, c.type_inv.code i)) _ (sym c.in_ok-code.ensures.number) _ _ fitted (omega (arith, c.if-text-bytes.false))
