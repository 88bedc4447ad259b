-- `exporter::export_size` meets its contract: the judgement, and the bytes of an accepted code's text. Assumes nothing.
use Rattle.std.proofs.lemmas.Result.{err_from_is_err_and}
use Rattle.integers.proofs.Prelude.{sym}
use Rattle.model.proofs.Told.{determined}
use Rattle.exporter.proofs.Answers.{size_refused, size_told}
use Rattle.exporter.proofs.export_size.Goals as goal

pub returns-in_err-code : goal.returns-in_err-code
returns-in_err-code c =
    let p = err_from_is_err_and c.from_residual.result c.from_residual.ensures.1 in
    rw (p.1, p.2) (size_refused _ _ (sym c.in_err-code.ensures.number) (determined.refuses _).0)

pub returns : goal.returns
returns c = size_told _ _ (sym c.in_ok-code.ensures.number) (rw c.in_ok-code.ensures.code at c.write_text.ensures.bytes)
