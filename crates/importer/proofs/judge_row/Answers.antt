-- A row that is too long, or one that is judged as its record.
use Rattle.integers.proofs.Prelude.{sym, ◌∙◌, arith}
use Rattle.std.proofs.lemmas.Result.{err_from_is_err_and}
use Rattle.model.specs.declared.Cause.TheVariants.{Degree}
use Rattle.importer.specs.Rows.{bits_at}
use Rattle.importer.proofs.Indices.{length_bits}
use Rattle.importer.proofs.Judging.{refuses, check_long, record_cause, record_judged}
use Rattle.importer.proofs.judge_row.Goals as goal

pub returns-then-degree-gt-MOST_DEGREE : goal.returns-then-degree-gt-MOST_DEGREE
returns-then-degree-gt-MOST_DEGREE c =
    refuses Degree (check_long c.args.bits (bits_at c.args.row.now c.args.degree) (omega (arith, length_bits c.requires, c.if-degree-gt-MOST_DEGREE.true)))

pub returns-in_err-judge_check : goal.returns-in_err-judge_check
returns-in_err-judge_check c =
    let p = err_from_is_err_and c.from_residual.result c.from_residual.ensures.1 in
    rw (p.1, p.2)
    (refuses c.in_err-judge_check.field-0.0
    (sym (c.in_err-judge_check.ensures ∙ record_cause c.args.bits (bits_at c.args.row.now c.args.degree) c.write_record-bytes.ensures)))

pub returns : goal.returns
returns c =
    record_judged c.args.bits (bits_at c.args.row.now c.args.degree) c.write_record-bytes.ensures c.in_ok-judge_check.ensures c.triple_count.ensures.0
