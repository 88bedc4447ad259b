-- Each cause in its order, and the records of a code that has none.
use Rattle.integers.proofs.Prelude.{◌≡◌, sym, ◌∙◌, true, arith}
use Rattle.std.proofs.lemmas.Result.{err_from_is_err_and}
use Rattle.std.specs.Prelude.{Ok, Err}
use Rattle.model.specs.Causes.{number}
use Rattle.model.specs.Alist.{numbers_of, agree, named, columns, rows, code_of_text}
use Rattle.importer.specs.Judged.{JudgedCode}
use Rattle.importer.proofs.Judging.{some_number}
use Rattle.importer.proofs.Sides.{no_form_read, formed, columns_sided, rows_sided, sides_held, named_agree, lists_agree, code_is}
use Rattle.importer.proofs.Answers.{no_form, no_agreement, no_code, no_room, imported}
use Rattle.importer.proofs.import.Goals as goal
use Rattle.importer.proofs.import.Goals.{After-agree, Else-not-agree, In_ok-found}

pub returns-in_default : goal.returns-in_default
returns-in_default c = no_form _ _ (no_form_read c.args.text.now c.in_default.ensures)

pub agree-requires : goal.agree-requires
agree-requires c = sides_held c.args.text.now c.in-Some.form c.in-Some.ensures

-- ---- the agreement
agrees : (c : After-agree) → let l = numbers_of 0 c.args.text.now in agree (named (columns l)) (named (rows l)) ≡ c.agree.result
agrees c = sym (c.agree.ensures ∙ lists_agree c.args.text.now c.in-Some.form c.in-Some.ensures)

pub returns-then-not-agree : goal.returns-then-not-agree
returns-then-not-agree c =
    no_agreement _ _ (formed c.args.text.now c.in-Some.form c.in-Some.ensures) (agrees (goal.at.returns-then-not-agree c).After-agree ∙ c.if-not-agree.true)

agreed : (c : Else-not-agree) → let l = numbers_of 0 c.args.text.now in agree (named (columns l)) (named (rows l)) ≡ true
agreed c = agrees (goal.at.Else-not-agree c).After-agree ∙ c.if-not-agree.false

pub judge-requires : goal.judge-requires
judge-requires c =
    let s = c.args.text.now in
    let told = c.in-Some.ensures in record {
      sided = (columns_sided s c.in-Some.form told, rows_sided s c.in-Some.form told);
      same_places = named_agree s c.in-Some.form told ∙ agreed (goal.at.judge-requires c).Else-not-agree;
    }

-- ---- the code
pub returns-in_err-found : goal.returns-in_err-found
returns-in_err-found c =
    let s = c.args.text.now in
    let told = c.in-Some.ensures in
    let cause = c.in_err-found.field-0.0 in
    let p = err_from_is_err_and c.from_residual.result c.from_residual.ensures.1 in
    let judged : JudgedCode (code_of_text s) (Err cause) = rw (← code_is s c.in-Some.form told) c.in_err-found.ensures in
    rw (p.1, p.2) (no_code _ _ (formed s c.in-Some.form told) (agreed (goal.at.returns-in_err-found c).Else-not-agree) (number cause) judged.first (some_number cause))

module _ (c : In_ok-found) where
  judged : JudgedCode (code_of_text c.args.text.now) (Ok c.in_ok-found.found)
  judged = rw (← code_is c.args.text.now c.in-Some.form c.in-Some.ensures) c.in_ok-found.ensures

pub returns-then-code-found : goal.returns-then-code-found
returns-then-code-found c =
    let j = judged (goal.at.returns-then-code-found c).In_ok-found in
    no_room _ _ (formed c.args.text.now c.in-Some.form c.in-Some.ensures) (agreed (goal.at.returns-then-code-found c).Else-not-agree) (sym j.first) (omega (arith, j.sized, c.if-code-found.true))

pub write_records-requires : goal.write_records-requires
write_records-requires c =
    let told = c.in_ok-found.ensures in
    record {
      sided = rows_sided c.args.text.now c.in-Some.form c.in-Some.ensures;
      sound = rw c.from.ensures (sym told.first);
      room = omega (arith, told.sized, c.if-code-found.false);
    }

pub returns : goal.returns
returns c =
    let s = c.args.text.now in
    let told = c.in-Some.ensures in
    let j = judged (goal.at.returns c).In_ok-found in
    imported _ _ (formed s c.in-Some.form told) (agreed (goal.at.returns c).Else-not-agree) (sym j.first) _ _ (rw c.from.ensures (code_is s c.in-Some.form told)) j.sized c.if-code-found.false
    c.write_records.ensures
