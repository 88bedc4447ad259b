-- The causes in their order, and the sizes of a code that has none.
use Rattle.integers.proofs.Prelude.{◌≡◌, sym, ap, ◌∙◌, false, List, ℕ, ◌≤◌, arith, ltb, length, take}
use Rattle.std.proofs.lemmas.Result.{err_from_is_err_and}
use Rattle.lists.specs.Entries.{every}
use Rattle.model.specs.Limits.{most_bits, most_checks}
use Rattle.model.specs.Causes.{outside}
use Rattle.model.specs.Code.{Code}
use Rattle.model.specs.Records.{covered}
use Rattle.model.proofs.Causes.{within}
use Rattle.model.proofs.Agreement.{agreement}
use Rattle.model.proofs.AlistSizes.{records_total, places_most}
use Rattle.importer.specs.Rows.{named_in, code_of_rows}
use Rattle.importer.proofs.Rows.{length_named, length_checks}
use Rattle.importer.proofs.Covered.{covered_named}
use Rattle.importer.proofs.Judging.{bits_refused, count_refused, checks_refused, triples_refused, bare_refused, code_passes}
use Rattle.importer.proofs.judge.Goals as goal
use Rattle.importer.proofs.judge.Goals.{Start, Else-is_outside-2, After-all_named, then-is_outside-via-then-is_outside, then-is_outside-via-else-is_outside+then-is_outside-2}

module _ (s : Start) where
  abbrev code : Code
  code = code_of_rows s.args.columns.now.count s.args.rows.now

  count : length code.checks ≡ s.args.rows.now.count
  count = length_checks s.requires.sided.1

pub returns-then-is_outside : goal.returns-then-is_outside
returns-then-is_outside c =
    let s = (goal.at.returns-then-is_outside c).Start in
    let bits = ap (outside 3 most_bits) (sym c.from-bits.ensures) ∙ sym c.is_outside.ensures in
    elim c.then-is_outside.branch [
      | then-is_outside-via-then-is_outside w ↦ bits_refused (code s) (bits ∙ w.if-is_outside.true)
      | then-is_outside-via-else-is_outside+then-is_outside-2 w ↦ count_refused (code s) (bits ∙ w.if-is_outside.false)
          (ap (outside 1 most_checks) (count s ∙ sym w.from.ensures) ∙ sym w.is_outside-else-is_outside.ensures ∙ w.if-is_outside-2.true)
    ]

-- ---- the sizes are within their ranges
module _ (c : Else-is_outside-2) where
  abbrev start : Start
  start = (goal.at.Else-is_outside-2 c).Start

  bits_fine : outside 3 most_bits c.args.columns.now.count ≡ false
  bits_fine = ap (outside 3 most_bits) (sym c.from-bits.ensures) ∙ sym c.is_outside.ensures ∙ c.if-is_outside.false

  checks_fine : outside 1 most_checks (length (code start).checks) ≡ false
  checks_fine = ap (outside 1 most_checks) (count start ∙ sym c.from.ensures) ∙ sym c.is_outside-else-is_outside.ensures ∙ c.if-is_outside-2.false

  few_checks : length (code start).checks ≤ most_checks
  few_checks = omega (arith, within 1 most_checks (length (code start).checks) checks_fine)

pub judge_rows-requires : goal.judge_rows-requires
judge_rows-requires c = record { sided = c.requires.sided.1; few = omega (arith, few_checks c, count (start c)) }

pub returns-in_err-found : goal.returns-in_err-found
returns-in_err-found c =
    let e = (goal.at.returns-in_err-found c).Else-is_outside-2 in
    let p = err_from_is_err_and c.from_residual.result c.from_residual.ensures.1 in
    let told = (rw c.from-bits.ensures at c.in_err-found.ensures) in
    rw (p.1, p.2) (checks_refused (code (start e)) (bits_fine e) (checks_fine e) told)

pub returns-then-found-gt-MOST_TRIPLES : goal.returns-then-found-gt-MOST_TRIPLES
returns-then-found-gt-MOST_TRIPLES c =
    let e = (goal.at.returns-then-found-gt-MOST_TRIPLES c).Else-is_outside-2 in
    let told = (rw c.from-bits.ensures at c.in_ok-found.ensures) in
    triples_refused (code (start e)) (bits_fine e) (checks_fine e) told c.if-found-gt-MOST_TRIPLES.true

-- ---- the columns
covered_is : (c : After-all_named) → covered (code (goal.at.After-all_named c).Start) ≡ c.all_named.result
covered_is c =
    let cs = c.args.columns.now in
    let rs = c.args.rows.now in
    let same = (agreement (named_in cs) (named_in rs)).0 c.requires.same_places in
    ap (λ (n : ℕ). covered (code_of_rows n rs)) (sym (length_named c.requires.sided.0))
    ∙ covered_named (named_in cs) (named_in rs) c.requires.sided.0.indices c.requires.sided.1.indices same
    ∙ ap (every (ltb 0)) c.requires.sided.0.lengths ∙ ap (λ (l : List ℕ). every (ltb 0) (take cs.count l)) (sym c.new.ensures) ∙ sym c.all_named.ensures

pub returns-then-not-all_named : goal.returns-then-not-all_named
returns-then-not-all_named c =
    let e = (goal.at.returns-then-not-all_named c).Else-is_outside-2 in
    let told = (rw c.from-bits.ensures at c.in_ok-found.ensures) in
    bare_refused (code (start e)) (bits_fine e) (checks_fine e) told c.if-found-gt-MOST_TRIPLES.false
    (covered_is (goal.at.returns-then-not-all_named c).After-all_named ∙ c.if-not-all_named.true)

pub overflow_add-result : goal.overflow_add-result
overflow_add-result c =
    let e = (goal.at.overflow_add-result c).Else-is_outside-2 in
    let checks = (code (start e)).checks in
    let told = c.in_ok-found.ensures in
    omega (arith, told.sized, told.counted, c.if-found-gt-MOST_TRIPLES.false, records_total checks, places_most checks, few_checks e)

pub returns : goal.returns
returns c =
    let e = (goal.at.returns c).Else-is_outside-2 in
    let told = (rw c.from-bits.ensures at c.in_ok-found.ensures) in
    code_passes (code (start e)) (bits_fine e) (checks_fine e) told c.if-found-gt-MOST_TRIPLES.false
    (covered_is (goal.at.returns c).After-all_named ∙ c.if-not-all_named.false)
