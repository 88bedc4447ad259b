-- Each return of no form shows a part that is not so.
use Rattle.integers.proofs.Prelude.{ap, ◌∙◌}
use Rattle.std.specs.Prelude.{option_map}
use Rattle.alist.specs.Form.{sides_of}
use Rattle.alist.proofs.Reading.{map_then, refused, columns_missing, columns_differ, rows_missing, rows_differ, column_lists_missing, row_lists_missing, read}
use Rattle.alist.proofs.read_form.Goals as goal

pub returns-in_err-sizes : goal.returns-in_err-sizes
returns-in_err-sizes c = ap (option_map sides_of) c.from_residual.ensures ∙ refused c.new-numbers.ensures (λ p. c.in_err-sizes.ensures.missing p.sizes)

pub returns-in_err-largest : goal.returns-in_err-largest
returns-in_err-largest c =
    ap (option_map sides_of) c.from_residual-in_err-largest.ensures ∙ refused c.new-numbers.ensures (columns_missing c.in_ok-sizes.ensures.found c.from.ensures c.in_err-largest.ensures.missing)

pub returns-then-branch-sizes : goal.returns-then-branch-sizes
returns-then-branch-sizes c =
    refused c.new-numbers.ensures (columns_differ c.in_ok-sizes.ensures.found c.from.ensures c.in_ok-largest.ensures.found c.if-branch-sizes.true)

pub returns-in_err-largest-2 : goal.returns-in_err-largest-2
returns-in_err-largest-2 c =
    ap (option_map sides_of) c.from_residual-in_err-largest-2.ensures
    ∙ refused c.new-numbers.ensures (rows_missing c.in_ok-sizes.ensures.found c.from.ensures c.in_ok-largest.ensures.found c.if-branch-sizes.false c.from-2.ensures c.in_err-largest-2.ensures.missing)

pub returns-then-branch-sizes-2 : goal.returns-then-branch-sizes-2
returns-then-branch-sizes-2 c =
    refused c.new-numbers.ensures
    (rows_differ c.in_ok-sizes.ensures.found c.from.ensures c.in_ok-largest.ensures.found c.if-branch-sizes.false c.from-2.ensures c.in_ok-largest-2.ensures.found
    c.if-branch-sizes-2.true)

pub returns-in_err-row_lists : goal.returns-in_err-row_lists
returns-in_err-row_lists c =
    ap (option_map sides_of) c.from_residual-in_err-row_lists.ensures
    ∙ refused c.new-numbers.ensures
    (column_lists_missing c.in_ok-sizes.ensures.found c.from.ensures c.in_ok-largest.ensures.found c.if-branch-sizes.false c.from-2.ensures
    c.in_ok-largest-2.ensures.found c.if-branch-sizes-2.false c.again-column_degrees.ensures c.again-row_degrees.ensures c.new-columns.ensures c.in_err-row_lists.ensures)

pub returns-in_err-rest : goal.returns-in_err-rest
returns-in_err-rest c =
    ap (option_map sides_of) c.from_residual-in_err-rest.ensures
    ∙ refused c.new-numbers.ensures
    (row_lists_missing c.in_ok-sizes.ensures.found c.from.ensures c.in_ok-largest.ensures.found c.if-branch-sizes.false c.from-2.ensures
    c.in_ok-largest-2.ensures.found c.if-branch-sizes-2.false c.again-column_degrees.ensures c.again-row_degrees.ensures c.new-columns.ensures c.in_ok-row_lists.ensures c.new-rows.ensures c.in_err-rest.ensures)

pub returns : goal.returns
returns c =
    rw c.then_some.ensures
    (map_then sides_of _ _ (read c.in_ok-sizes.ensures.found c.from.ensures c.in_ok-largest.ensures.found c.if-branch-sizes.false c.from-2.ensures
    c.in_ok-largest-2.ensures.found c.if-branch-sizes-2.false c.again-column_degrees.ensures c.again-row_degrees.ensures c.new-columns.ensures c.in_ok-row_lists.ensures c.new-rows.ensures c.in_ok-rest.ensures c.new-numbers.ensures _ c.is_empty.ensures))
