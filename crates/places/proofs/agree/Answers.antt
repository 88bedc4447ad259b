-- No index is too large, and columns and rows agree in all windows.
use Rattle.integers.proofs.Prelude.{sym, arith}
use Rattle.numbers.specs.Sides.{lists_in}
use Rattle.places.proofs.Whole.{columns_above, rows_above, all_tells}
use Rattle.places.proofs.agree.Goals as goal
use Rattle.places.proofs.agree.Goals.{then-rows-in_columns-via-then-rows-in_columns, then-rows-in_columns-via-else-rows-in_columns+then-columns-in_rows}

pub returns-then-rows-in_columns : goal.returns-then-rows-in_columns
returns-then-rows-in_columns c =
    let k = c.args.columns.now in
    let r = c.args.rows.now in
    sym (elim c.then-rows-in_columns.branch [
      | then-rows-in_columns-via-then-rows-in_columns w ↦ columns_above k.count k.most (lists_in k) r.count r.most (lists_in r) (omega arith)
      | then-rows-in_columns-via-else-rows-in_columns+then-columns-in_rows w ↦ rows_above k.count k.most (lists_in k) r.count r.most (lists_in r) (omega arith)
    ])

pub returns : goal.returns
returns c =
    let k = c.args.columns.now in
    let r = c.args.rows.now in
    all_tells k.count k.most (lists_in k) r.count r.most (lists_in r) c.windows_agree.result (omega arith) (omega arith) c.windows_agree.ensures
