-- `count_others` meets its contract: the others among the columns so far. Assumes nothing.
use Rattle.integers.proofs.Prelude.{◌≡◌, ap, ◌∙◌, not, ◌+◌, arith, add-one, take_all}
use Rattle.model.specs.Causes.{◌if◌}
use Rattle.model.specs.Encoding.{others}
use Rattle.model.proofs.Reduction.{small_if}
use Rattle.reduction.specs.Table.{has_pivot, columns_in}
use Rattle.reduction.proofs.Table.{length_columns, others_next}
use Rattle.reduction.proofs.count_others.Goals as goal
use Rattle.reduction.proofs.count_others.Goals.{else-not-is_pivot, then-not-is_pivot}

pub loop-column-preserved : goal.loop-column-preserved
loop-column-preserved c =
    let j = c.loop-column.column in
    let rows = c.args.rows.now in
    let next = others_next c.args.bits rows j c.loop-column-test.true in
    let one : c.if-not-is_pivot.count ≡ c.loop-column.count + 1 if not (has_pivot rows j)
    = elim c.if-not-is_pivot.branch [ then-not-is_pivot w ↦ w.count-is ∙ rw (← c.is_pivot.ensures, w.if-not-is_pivot.true) | else-not-is_pivot w ↦ w.count-is ∙ rw (← c.is_pivot.ensures, w.if-not-is_pivot.false) (omega arith) ] in
    (omega (arith, one, small_if (not (has_pivot rows j)), c.loop-column.invariant.0), rw (add-one j) (omega (arith, one, next, c.loop-column.invariant.1)))

pub returns : goal.returns
returns c =
    let cs = columns_in c.args.bits c.args.rows.now in
    c.loop-column.invariant.1
    ∙ ap others (take_all c.loop-column.column cs (omega (arith, length_columns c.args.bits c.args.rows.now, c.loop-column-test.false)))
