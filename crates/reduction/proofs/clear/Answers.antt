-- `reduction::clear` meets its contract: the columns before j, and what the row makes of the others, are the whole. Assumes nothing.
use Rattle.integers.proofs.Prelude.{◌≡◌, sym, ap, ◌∙◌, ◌≤◌, arith, not-true, length}
use lib.Seq.{slice}
use Rattle.reduction.proofs.Clearing.{cleared_zero, cleared_pivot, cleared_other, cleared_end}
use Rattle.reduction.proofs.clear.Goals as goal
use Rattle.reduction.proofs.clear.Goals.{At-loop-j, then-row-j-ne0+else-not-is_pivot, else-row-j-ne0}

pub returns-then-not-is_pivot : goal.returns-then-not-is_pivot
returns-then-not-is_pivot c =
    let a = c.args in
    let free = rw c.loop-j.invariant.0 at (sym c.is_pivot.ensures ∙ not-true _ c.if-not-is_pivot.true-raw) in
    rw c.loop-j.invariant.0
    (cleared_other a.bits a.rows.now c.loop-j.row c.loop-j.j c.loop-j-test.true (omega (arith, c.loop-j.invariant.2)) c.if-row-j-ne0.true free (omega arith) ∙ c.loop-j.invariant.3)

pub loop-j-preserved : goal.loop-j-preserved
loop-j-preserved c =
    let a = c.args in
    let n = a.bits in
    let j = c.loop-j.j in
    let r = c.loop-j.row in
    let long : n ≤ length r = omega (arith, c.loop-j.invariant.2) in
    elim c.if-row-j-ne0.branch [
      | then-row-j-ne0+else-not-is_pivot w ↦ let p = rw c.loop-j.invariant.0 at (sym w.is_pivot.ensures ∙ w.if-not-is_pivot.false) in
          let sum = rw c.loop-j.invariant.0 at w.add.ensures in (
            c.loop-j.invariant.0,
            omega arith,
            ap length w.row-is ∙ omega arith,
            rw w.row-is (cleared_pivot n a.rows.now r j c.loop-j-test.true long w.if-row-j-ne0.true p _ sum ∙ c.loop-j.invariant.3),
          )
      | else-row-j-ne0 w ↦ (
        c.loop-j.invariant.0,
        omega arith,
        ap length w.row-is ∙ c.loop-j.invariant.2,
        rw w.row-is (cleared_zero n a.rows.now r j c.loop-j-test.true long w.if-row-j-ne0.false ∙ c.loop-j.invariant.3),
      )
    ]

pub returns : goal.returns
returns c =
    let a = c.args in
    let e : c.loop-j.j ≡ a.bits = omega arith in
    let end = cleared_end a.bits a.rows.now (slice a.bits a.bits c.loop-j.row) in
    rw c.loop-j.invariant.0 (sym end ∙ rw e at c.loop-j.invariant.3)
