-- `triples::item` meets its contract: a bit of the check, the blank behind two, or an auxiliary. Assumes nothing.
use Rattle.integers.proofs.Prelude.{sym, ◌∙◌, arith}
use Rattle.triples.proofs.Items.{item_bit, item_blank, item_auxiliary}
use Rattle.triples.proofs.item.Goals as goal

pub returns-then-i-d : goal.returns-then-i-d
returns-then-i-d c =
    let a = c.args in
    c.bit.ensures.value ∙ sym (item_bit a.check.now a.next a.i (omega arith))

pub returns-then-d-lt3 : goal.returns-then-d-lt3
returns-then-d-lt3 c =
    let a = c.args in
    sym (item_blank a.check.now a.next a.i (omega arith) (omega arith) (omega arith))

pub returns-else-d-lt3 : goal.returns-else-d-lt3
returns-else-d-lt3 c =
    let a = c.args in
    omega (arith, item_auxiliary a.check.now a.next a.i (omega arith) (omega arith) (omega arith))
