-- `check_row` meets its contract: the bits so far have their 1. Assumes nothing.
use Rattle.integers.proofs.Prelude.{refl, sym, ◌∙◌, ℕ, arith, take_all}
use lib.ListN.{get_or-replicate}
use Rattle.model.specs.Limits.{most_encoded_bits}
use Rattle.model.proofs.Sound.{rising_below}
use Rattle.reduction.proofs.Table.{row_taken}
use Rattle.reduction.proofs.check_row.Goals as goal

pub loop-i-init : goal.loop-i-init
loop-i-init c = (refl, λ b h. get_or-replicate {A = ℕ} most_encoded_bits b 0 0 h)

pub bounds-row-bit : goal.bounds-row-bit
bounds-row-bit c =
    omega (arith, rising_below most_encoded_bits 0 c.args.check.now c.requires c.loop-i.i (omega (arith, c.degree-i-end.ensures.value, c.loop-i-test.true)), c.bit.ensures.value)

pub returns : goal.returns
returns c =
    let k = c.args.check.now in
    let r = c.loop-i.row in
    let all = take_all c.loop-i.i k (omega (arith, c.degree-i-end.ensures.value)) in
    sym (take_all most_encoded_bits r (omega (arith, c.loop-i.invariant.0)))
    ∙ row_taken most_encoded_bits k r (omega (arith, c.loop-i.invariant.0)) (λ b h. rw all at (c.loop-i.invariant.1 b h))
