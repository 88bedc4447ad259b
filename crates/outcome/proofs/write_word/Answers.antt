use Rattle.integers.proofs.Prelude.{◌≡◌, w16, take, sym, ap, ◌∙◌, arith, add-one, pos, length-take-le, get_or-take}
use Rattle.std.proofs.Common.{rules}
use Rattle.integers.proofs.Machine.{kept}
use Rattle.lists.proofs.Tabulated.{over_next}
use Rattle.model.specs.Iteration.{at}
use Rattle.model.specs.Words.{bit_of}
use Rattle.outcome.proofs.Outcomes.{word_written}
use Rattle.outcome.proofs.write_word.Goals as goal

pub loop-v-preserved : goal.loop-v-preserved
loop-v-preserved c =
    let v = c.loop-v.v in
    let values = c.args.values.now in
    let long = length-take-le c.bits.result values (omega (arith, c.bits.ensures.value, c.requires.room.0)) in
    let here : c.bit.result ≡ bit_of (at values v)
    = c.bit.ensures ∙ ap bit_of (kept w16 (at (take c.bits.result values) v) (search rules) ∙ get_or-take c.bits.result values v (pos 0) (omega (arith, c.loop-v-test.true, long))) in
    rw (c.loop-v.invariant, add-one v)
    (over_next v (λ u. bit_of (at values u)) c.args.word.now c.bit.result (omega (arith, c.loop-v-test.true, long, c.bits.ensures.value, c.requires.room.1)) (sym here))

pub returns : goal.returns
returns c =
    let long = length-take-le c.bits.result c.args.values.now (omega (arith, c.bits.ensures.value, c.requires.room.0)) in
    c.loop-v.invariant ∙ word_written _ _ _ c.args.word.now (omega (arith, c.loop-v-test.false, c.loop-v.auto.v-end, long, c.bits.ensures.value))
