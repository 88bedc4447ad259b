use Rattle.integers.proofs.Prelude.{◌≡◌, refl, ◌∙◌, arith, add-one, length}
use Rattle.lists.proofs.Tabulated.{over_next, over_all}
use Rattle.model.specs.Words.{bit_at}
use Rattle.codeword.proofs.copy.Goals as goal

pub loop-v-preserved : goal.loop-v-preserved
loop-v-preserved c =
    let l = c.loop-v in
    rw (l.invariant, add-one l.v) (over_next l.v (bit_at c.args.word.now) _ _ (omega (arith, c.requires)) refl)

pub returns : goal.returns
returns c =
    let a = c.args in
    let e : c.loop-v.v ≡ length a.word.now = omega arith in
    c.loop-v.invariant ∙ rw e (over_all a.word.now a.point.now 0)
