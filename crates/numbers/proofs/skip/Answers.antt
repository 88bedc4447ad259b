-- Only separators were passed, so the numbers are the same.
use Rattle.integers.proofs.Prelude.{sym, ◌∙◌, add-one}
use Rattle.model.proofs.Spelling.{walk_apart}
use Rattle.numbers.proofs.skip.Goals as goal

pub loop-i-preserved : goal.loop-i-preserved
loop-i-preserved c =
    let l = c.loop-i in
    rw (add-one l.i) (sym (walk_apart 0 c.args.text.now l.i c.loop-i-test.true (sym c.separates.ensures ∙ c.if-not-separates.false)) ∙ l.invariant)
