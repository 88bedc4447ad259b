-- The walk is in a number that is `value` so far.
use Rattle.integers.proofs.Prelude.{sym, ap, ◌∙◌, ◌∷◌, ◌-◌, length, drop, arith, add-one, length-drop, take_all}
use Rattle.model.specs.Alist.{numbers_of}
use Rattle.model.proofs.Spelling.{walk_more}
use Rattle.numbers.proofs.Walk.{walk_begin, walk_out, walk_out_end}
use Rattle.numbers.proofs.finish.Goals as goal

pub loop-i-init : goal.loop-i-init
loop-i-init c = (walk_begin _ 0, omega arith)

pub returns-then-separates : goal.returns-then-separates
returns-then-separates c =
    let l = c.loop-i in
    let s = c.args.text.now in
    let all = take_all (length s - l.i) (drop l.i s) (omega (arith, length-drop l.i s)) in
    record {
      list = λ h e. l.invariant.0 h e ∙ walk_out s l.i l.value c.loop-i-test.true (sym c.separates.ensures ∙ c.if-separates.true) ∙ ap (λ r. l.value ∷ numbers_of 0 r) (sym all);
      most = l.invariant.1;
    }

pub loop-i-preserved : goal.loop-i-preserved
loop-i-preserved c =
    let l = c.loop-i in (
      λ h k. l.invariant.0 h k ∙ walk_more l.value _ l.i c.loop-i-test.true (sym c.separates.ensures ∙ c.if-separates.false) ∙ rw (add-one l.i, c.with_byte-value.ensures.value),
      c.with_byte-value.ensures.bound,
    )

pub returns : goal.returns
returns c =
    let l = c.loop-i in
    record {
      list = λ h e. l.invariant.0 h e ∙ walk_out_end c.args.text.now l.i l.value (omega arith);
      most = l.invariant.1;
    }
