-- What is left of the list decides.
use Rattle.integers.proofs.Prelude.{◌≡◌, refl, ◌∙◌, ◌-◌, arith, add-one, not-false, not-true, ltb}
use mathlib.Core.Bool.{beq}
use Rattle.numbers.proofs.Walk.{next_at, none_at}
use Rattle.alist.proofs.Filled.{list_none, list_not, list_more, list_end}
use Rattle.alist.proofs.walk_list.Goals as goal

pub loop-i-init : goal.loop-i-init
loop-i-init c =
    let a = c.args in
    let d : a.degree - 0 ≡ a.degree = omega arith in
    let m : a.most - 0 ≡ a.most = omega arith in
    (rw (d, m), refl)

pub returns-in_err-value : goal.returns-in_err-value
returns-in_err-value c =
    let a = c.args in
    let v = c.loop-i.invariant in
    c.from_residual.ensures
    ∙ rw (v.0, list_none a.degree a.most c.loop-i.i a.numbers c.loop-i-test.true (none_at a.numbers c.loop-i.i v.1 c.in_err-value.ensures.missing))

pub returns-then-i-degree : goal.returns-then-i-degree
returns-then-i-degree c =
    let a = c.args in
    let v = c.loop-i.invariant in
    let x = next_at a.numbers c.loop-i.i v.1 c.in_ok-value.ensures.found in
    rw (v.0, list_not a.degree a.most c.loop-i.i a.numbers c.loop-i-test.true x.0 (not-true (beq (ltb c.loop-i.i a.degree) (ltb 0 c.in_ok-value.value)) c.if-i-degree.true))

pub loop-i-preserved : goal.loop-i-preserved
loop-i-preserved c =
    let a = c.args in
    let v = c.loop-i.invariant in
    let i = c.loop-i.i in
    let x = next_at a.numbers i v.1 c.in_ok-value.ensures.found in (
      v.0 ∙ list_more a.degree a.most i a.numbers c.loop-i-test.true x.0 (omega arith) (not-false (beq (ltb i a.degree) (ltb 0 c.in_ok-value.value)) c.if-i-degree.false),
      rw (add-one i) x.1,
    )

pub returns : goal.returns
returns c =
    let l = c.loop-i in
    let a = c.args in
    let e : l.i ≡ a.most = omega arith in
    rw (c.then_some.ensures, l.invariant.0, l.invariant.1, e, list_end a.degree a.most _)
