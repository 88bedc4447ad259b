-- k numbers are in the list, and the next one is begun where inside is 1.
use Rattle.integers.proofs.Prelude.{refl, ◌∙◌, arith, ltb-true, length, length-set}
use Rattle.numbers.proofs.Filling.{read_byte, read_all, read_last}
use Rattle.numbers.proofs.fill.Goals as goal
use Rattle.numbers.proofs.fill.Goals.{else-digit-eq0, else-digit-inside, then-digit-eq0, then-digit-inside, then-loop-k-test+else-i-text, else-loop-k-test}

pub loop-k-init : goal.loop-k-init
loop-k-init c = record {
  long = refl;
  done = refl;
  rest = refl;
  small = omega arith;
  whole = omega arith;
  bit = omega arith;
  within = (omega arith, omega arith);
}

pub loop-k-preserved : goal.loop-k-preserved
loop-k-preserved c =
    let l = c.loop-k in
    read_byte _ _ (length c.args.values.now) l.values l.value l.inside l.k l.i l.invariant c.requires (omega (arith, l.invariant.long))
    (ltb-true l.i (length c.args.text.now) c.if-i-text.true-raw) c.from-b.result c.if-digit-inside.k c.if-digit-eq0.value c.from-b.ensures
    (λ h. elim c.if-digit-inside.branch [ then-digit-inside w ↦ w.k-is | else-digit-inside w ↦ absurd (omega (arith, w.if-digit-inside.false)) ])
    (λ h. elim c.if-digit-inside.branch [ then-digit-inside w ↦ absurd (omega (arith, w.if-digit-inside.true)) | else-digit-inside w ↦ w.k-is ])
    (λ h. elim c.if-digit-eq0.branch [ then-digit-eq0 w ↦ w.value-is | else-digit-eq0 w ↦ absurd (w.if-digit-eq0.false h) ])
    (λ h. elim c.if-digit-eq0.branch [ then-digit-eq0 w ↦ absurd (h w.if-digit-eq0.true) | else-digit-eq0 w ↦ w.value-is ])

pub returns-then-k-values-clause-filled : goal.returns-then-k-values-clause-filled
returns-then-k-values-clause-filled c =
    let l = c.loop-k in
    read_last _ _ (length c.args.values.now) l.values l.value l.inside l.k l.i l.invariant c.requires refl (omega (arith, l.invariant.long))
    (elim c.loop-k-test.branch [ then-loop-k-test+else-i-text w ↦ omega arith | else-loop-k-test w ↦ absurd (omega (arith, l.invariant.long)) ])

pub returns-then-k-values-clause-same_length : goal.returns-then-k-values-clause-same_length
returns-then-k-values-clause-same_length c =
    let l = c.loop-k in length-set l.values l.k l.value ∙ l.invariant.long

pub returns-else-k-values-clause-filled : goal.returns-else-k-values-clause-filled
returns-else-k-values-clause-filled c =
    let l = c.loop-k in
    read_all _ _ (length c.args.values.now) l.values l.value l.inside l.k l.i l.invariant c.requires refl (omega (arith, l.invariant.long))

pub returns-else-k-values-clause-same_length : goal.returns-else-k-values-clause-same_length
returns-else-k-values-clause-same_length c = c.loop-k.invariant.long
