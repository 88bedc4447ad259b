use Rattle.integers.proofs.Prelude.{◌-◌, refl, sym, arith}
use Rattle.model.proofs.Accepted.{length_checks}
use Rattle.reader.proofs.Checked.{whole, first_judged, others_judged, checks_more, checks_none}
use Rattle.reader.proofs.check.ChecksIterator.next.Goals as goal

pub returns-then-self-eq0-clause-steps : goal.returns-then-self-eq0-clause-steps
returns-then-self-eq0-clause-steps c =
    let none = checks_none _ c.self.inside.records.now c.if-self-eq0.true in
    rw (sym c.self.view_is, none) (refl, refl)

pub after_check-self-inside-requires : goal.after_check-self-inside-requires
after_check-self-inside-requires c = whole _ (first_judged _ _ c.self.invariant (omega (arith, c.if-self-eq0.false)))

pub invariant_of-result : goal.invariant_of-result
invariant_of-result c = first_judged _ _ c.self.invariant (omega (arith, c.if-self-eq0.false))

pub invariant_of-self : goal.invariant_of-self
invariant_of-self c = rw c.after_check-self-inside.ensures (others_judged _ _ c.self.invariant (omega (arith, c.if-self-eq0.false)))

pub returns-clause-steps : goal.returns-clause-steps
returns-clause-steps c = rw (sym c.self.view_is, c.after_check-self-inside.ensures) (checks_more _ _ (omega (arith, c.if-self-eq0.false)))

pub returns-clause-goes : goal.returns-clause-goes
returns-clause-goes c =
    let before = length_checks c.self.inside.left c.self.inside.records.now in
    let after = length_checks (c.self.inside.left - 1) c.after_check-self-inside.result.now in
    record {
      on = λ _. (tt, tt, rw (sym c.self.view_is) (omega (arith, before, after, c.if-self-eq0.false)));
      keeps = tt;
      rests = λ _. tt;
    }
