-- Where nothing is left behind the separators, no number is left.
use Rattle.integers.proofs.Prelude.{◌≡◌, sym, ap, ◌∙◌, [], arith, eqb-true, drop}
use Rattle.numbers.proofs.Walk.{none_left}
use Rattle.numbers.proofs.Numbers.number.Goals as goal
use Rattle.numbers.proofs.Numbers.number.Goals.{Then-is_empty}

no_number : (c : Then-is_empty) → c.args.self.now ≡ []
no_number c = sym c.self.view_is ∙ none_left c.skip-text.ensures (eqb-true _ 0 (sym c.if-is_empty.ensures))

pub returns-then-is_empty-clause-missing : goal.returns-then-is_empty-clause-missing
returns-then-is_empty-clause-missing c = rw (no_number (goal.at.returns-then-is_empty-clause-missing c).Then-is_empty) (omega arith)

pub returns-then-is_empty-clause-rest : goal.returns-then-is_empty-clause-rest
returns-then-is_empty-clause-rest c =
    let none = no_number (goal.at.returns-then-is_empty-clause-rest c).Then-is_empty in
    c.skip-text.ensures.rest ∙ c.self.view_is ∙ none ∙ sym (ap (drop 1) none)
