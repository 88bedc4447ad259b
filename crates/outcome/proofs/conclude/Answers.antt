use Rattle.integers.proofs.Prelude.{refl}
use Rattle.outcome.proofs.Outcomes.{undecided_found, odd_found, codeword_found}
use Rattle.outcome.proofs.conclude.Goals as goal

pub returns-in-Some : goal.returns-in-Some
returns-in-Some c = let e = undecided_found _ _ _ c.in-Some.ensures in record { told = e; word = rw (← e) refl }

pub returns-in-Some-first_odd : goal.returns-in-Some-first_odd
returns-in-Some-first_odd c = let e = odd_found _ _ c.in_default.ensures _ c.in-Some-first_odd.ensures in record { told = e; word = rw (← e) refl }

pub returns : goal.returns
returns c = let e = codeword_found _ _ c.in_default.ensures c.in_default-first_odd.ensures in record { told = e; word = rw (← e) c.write_word.ensures }
