use Rattle.std.proofs.lemmas.Iterator.{YieldsList-from_slice}
use Rattle.std.proofs.lemmas.Iterator.Search.{position_from_yields_List}
use Rattle.std.proofs.Common.{rules, tests}
use Rattle.integers.proofs.Prelude.{take}
use Rattle.outcome.proofs.Outcomes.{undecided, finds_undecided}
use Rattle.outcome.proofs.first_undecided.Goals as goal

pub returns : goal.returns
returns c =
    finds_undecided _ _ c.requires _
    (position_from_yields_List undecided _ _ c.position.result c.position.ensures.ran
    (YieldsList-from_slice (take c.args.code.now.bits c.args.values.now) (rw c.bits.ensures.value at c.iter.ensures.rest)) (λ x b q k. search (rules, tests)))
