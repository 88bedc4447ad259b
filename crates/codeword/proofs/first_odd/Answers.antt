use Rattle.std.proofs.lemmas.Iterator.Consumers.{YieldsList-from_first}
use Rattle.std.proofs.lemmas.Iterator.Search.{position_from_yields_List}
use Rattle.std.proofs.lemmas.Iterator.Adapters.{serves_from_places}
use Rattle.std.proofs.Common.{rules, tests}
use Rattle.model.specs.Words.{odd}
use Rattle.codeword.proofs.Finding.{finds_odd, named}
use Rattle.codeword.proofs.first_odd.Goals as goal

pub position-requires-clause-callable : goal.position-requires-clause-callable
position-requires-clause-callable c =
    serves_from_places (YieldsList-from_first (λ x. x) (λ checks. checks) c.args.code.now.checks c.checks.ensures.value) (λ x q k. search rules)
    (λ x j h e _ _ _ _ _ _ _ _. named _ c.checks.ensures.sound _ c.requires x j h e)

pub returns : goal.returns
returns c =
    finds_odd _ _ _
    (position_from_yields_List (odd c.args.word.now) _ _ c.position.result c.position.ensures.ran
    (YieldsList-from_first (λ x. x) (λ checks. checks) c.args.code.now.checks c.checks.ensures.value) (λ x b q k. search (rules, tests)))
