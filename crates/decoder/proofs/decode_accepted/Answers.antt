use Rattle.model.specs.Splitting.{system_of}
use Rattle.model.specs.Calls.{Lists, lists_of}
use Rattle.decoder.proofs.Accepted.{lent, answered}
use Rattle.decoder.proofs.decode_accepted.Goals as goal
use Rattle.decoder.proofs.decode_accepted.Goals.{Start}

abbrev lists : Start → Lists
lists c = let a = c.args in lists_of a.triples.now a.counts.now a.sums.now a.values.now a.rows.now a.word.now

pub write_system-requires : goal.write_system-requires
unfolding system_of
write_system-requires c = record { room = (c.requires.room.triples, c.requires.room.counts) }

pub run-ending-requires-clause-lent : goal.run-ending-requires-clause-lent
run-ending-requires-clause-lent c =
    lent _ c.triples-total.ensures.sound _ _ c.triples-total.ensures.value c.variables-variables.ensures.value (lists (goal.at.run-ending-requires-clause-lent c).Start) c.requires.room _ _
    c.write_system.ensures.triples_after c.write_system.ensures.counts_after _ _ c.requires.settings c.requires.costs.0 c.requires.costs.1

pub returns : goal.returns
returns c =
    answered _ c.triples-total.ensures.sound _ _ c.triples-total.ensures.value c.variables-variables.ensures.value (lists (goal.at.returns c).Start) c.requires.room _ _
    c.write_system.ensures.triples_after c.write_system.ensures.counts_after _ _ _ _ _ _ _ c.run-ending.ensures c.run-ending.auto.sums c.run-ending.auto.values
    c.run-ending.auto.rows _ _ c.conclude-conclusion.ensures.told c.conclude-conclusion.ensures.word
