use Rattle.integers.proofs.Prelude.{◌≡◌, sym, ap, ◌∙◌, ◌*◌, arith, length, take}
use Rattle.lists.proofs.Tabulated.{take_written}
use Rattle.model.specs.Splitting.{system_of}
use Rattle.model.proofs.TripleRule.{members_long}
use Rattle.triples.proofs.write_system.Goals as goal
use Rattle.triples.proofs.write_system.Goals.{After-triples}

-- the triples that were written
long : (c : After-triples) → length (system_of c.args.code.now).members ≡ 3 * c.triples.result
long c = omega (arith, members_long c.args.code.now c.triples.ensures.sound, c.triples.ensures.value)

lent : (c : After-triples) → take (3 * c.triples.result) c.write_triples.new.triples ≡ (system_of c.args.code.now).members
lent c = ap (take (3 * c.triples.result)) c.write_triples.ensures ∙ take_written (system_of c.args.code.now).members c.args.triples.now _ (long c)

pub slice_bounds-write_counts-end : goal.slice_bounds-write_counts-end
unfolding system_of
slice_bounds-write_counts-end c = omega (arith, c.requires.room.0, c.write_triples.auto.triples, c.triples.ensures.value)

pub slice_bounds-write_counts-end-2 : goal.slice_bounds-write_counts-end-2
slice_bounds-write_counts-end-2 c = let a = (goal.at.slice_bounds-write_counts-end-2 c).After-triples in sym (ap length (lent a) ∙ long a)

pub write_counts-requires-clause-members : goal.write_counts-requires-clause-members
write_counts-requires-clause-members c = lent (goal.at.write_counts-requires-clause-members c).After-triples
