-- `lane_triples::third` meets its contract. Assumes nothing.
use Rattle.lane_triples.proofs.third.Goals as goal

pub load-requires : goal.load-requires
load-requires c = (c.requires.0 c.if-none.false, c.requires.1)

pub returns-then-none : goal.returns-then-none
returns-then-none c = rw c.if-none.true

pub returns-else-none : goal.returns-else-none
returns-else-none c = rw c.if-none.false c.load.ensures
