-- `lane_triples::walk` meets its contract: the lanes before l have the triple done, those from l on have not. Assumes nothing.
use Rattle.integers.proofs.Prelude.{ℕ, ◌-◌}
use Rattle.lane_triples.specs.Walk.{Course}
use Rattle.lane_triples.proofs.Walks.{InTurn, AtFour}
use Rattle.lane_triples.proofs.walk.Given as goal

abbrev pub invariant-loop-l : goal.invariant-loop-l
invariant-loop-l g l = AtFour l.p l.from l.to l.l l.initial.work l.work × ((i : ℕ) → Course l.p l.triples l.counts i l.values l.next → InTurn l.p l.triples l.counts i l.from l.to l.t l.l l.initial.work l.work)

abbrev pub decreases-loop-l : goal.decreases-loop-l
decreases-loop-l g l = l.to - l.l
