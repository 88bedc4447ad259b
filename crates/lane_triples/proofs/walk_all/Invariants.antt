-- `lane_triples::walk_all` meets its contract: the triples before i are done. Assumes nothing.
use Rattle.integers.proofs.Prelude.{◌-◌}
use Rattle.lane_triples.specs.Walk.{Walks}
use Rattle.lane_triples.proofs.Walks.{AtTriple}
use Rattle.lane_triples.proofs.walk_all.Given as goal

abbrev pub invariant-loop-i : goal.invariant-loop-i
invariant-loop-i g l = AtTriple l.p l.from l.to l.t l.end l.i l.initial.work l.work × Walks l.p l.triples l.counts l.values l.next l.from l.to l.t l.i l.initial.work l.work

abbrev pub decreases-loop-i : goal.decreases-loop-i
decreases-loop-i g l = l.end - l.i
