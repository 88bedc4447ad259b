-- `lane_triples::walk_all` meets its contract: the triples before i are done. Assumes nothing.
use Rattle.integers.proofs.Prelude.{◌≡◌, subst, ℕ, arith}
use Rattle.lane_triples.specs.Walk.{InWalk}
use Rattle.lane_triples.proofs.Walks.{next_triple}
use Rattle.lane_triples.proofs.walk_all.Goals as goal

pub walk-requires-clause-begun : goal.walk-requires-clause-begun
walk-requires-clause-begun g c =
    let b = c.requires.begun in
    (b.0, b.1, b.2, c.loop-i.invariant.1 b.0 b.1 b.2 b.3)

pub loop-i-preserved : goal.loop-i-preserved
loop-i-preserved g c = (
  next_triple c.loop-i.invariant.0 c.loop-i-test.true c.walk.auto.work c.walk.ensures.same_beside,
  λ i w k begin. c.walk.ensures.walks i w k (c.loop-i.invariant.1 i w k begin),
)

pub returns-clause-walks : goal.returns-clause-walks
returns-clause-walks g c i w k begin =
    let a = c.args in
    let e : c.loop-i.i ≡ a.end = omega (arith, c.loop-i.invariant.0.last, c.loop-i-test.false) in
    subst (λ (u : ℕ). InWalk a.p a.triples.now a.counts.now i w a.from a.to u c.loop-i.work) e (c.loop-i.invariant.1 i w k begin)
