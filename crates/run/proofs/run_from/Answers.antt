-- `run::run_from` meets its contract. Assumes nothing.
use Rattle.integers.proofs.Prelude.{sym, arith}
use Rattle.integers.proofs.Linear.{about}
use Rattle.model.specs.Iteration.{at}
use Rattle.renewal.proofs.Renewal.{none_known}
use Rattle.run.proofs.run_from.Goals as goal

pub iterations-ending-requires : goal.iterations-ending-requires
iterations-ending-requires c =
    let p = c.requires in
    let known = none_known c.args.system.now.triples.now c.args.system.now.count c.without_blank-known.result p.lent.members c.without_blank-known.ensures in
    record { lent = p.lent; rows_within = p.rows_within; divisors = c.new-divisors.ensures; known = known; done_le_limit = p.done_le_limit }

pub straighten-requires : goal.straighten-requires
straighten-requires c =
    let rows = c.iterations-ending.ensures.rows_kept in (
      c.requires.lent.ready.triples,
      sym rows.1,
      λ j. let z = at c.iterations-ending.new.rows j in omega (arith, about z, rows.0.multipliers j, rows.0.slacks j, c.requires.done_le_limit.1),
    )

pub returns : goal.returns
returns c = λ k. rw c.straighten.ensures (c.iterations-ending.ensures.run_on k)

pub without_blank-known-requires : goal.without_blank-known-requires
without_blank-known-requires c = (c.requires.lent.ready.triples, c.requires.lent.members)
