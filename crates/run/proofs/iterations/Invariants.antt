-- `run::iterations` meets its contract: what has been done and what remains is the whole. Assumes nothing.
use Rattle.integers.proofs.Prelude.{◌≡◌, ◌*◌, ◌≤◌, length}
use Rattle.run.specs.States.{state_in}
use Rattle.run.proofs.Remains.{Remains}
use Rattle.run.proofs.iterations.Given as goal

abbrev pub invariant-loop-k : goal.invariant-loop-k
invariant-loop-k l = (l.done ≤ l.k)
    × Remains (length l.initial.values) l.system.triples.now l.system.count l.system.settings l.system.costs.now l.done (state_in l.system.count l.initial.sums l.initial.values l.initial.rows) (state_in l.system.count l.sums l.values l.rows) l.k 0
    × (length l.rows ≡ 4 * l.system.count)
