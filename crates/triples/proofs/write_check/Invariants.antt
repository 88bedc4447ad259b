-- The triples that are written so far.
use Rattle.integers.proofs.Prelude.{◌≡◌, ◌*◌}
use Rattle.lists.specs.Tabulated.{over}
use Rattle.triples.proofs.Items.{entry}
use Rattle.triples.proofs.write_check.Given as goal

abbrev pub invariant-loop-t : goal.invariant-loop-t
invariant-loop-t l = l.out ≡ over (3 * l.t) (entry l.check l.next) l.fn.out
