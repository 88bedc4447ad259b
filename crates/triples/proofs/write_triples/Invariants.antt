-- The triples of the checks so far, and the checks that are left.
use Rattle.triples.proofs.Writing.{Written}
use Rattle.triples.proofs.write_triples.Given as goal

abbrev pub invariant-loop-check : goal.invariant-loop-check
invariant-loop-check l = Written l.code l.fn.triples l.check-iterator l.next l.done l.triples
