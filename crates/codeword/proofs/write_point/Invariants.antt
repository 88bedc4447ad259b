-- The point as far as the checks that are done make it, and the checks that are left.
use Rattle.codeword.proofs.Extending.{Extended}
use Rattle.codeword.proofs.write_point.Given as goal

abbrev pub invariant-loop-check : goal.invariant-loop-check
invariant-loop-check l = Extended l.code l.word l.fn.point l.check-iterator l.next l.point
