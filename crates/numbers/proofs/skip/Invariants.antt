-- Only separators were passed, so the numbers are the same.
use Rattle.integers.proofs.Prelude.{◌≡◌}
use Rattle.model.specs.Alist.{numbers_of}
use Rattle.numbers.proofs.Walk.{from}
use Rattle.numbers.proofs.skip.Given as goal

abbrev pub invariant-loop-i : goal.invariant-loop-i
invariant-loop-i l = from l.text l.i ≡ numbers_of 0 l.text
