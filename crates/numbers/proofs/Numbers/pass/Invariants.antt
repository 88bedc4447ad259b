-- So many numbers were passed.
use Rattle.integers.proofs.Prelude.{◌≡◌, drop}
use Rattle.numbers.proofs.Numbers.pass.Given as goal

abbrev pub invariant-loop : goal.invariant-loop
invariant-loop l = l.self ≡ drop l.counter l.initial.self
