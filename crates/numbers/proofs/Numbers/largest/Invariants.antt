-- The numbers so far are small, and the largest of them is known.
use Rattle.integers.proofs.Prelude.{◌≡◌, take, drop}
use Rattle.model.specs.Alist as alist
use Rattle.numbers.specs.Walked.{Small}
use Rattle.numbers.proofs.Numbers.largest.Given as goal

abbrev pub invariant-loop : goal.invariant-loop
invariant-loop l =
    Small l.counter l.initial.self × (l.largest ≡ alist.largest (take l.counter l.initial.self)) × (l.self ≡ drop l.counter l.initial.self)
