-- k numbers are in the list, and the next one is begun where inside is 1.
use Rattle.integers.proofs.Prelude.{◌-◌, length}
use Rattle.model.specs.Alist.{numbers_of}
use Rattle.numbers.proofs.Filling.{Reading}
use Rattle.numbers.proofs.fill.Given as goal

abbrev pub invariant-loop-k : goal.invariant-loop-k
invariant-loop-k l = Reading l.text (numbers_of 0 l.text) (length l.initial.values) l.values l.value l.inside l.k l.i

abbrev pub decreases-loop-k : goal.decreases-loop-k
decreases-loop-k l = length l.text - l.i
