-- The first v entries are those of the word.
use Rattle.integers.proofs.Prelude.{◌≡◌}
use Rattle.lists.specs.Tabulated.{over}
use Rattle.model.specs.Words.{bit_at}
use Rattle.codeword.proofs.copy.Given as goal

abbrev pub invariant-loop-v : goal.invariant-loop-v
invariant-loop-v l = l.point ≡ over l.v (bit_at l.word) l.initial.point
