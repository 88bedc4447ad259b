-- The bits of the values so far.
use Rattle.integers.proofs.Prelude.{◌≡◌}
use Rattle.lists.specs.Tabulated.{over}
use Rattle.model.specs.Iteration.{at}
use Rattle.model.specs.Words.{bit_of}
use Rattle.outcome.proofs.write_word.Given as goal

abbrev pub invariant-loop-v : goal.invariant-loop-v
invariant-loop-v l = l.word ≡ over l.v (λ u. bit_of (at l.values u)) l.fn.word
