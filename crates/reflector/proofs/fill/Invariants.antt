-- The first i costs are reflected.
use Rattle.integers.proofs.Prelude.{◌≡◌}
use Rattle.lists.specs.Tabulated.{over}
use Rattle.model.specs.Iteration.{at}
use Rattle.model.specs.Reflection.{negated_if}
use Rattle.model.specs.Words.{bit_at}
use Rattle.reflector.proofs.fill.Given as goal

abbrev pub invariant-loop-i : goal.invariant-loop-i
invariant-loop-i l = l.reflected ≡ over l.i (λ k. negated_if (bit_at l.word k) (at l.costs k)) l.initial.reflected
