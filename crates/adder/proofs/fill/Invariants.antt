-- The first i entries are sums.
use Rattle.integers.proofs.Prelude.{◌≡◌, ◌+◌, ◌%◌}
use Rattle.lists.specs.Tabulated.{over}
use Rattle.model.specs.Words.{bit_at}
use Rattle.adder.proofs.fill.Given as goal

abbrev pub invariant-loop-i : goal.invariant-loop-i
invariant-loop-i l = l.sum ≡ over l.i (λ k. (bit_at l.word k + bit_at l.other k) % 2) l.initial.sum
