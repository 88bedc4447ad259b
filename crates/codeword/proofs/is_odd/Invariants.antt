-- The sum over the bits so far.
use Rattle.integers.proofs.Prelude.{◌≡◌, ◌*◌, ◌≤◌, take}
use Rattle.lists.specs.Entries.{total}
use Rattle.model.specs.Words.{bit_at}
use Rattle.codeword.proofs.is_odd.Given as goal

abbrev pub invariant-loop-i : goal.invariant-loop-i
invariant-loop-i l = (l.sum ≤ 255 * l.i) × (l.sum ≡ total (bit_at l.word) (take l.i l.check))
