-- `check_row` meets its contract: the bits so far have their 1. Assumes nothing.
use Rattle.integers.proofs.Prelude.{◌≡◌, ℕ, ◌<◌, length, take}
use Rattle.model.specs.Limits.{most_encoded_bits}
use Rattle.model.specs.Words.{bit_at}
use Rattle.model.specs.Encoding.{element}
use Rattle.reduction.proofs.check_row.Given as goal

abbrev pub invariant-loop-i : goal.invariant-loop-i
invariant-loop-i l =
    (length l.row ≡ most_encoded_bits) × ((b : ℕ) → b < most_encoded_bits → bit_at l.row b ≡ element (take l.i l.check) b)
