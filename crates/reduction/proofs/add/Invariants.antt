-- `reduction::add` meets its contract: the columns so far are sums, the others as they were. Assumes nothing.
use Rattle.integers.proofs.Prelude.{◌≡◌, ℕ, ◌+◌, ◌%◌, ◌≤◌, ◌<◌, length}
use Rattle.model.specs.Words.{bit_at}
use Rattle.reduction.proofs.add.Given as goal

abbrev pub invariant-loop-i : goal.invariant-loop-i
invariant-loop-i l = (length l.row ≡ length l.initial.row) × (l.start ≤ l.i) × (l.i ≤ l.bits)
    × ((k : ℕ) → k < l.i → l.start ≤ k → bit_at l.row k ≡ (bit_at l.initial.row k + bit_at l.other k) % 2) × ((k : ℕ) → l.i ≤ k → bit_at l.row k ≡ bit_at l.initial.row k)
