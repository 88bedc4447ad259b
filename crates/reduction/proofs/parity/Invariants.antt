-- `reduction::parity` meets its contract: the sum so far and what remains are the whole. Assumes nothing.
use Rattle.integers.proofs.Prelude.{◌≡◌, ◌+◌, ◌*◌, ◌≤◌, length, drop}
use lib.Seq.{slice}
use Rattle.model.specs.Encoding.{inner_product}
use Rattle.reduction.proofs.parity.Given as goal

abbrev pub invariant-loop-i : goal.invariant-loop-i
invariant-loop-i l = (l.i ≤ length l.word) × (l.sum ≤ 65025 * l.i) × (l.sum + inner_product (slice l.i (length l.word) l.row) (drop l.i l.word) ≡ inner_product (slice l.start (length l.word) l.row) (drop l.start l.word))
