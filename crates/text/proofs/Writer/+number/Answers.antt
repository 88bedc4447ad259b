-- `Writer::number` meets its contract: the digits before the last, if there are any, then the last. Assumes nothing.
use Rattle.integers.proofs.Prelude.{ap, ℕ, ◌/◌, ◌<◌, arith, length}
use native.Mathlib.Nat.{div-lt_self}
use Rattle.text.specs.Wrote.{Wrote}
use Rattle.text.proofs.Appended.{long}
use Rattle.text.proofs.Decimals.{leading, leading_none, leading_more, decimal_is, decimal_length}
use Rattle.text.proofs.Wrote.{nothing, then}
use Rattle.text.proofs.Writer.+number.Goals as goal
use Rattle.text.proofs.Writer.+number.Goals.{After-digit, then-x-ge10, else-x-ge10}

pub number-requires : goal.number-requires
number-requires t c =
    let x = c.args.x in
    let less : x / 10 < t = omega (arith, div-lt_self {n = x} {k = 10} (omega arith) (omega arith), c.decreases) in
    (less, omega (arith, decimal_length x, ap length (leading_more x c.if-x-ge10.true), c.requires))

-- where both arms meet, the digits before the last are written
begun : (t : ℕ) (c : After-digit t) → Wrote (leading c.args.x) c.args.self.now c.if-x-ge10.self
begun t c =
    let x = c.args.x in
    elim c.if-x-ge10.branch [
      | then-x-ge10 w ↦ rw (leading_more x w.if-x-ge10.true, w.self-is) w.number.ensures
      | else-x-ge10 w ↦ rw (leading_none x w.if-x-ge10.false, w.self-is) (nothing c.args.self.now)
    ]

pub byte-requires : goal.byte-requires
byte-requires t c = let b = (begun t (goal.at.byte-requires t c).After-digit).bytes in omega (arith, decimal_length c.args.x, b.ends, long b, c.requires)

pub returns : goal.returns
returns t c = rw (decimal_is c.args.x, ← c.digit.ensures) (then (begun t (goal.at.returns t c).After-digit) c.byte.ensures)
