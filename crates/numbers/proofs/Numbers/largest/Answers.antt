-- The numbers so far are small, and the largest of them is known.
use Rattle.integers.proofs.Prelude.{arith, add-one}
use Rattle.numbers.specs.Walked.{none}
use Rattle.numbers.proofs.Walk.{next_at, small_next, largest_next}
use Rattle.numbers.proofs.Numbers.largest.Goals as goal

pub loop-preserved : goal.loop-preserved
loop-preserved c =
    let l = c.args.self.now in
    let i = c.loop.counter in
    let x = next_at l i c.loop.invariant.2 c.in_ok-number.ensures.found in
    let small = small_next i l c.loop.invariant.0 (omega (arith, x.0)) in
    rw (add-one i) (
      small,
      omega (arith, c.loop.invariant.1, x.0, largest_next l i none small.long),
      x.1,
    )
