-- `sides::count` meets its contract: the bits so far are counted. Assumes nothing.
use Rattle.integers.proofs.Prelude.{refl, sym, arith, length}
use Rattle.sides.proofs.Counting.{counted_none, Turn, turn_bit, turn_entry, turn_value, turn_next}
use Rattle.sides.proofs.count.Goals as goal
use Rattle.sides.proofs.count.Goals.{After-bit}

pub loop-i-init : goal.loop-i-init
loop-i-init c = sym (counted_none _)

-- the bit at hand
turn : (c : After-bit) → Turn (length c.args.degrees.now) c.args.check.now c.args.degrees.now c.loop-i.degrees c.loop-i.i c.bit.result
turn c =
    record {
      rising = c.requires.rising;
      room = omega arith;
      below = omega (arith, c.loop-i-test.true, c.degree-i-end.ensures.value);
      so_far = c.loop-i.invariant;
      is = c.bit.ensures.value;
    }

pub bounds-degrees-bit : goal.bounds-degrees-bit
bounds-degrees-bit c = turn_entry (turn (goal.at.bounds-degrees-bit c).After-bit)

pub bounds-degrees-bit-in-loop-i : goal.bounds-degrees-bit-in-loop-i
bounds-degrees-bit-in-loop-i c = turn_entry (turn (goal.at.bounds-degrees-bit-in-loop-i c).After-bit)

pub overflow_add-degrees : goal.overflow_add-degrees
overflow_add-degrees c =
    let t = turn (goal.at.overflow_add-degrees c).After-bit in
    omega (arith, turn_value t, c.requires.room c.bit.result (turn_bit t))

pub loop-i-preserved : goal.loop-i-preserved
loop-i-preserved c = turn_next (turn (goal.at.loop-i-preserved c).After-bit) _ refl
