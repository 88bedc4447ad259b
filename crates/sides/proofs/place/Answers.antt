-- `sides::place` meets its contract: the number stands at the places of the bits so far. Assumes nothing.
use Rattle.integers.proofs.Prelude.{◌≡◌, refl, sym, ap, ◌∙◌, ℕ, ◌+◌, ◌<◌, arith, length, get_or, take}
use Rattle.model.specs.Limits.{most_bits}
use Rattle.sides.proofs.Counting.{counted_none, Turn, turn_value, turn_next, length_placed, placed_next}
use Rattle.sides.proofs.place.Goals as goal
use Rattle.sides.proofs.place.Goals.{After-bit-b, After-from-at}

pub loop-i-init : goal.loop-i-init
loop-i-init c = (sym (counted_none _), refl)

-- the bit at hand, and its place
turn : (c : After-bit-b) → Turn most_bits c.args.check.now c.args.next.now c.loop-i.next c.loop-i.i c.bit-b.result
turn c =
    record {
      rising = c.requires.rising;
      room = omega arith;
      below = omega (arith, c.loop-i-test.true, c.degree-i-end.ensures.value);
      so_far = c.loop-i.invariant.0;
      is = c.bit-b.ensures.value;
    }

here : (c : After-from-at) → c.from-at.result ≡ get_or c.args.next.now c.bit-b.result 0
here c = omega (arith, c.from-at.ensures, turn_value (turn (goal.at.After-from-at c).After-bit-b))

long : (c : After-from-at) → length c.loop-i.entries ≡ length c.args.entries.now
long c = ap length c.loop-i.invariant.1 ∙ length_placed c.args.j c.args.next.now (take c.loop-i.i c.args.check.now) c.args.entries.now

room : (c : After-from-at) → c.from-at.result < length c.loop-i.entries
room c =
    let e : get_or c.args.check.now c.loop-i.i 0 ≡ c.bit-b.result = sym c.bit-b.ensures.value in
    omega (arith, here c, long c, rw e at (c.requires.room c.loop-i.i (turn (goal.at.After-from-at c).After-bit-b).below))

pub bounds-entries-at : goal.bounds-entries-at
bounds-entries-at c = room c

pub overflow_cast-next : goal.overflow_cast-next
overflow_cast-next c = omega (arith, room c, long c, c.requires.places)

pub loop-i-preserved : goal.loop-i-preserved
loop-i-preserved c =
    let a = c.args in
    let t = turn (goal.at.loop-i-preserved c).After-bit-b in (
      turn_next t _ (ap (λ (n : ℕ). n + 1) c.from-at.ensures),
      rw (here c, c.loop-i.invariant.1) (placed_next a.j a.next.now a.check.now a.entries.now c.loop-i.i _ t.below c.bit-b.ensures.value),
    )
