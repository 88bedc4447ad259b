use Rattle.integers.proofs.Prelude.{◌∷◌, arith, length-drop}
use Rattle.lists.proofs.Parts.{part_from}
use Rattle.triples.proofs.Left.{check_sound, next_most}
use Rattle.triples.proofs.Writing.{Written, none_written, all_written, length_now, room_left, check_written}
use Rattle.triples.proofs.write_triples.Goals as goal
use Rattle.triples.proofs.write_triples.Goals.{In-Some}

pub loop-check-init : goal.loop-check-init
loop-check-init c =
    rw (c.into_iter-check-iterator.ensures.into_iter_gives, c.checks-check-items.ensures.value, c.bits-next.ensures.value)
    (none_written _ c.checks-check-items.ensures.sound _ c.requires.room)

-- the check at hand is the first of those that are left
at_hand : (c : In-Some) → Written c.args.code.now c.args.triples.now (c.in-Some.check ∷ c.next.new.self) c.loop-check.next c.loop-check.done c.loop-check.triples
at_hand c = rw c.in-Some.ensures.steps at c.loop-check.invariant

pub write_check-requires-clause-sound : goal.write_check-requires-clause-sound
write_check-requires-clause-sound c =
    let w = at_hand (goal.at.write_check-requires-clause-sound c).In-Some in
    let s = c.checks-check-items.ensures.sound in
    (check_sound _ s _ _ _ w.left_to_do, next_most _ s _ _ _ w.left_to_do)

pub write_check-requires-clause-room : goal.write_check-requires-clause-room
write_check-requires-clause-room c =
    let w = at_hand (goal.at.write_check-requires-clause-room c).In-Some in
    let s = c.checks-check-items.ensures.sound in
    rw (part_from c.loop-check.done c.loop-check.triples, length-drop c.loop-check.done c.loop-check.triples)
    (omega (arith, room_left _ s _ c.requires.room _ _ _ _ _ w, length_now _ s _ c.requires.room _ _ _ _ w))

pub overflow_add-next : goal.overflow_add-next
overflow_add-next c =
    let w = at_hand (goal.at.overflow_add-next c).In-Some in
    omega (arith, next_most _ c.checks-check-items.ensures.sound _ _ _ w.left_to_do, c.turns-next.ensures.bound)

pub loop-check-preserved : goal.loop-check-preserved
loop-check-preserved c =
    let w = at_hand (goal.at.loop-check-preserved c).In-Some in
    rw (c.turns-next.ensures.value, c.triple_count.ensures.value)
    (check_written _ c.checks-check-items.ensures.sound _ c.requires.room _ _ _ _ _ w c.write_check.new.out (rw (part_from c.loop-check.done c.loop-check.triples) at c.write_check.ensures))

pub returns : goal.returns
returns c = all_written _ c.checks-check-items.ensures.sound _ c.requires.room _ _ _ (rw c.in-None.ensures.steps.0 at c.loop-check.invariant)
