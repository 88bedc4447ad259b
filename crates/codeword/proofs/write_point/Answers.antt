use Rattle.integers.proofs.Prelude.{◌∷◌, arith}
use Rattle.triples.proofs.Left.{check_sound, next_most, auxiliaries_below}
use Rattle.codeword.proofs.Extending.{Extended, word_copied, all_made, length_now, check_made}
use Rattle.codeword.proofs.write_point.Goals as goal
use Rattle.codeword.proofs.write_point.Goals.{In-Some}

pub loop-check-init : goal.loop-check-init
loop-check-init c =
    rw (c.into_iter-check-iterator.ensures.into_iter_gives, c.checks-check-items.ensures.value)
    (word_copied _ c.checks-check-items.ensures.sound _ _ c.requires.room c.requires.word _ c.copy.ensures)

-- the check at hand is the first of those that are left
at_hand : (c : In-Some) → Extended c.args.code.now c.args.word.now c.args.point.now (c.in-Some.check ∷ c.next.new.self) c.loop-check.next c.loop-check.point
at_hand c = rw c.in-Some.ensures.steps at c.loop-check.invariant

pub write_auxiliaries-requires-clause-sound : goal.write_auxiliaries-requires-clause-sound
write_auxiliaries-requires-clause-sound c =
    let x = at_hand (goal.at.write_auxiliaries-requires-clause-sound c).In-Some in
    let s = c.checks-check-items.ensures.sound in
    (check_sound _ s _ _ _ x.left_to_do, next_most _ s _ _ _ x.left_to_do)

pub write_auxiliaries-requires-clause-room : goal.write_auxiliaries-requires-clause-room
write_auxiliaries-requires-clause-room c =
    let x = at_hand (goal.at.write_auxiliaries-requires-clause-room c).In-Some in
    let s = c.checks-check-items.ensures.sound in
    omega (arith, auxiliaries_below _ s _ _ _ x.left_to_do, length_now _ s _ _ c.requires.room _ _ _ x, c.requires.room)

pub overflow_add-next : goal.overflow_add-next
overflow_add-next c =
    let x = at_hand (goal.at.overflow_add-next c).In-Some in
    omega (arith, next_most _ c.checks-check-items.ensures.sound _ _ _ x.left_to_do, c.turns-next.ensures.bound)

pub loop-check-preserved : goal.loop-check-preserved
loop-check-preserved c =
    rw c.turns-next.ensures.value
    (check_made _ c.checks-check-items.ensures.sound _ _ c.requires.room _ _ _ _ (at_hand (goal.at.loop-check-preserved c).In-Some) _ c.write_auxiliaries.ensures)

pub returns : goal.returns
returns c = all_made _ c.checks-check-items.ensures.sound _ _ c.requires.room _ _ (rw c.in-None.ensures.steps.0 at c.loop-check.invariant)
