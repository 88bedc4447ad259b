use Rattle.integers.proofs.Prelude.{map, cond, ltb, ◌≡◌, refl, sym, ap, ap₂, ◌∙◌, ℕ, suc, ◌+◌, ◌-◌, ◌*◌, ◌≤◌, ◌<◌, arith, add-one, length, get_or, take, drop}
use lib.ListN.{replicate}
use Rattle.lists.specs.Tabulated.{tab, part}
use Rattle.lists.proofs.Tabulated.{over_replicate, over_next_map}
use Rattle.lists.proofs.Parts.{length_part, part_end}
use Rattle.model.specs.Limits.{most_frames}
use Rattle.model.specs.Calls.{run_told, Answer}
use Rattle.model.specs.Group.{alone}
use Rattle.group_step.specs.declared.Stage.TheVariants.{Idle}
use Rattle.group_step.specs.Frames.{stop_of}
use Rattle.group.specs.Ends.{answer_of, word_left}
use Rattle.group.proofs.Concluded.{Concluded, words_long, next_part, next_word}
use Rattle.group.proofs.conclude.Invariants.{done, answered}
use Rattle.group.proofs.conclude.Goals as goal
use Rattle.group.proofs.conclude.Goals.{At-loop-f, In-loop-f}

pub loop-f-init : goal.loop-f-init
loop-f-init c = (ap (λ (a : Answer). replicate most_frames a) c.nothing-told.ensures, refl)

module _ (l : At-loop-f) where
  abbrev n : ℕ
  n = l.bits-bits.result

  abbrev v : ℕ
  v = l.variables-variables.result

  concluded : l.loop-f.f ≤ l.args.frames → Concluded l.args.code.now n v l.args.frames l.args.values.now (done l.args.stages.now) l.args.word.now l.loop-f.f l.loop-f.word
  concluded within = record {
    bits = l.bits-bits.ensures.value;
    room = rw l.bits-bits.ensures.value l.requires.room.1;
    within = within;
    so_far = l.loop-f.invariant.1;
  }

  values_room : l.args.frames * v ≤ length l.args.values.now
  values_room = rw l.variables-variables.ensures.value l.requires.room.0

-- ---- the frame at hand
module _ (i : In-loop-f) where
  abbrev l' : At-loop-f
  l' = (goal.at.In-loop-f i).At-loop-f

  now : Concluded i.args.code.now (n l') (v l') i.args.frames i.args.values.now (done i.args.stages.now) i.args.word.now i.loop-f.f i.loop-f.word
  now = concluded l' (omega (arith, i.loop-f-test.true))

  few : i.loop-f.f < most_frames
  few = omega (arith, i.loop-f-test.true, i.requires.frames.0)

  values_end : suc i.loop-f.f * v l' ≤ length i.args.values.now
  values_end = omega (arith, part_end (v l') i.args.frames i.loop-f.f i.loop-f-test.true, values_room l')

  word_end : suc i.loop-f.f * n l' ≤ length i.loop-f.word
  word_end = omega (arith, part_end (n l') i.args.frames i.loop-f.f i.loop-f-test.true, words_long now, now.room)

  -- what is lent of both lists
  values_lent : take (i.loop-f.f * v l' + v l' - i.loop-f.f * v l') (drop (i.loop-f.f * v l') i.args.values.now) ≡ part (v l') i.loop-f.f i.args.values.now
  values_lent = let e : i.loop-f.f * v l' + v l' - i.loop-f.f * v l' ≡ v l' = omega arith in rw e

  word_size : i.loop-f.f * n l' + n l' - i.loop-f.f * n l' ≡ n l'
  word_size = omega arith

  word_lent : take (i.loop-f.f * n l' + n l' - i.loop-f.f * n l') (drop (i.loop-f.f * n l') i.loop-f.word) ≡ part (n l') i.loop-f.f i.loop-f.word
  word_lent = rw word_size

  values_long : length (take (i.loop-f.f * v l' + v l' - i.loop-f.f * v l') (drop (i.loop-f.f * v l') i.args.values.now)) ≡ v l'
  values_long = ap length values_lent ∙ length_part (v l') i.loop-f.f i.args.values.now values_end

  word_long : length (take (i.loop-f.f * n l' + n l' - i.loop-f.f * n l') (drop (i.loop-f.f * n l') i.loop-f.word)) ≡ n l'
  word_long = ap length word_lent ∙ length_part (n l') i.loop-f.f i.loop-f.word word_end

pub conclude_frame-requires : goal.conclude_frame-requires
conclude_frame-requires c =
    let i = (goal.at.conclude_frame-requires c).In-loop-f in
    record { room = (omega (arith, values_long i, c.bits-bits.ensures.value, c.variables-variables.ensures.value), omega (arith, word_long i, c.bits-bits.ensures.value)) }

pub loop-f-preserved : goal.loop-f-preserved
loop-f-preserved c =
    let i = (goal.at.loop-f-preserved c).In-loop-f in
    let k = c.args.code.now in
    let f = c.loop-f.f in
    let stages = c.args.stages.now in (
      rw (add-one f) (over_next_map run_told f (answered k (v (l' i)) c.args.values.now stages) (replicate most_frames (alone 0)) c.loop-f.told c.conclude_frame.result (few i) c.loop-f.invariant.0
          (sym (c.conclude_frame.ensures.answer ∙ ap (answer_of k (done stages f) (stop_of (get_or stages f Idle))) (values_lent i)))),
      rw (add-one f) (next_word (now i) c.loop-f-test.true _ _ (word_size i)
          (c.conclude_frame.ensures.word ∙ ap₂ (word_left k (done stages f)) (values_lent i) (word_lent i ∙ next_part (now i)))),
    )

pub returns : goal.returns
returns c =
    let k = c.args.code.now in
    let v = c.variables-variables.result in
    let e : c.loop-f.f ≡ c.args.frames = omega (arith, c.loop-f-test.false, c.loop-f.auto) in
    let told : map run_told c.loop-f.told ≡ tab most_frames (λ f. cond (ltb f c.args.frames) (answered k v c.args.values.now c.args.stages.now f) (alone 0))
    = (rw e at c.loop-f.invariant.0) ∙ over_replicate c.args.frames most_frames (answered k v c.args.values.now c.args.stages.now) (alone 0) c.requires.frames.0 in
    record {
      answers = (rw c.variables-variables.ensures.value at told);
      words = (rw (e, c.bits-bits.ensures.value, c.variables-variables.ensures.value) at c.loop-f.invariant.1);
    }
