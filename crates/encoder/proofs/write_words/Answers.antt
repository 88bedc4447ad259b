-- `encoder::write_words` meets its contract: the words of the frames so far. Assumes nothing.
use Rattle.integers.proofs.Prelude.{◌≡◌, refl, sym, ap, ◌∙◌, ℕ, suc, ◌+◌, ◌-◌, ◌*◌, ◌≤◌, arith, length, take, drop}
use native.Mathlib.Nat.{mul-le-mul_right}
use Rattle.lists.proofs.Parts.{length_part}
use Rattle.model.specs.Encoding.{frames_in}
use Rattle.encoder.proofs.Frames.{next_frame}
use Rattle.encoder.proofs.write_words.Goals as goal
use Rattle.encoder.proofs.write_words.Goals.{In-loop-f}

pub loop-f-init : goal.loop-f-init
unfolding frames_in
loop-f-init c = refl

-- ---- the frame at hand
module _ (i : In-loop-f) where
  abbrev f : ℕ
  f = i.loop-f.f

  abbrev bits : ℕ
  bits = i.bits-bits.result

  abbrev size : ℕ
  size = i.message_length-size.result

  room : i.args.frames * bits ≤ length i.args.words.now
  room = rw i.bits-bits.ensures.value i.requires.room

  message_end : suc f * size ≤ length i.args.messages.now
  message_end =
      let all : length i.args.messages.now ≡ i.args.frames * size = i.requires.messages ∙ ap (λ (m : ℕ). i.args.frames * m) (sym i.message_length-size.ensures) in
      omega (arith, mul-le-mul_right {m = suc f} {n = i.args.frames} size i.loop-f-test.true, all)

  word_end : suc f * bits ≤ length i.args.words.now
  word_end = omega (arith, mul-le-mul_right {m = suc f} {n = i.args.frames} bits i.loop-f-test.true, room)

  -- what is lent of both lists
  size_is : (f + 1) * size - f * size ≡ size
  size_is = omega arith

  bits_is : (f + 1) * bits - f * bits ≡ bits
  bits_is = omega arith

  word_long : length (take ((f + 1) * bits - f * bits) (drop (f * bits) i.loop-f.words)) ≡ bits
  word_long = rw bits_is (length_part _ f _ (omega (arith, word_end)))

  message_long : length (take ((f + 1) * size - f * size) (drop (f * size) i.args.messages.now)) ≡ size
  message_long = rw size_is (length_part _ f _ message_end)

pub loop-f-preserved : goal.loop-f-preserved
loop-f-preserved c =
    let i = (goal.at.loop-f-preserved c).In-loop-f in
    next_frame c.args.reduction.now (bits i) (sym c.bits-bits.ensures.value) (f i) c.args.messages.now c.args.words.now c.loop-f.words c.loop-f.invariant
    (omega (arith, word_end i)) _ c.args.reduction.now (size i) _ _ refl c.message_length-size.ensures (size_is i) (bits_is i) c.write_word.ensures
