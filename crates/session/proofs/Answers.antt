-- What the bytes of a frame lead to. Assumes nothing.
use Rattle.integers.proofs.Prelude.{◌≡◌, sym, ap, subst, ◌∙◌, true, false, cond, List, [], ◌++◌, append_assoc, ℕ, ◌-◌, ◌≤◌, arith, length, take, drop}
use Rattle.integers.proofs.Prelude.{length-drop, take-append-drop, length-take-le, take-take}
use Rattle.model.specs.Records.{bit_count, code_of}
use Rattle.model.specs.Calls.{out_of_range}
use Rattle.program.specs.Frames.{settings_of, frame_size, frames}
use Rattle.program.specs.FrameClaims.{Coded, Set, HeldCode, frame_text, goes_further}
use Rattle.program.proofs.Frames.{settings_sound}
use Rattle.program.proofs.FrameBytes.{two_take, drop_within}
use Rattle.program.proofs.FrameCode.{code_held}
use Rattle.program.proofs.FrameProgram.{frame_after_frame, cut_ends}
use Rattle.answers.proofs.Answers.{bits_of, code_long}
use Rattle.session.specs.declared.State.{State}
use Rattle.session.specs.declared.Part.TheVariants.{Frame}
use Rattle.session.specs.Session.{over, is_over, AtFrame, Due, Asked, Told}
use Rattle.session.proofs.Steps.{over_kept}
use Rattle.session.proofs.Records.{counted}

module _ (buffer : List ℕ) (long : length buffer ≡ 10260) (st : State) (came : ℕ) (a : Asked st came buffer) (p : st.part ≡ Frame) where
  -- the bytes that are kept: the code and the settings record; those that came
  abbrev b : List ℕ
  b = take st.at buffer

  abbrev size : ℕ
  size = st.at - 12

  abbrev bytes : List ℕ
  bytes = take came (drop st.at buffer)

  abbrev due : AtFrame st b
  due = subst (λ q. Due q st b) p a.kept.due

  pub behind : 12 ≤ st.at
  behind = let l = length-drop size b in let k = a.kept.long in omega (arith, due.set.twelve)

  code_is : take size b ≡ take size buffer
  code_is = take-take size st.at buffer (omega arith)

  set_is : drop size b ≡ take (st.at - size) (drop size buffer)
  set_is = drop_within size st.at buffer (omega arith)

  pub coded : Coded st.triples (take size buffer)
  coded = rw code_is at due.code

  pub set : Set (take (st.at - size) (drop size buffer))
  set = rw set_is at due.set

  pub held : HeldCode (take size buffer)
  held = code_held st.triples (take size buffer) coded.begun coded.sound

  pub within : out_of_range (settings_of (take (st.at - size) (drop size buffer))) ≡ false
  within = (settings_sound _ set.sound).within

  abbrev code : List ℕ
  code = take size buffer

  abbrev r : List ℕ
  r = take (st.at - size) (drop size buffer)

  abbrev n : ℕ
  n = (code_of code).bits

  split : b ≡ code ++ r
  split = rw (← code_is, ← set_is) (sym (take-append-drop size b))

  want_is : st.want ≡ frame_size n
  want_is =
      let six : 6 ≤ size = omega (arith, code_long code held, length-take-le size buffer (omega (arith, a.kept.fits))) in
      let same : bit_count b ≡ bit_count code = two_take 2 st.at buffer (omega arith) ∙ sym (two_take 2 size buffer (omega arith)) in
      due.want ∙ ap frame_size (same ∙ sym (bits_of code))

  next : (s : List ℕ) → bytes ≡ take st.want s
      → frames (b ++ s) ≡ frame_text (code_of code) (settings_of r) bytes ++ cond (goes_further n bytes) (frames (b ++ drop st.want s)) []
  next s e = rw (split, append_assoc code r s, append_assoc code r (drop st.want s), e, want_is) (frame_after_frame st.triples code r s coded set)

  unfinished : is_over st.part ≡ false
  unfinished = ap is_over p

  module _ (w : ℕ) (out : List ℕ) (text : take w out ≡ frame_text (code_of code) (settings_of r) bytes) (most : w ≤ length out) where
    pub goes_on : true ≡ goes_further n bytes → Told buffer st came (record { state = st; written = w }) out
    goes_on g = record {
      stepped = record {
        writes = λ s e. rw (unfinished, text) (next s e ∙ rw (← g));
        ends = λ h. (let z : ◌≡◌ {A = ℕ} 0 1 = cc (g ∙ cut_ends n bytes (omega (arith, counted buffer long st came a, want_is))) in absurd (omega arith));
        holds = a.kept;
      };
      within = most;
    }

    pub stops : {after : State} → after ≡ over → false ≡ goes_further n bytes → Told buffer st came (record { state = after; written = w }) out
    stops z g = record {
      stepped = record { writes = λ s e. rw (unfinished, text, z) (next s e ∙ rw (← g)); ends = λ h. rw z; holds = rw z (over_kept buffer) };
      within = most;
    }
