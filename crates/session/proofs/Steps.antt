-- From one state to the next: a refusal, and bytes that are kept. Assumes nothing.
use Rattle.integers.proofs.Prelude.{◌≡◌, refl, sym, ap, Bool, true, false, cond, List, ◌++◌, append_assoc, append-nil, ℕ, ◌+◌, arith, take, drop}
use Rattle.integers.proofs.Prelude.{take-append-drop, take-add}
use Rattle.program.specs.Frames.{refusal, frames}
use Rattle.session.specs.declared.State.{State}
use Rattle.session.specs.declared.Step.{Step}
use Rattle.session.specs.declared.Part.TheVariants.{Over}
use Rattle.session.specs.Session.{over, is_over, Kept, Asked, Told, Entered, Refused}

pub over_kept : (buffer : List ℕ) → Kept over (take 0 buffer)
over_kept buffer = record { long = refl; fits = omega arith; due = refl }

module _ (buffer : List ℕ) (st : State) (came : ℕ) (unfinished : is_over st.part ≡ false) where
  abbrev kept : List ℕ
  kept = take st.at buffer

  -- the bytes that came
  abbrev pub bytes : List ℕ
  bytes = take came (drop st.at buffer)

  pub refused : {c : ℕ} {r : Step} {out : List ℕ} → Refused c r out → ((s : List ℕ) → bytes ≡ take st.want s → frames (kept ++ s) ≡ refusal c) → Told buffer st came r out
  refused {c} f h = record {
    stepped = record {
      writes = λ s e. rw (unfinished, f.ends, f.line, h s e) (sym (append-nil (refusal c)));
      ends = λ _. rw f.ends;
      holds = rw f.ends (over_kept buffer);
    };
    within = f.within;
  }

  more : (s : List ℕ) → bytes ≡ take st.want s → kept ++ s ≡ take (st.at + came) buffer ++ drop st.want s
  more s e = sym (rw (take-add st.at came buffer, e, append_assoc kept (take st.want s) (drop st.want s), take-append-drop st.want s))

  pub kept_too : {r : Step} {out : List ℕ} → came ≡ st.want → Entered buffer (st.at + came) r out → Told buffer st came r out
  kept_too all f = record {
    stepped = record {
      writes = λ s e. rw (unfinished, more s e) (f.writes (drop st.want s));
      ends = λ h. absurd (omega arith);
      holds = f.holds;
    };
    within = f.within;
  }

module _ (buffer : List ℕ) (at : ℕ) where
  pub entered : (after : State) (out : List ℕ) → is_over after.part ≡ false → after.at ≡ at → Kept after (take after.at buffer) → Entered buffer at (record { state = after; written = 0 }) out
  entered after out g e h = record { writes = λ s. rw (g, e); holds = h; within = omega arith }

  pub entry_refused : {c : ℕ} {r : Step} {out : List ℕ} → Refused c r out → ((s : List ℕ) → frames (take at buffer ++ s) ≡ refusal c) → Entered buffer at r out
  entry_refused {c} f h = record { writes = λ s. rw (f.ends, f.line, h s) (sym (append-nil (refusal c))); holds = rw f.ends (over_kept buffer); within = f.within }

-- the program is over
pub stays : (buffer : List ℕ) (st : State) (came : ℕ) (out : List ℕ) → Asked st came buffer → st.part ≡ Over → Told buffer st came (record { state = st; written = 0 }) out
stays buffer st came out a p =
    let z : is_over st.part ≡ true = ap is_over p in
    record { stepped = record { writes = λ s e. rw z; ends = λ h. z; holds = a.kept }; within = omega arith }

pub sent_kept : (buffer : List ℕ) (st after : State) (whole : Bool) → after ≡ cond whole st over → Kept st (take st.at buffer) → Kept after (take after.at buffer)
sent_kept buffer st after true e h = rw e h
sent_kept buffer st after false e h = rw e (over_kept buffer)
