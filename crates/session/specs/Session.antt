-- The frame program as a loop of one read, one call of `advance` and one write: what its state means, what a turn does, and that the turns together write
-- `Frames.frames` of the input. Definitions and statements only; `Program` is proved in proofs/Turns.antt.
use Rattle.std.specs.Prelude.{Bool, true, false, cond, List, [], ◌++◌, ◌≡◌, ℕ, suc, ◌+◌, ◌-◌, ◌*◌, ◌≤◌, ◌<◌, length, take, drop}
use Rattle.model.specs.Limits.{base_iterations}
use Rattle.model.specs.Records.{bit_count, degree}
use Rattle.program.specs.Frames.{settings_of, frame_size, refusal, after_code, frames_up_to, frames}
use Rattle.program.specs.FrameClaims.{buffer_size, Begun, Opened, Coded, Set}
use Rattle.session.specs.declared.State.{State}
use Rattle.session.specs.declared.Step.{Step}
use Rattle.session.specs.declared.Part.{Part}
use Rattle.session.specs.declared.Part.TheVariants.{Header, Check, Indices, Settings, Frame, Over}

abbrev pub start : State
start = record { part = Header; at = 0; want = 6; left = 0; triples = 0 }

abbrev pub over : State
over = record { part = Over; at = 0; want = 0; left = 0; triples = 0 }

abbrev pub is_over : Part → Bool
is_over Header = false
is_over Check = false
is_over Indices = false
is_over Settings = false
is_over Frame = false
is_over Over = true

-- ---- what a state means

-- what is yet to be written, b being the bytes that are kept and s the input from there on: what is written for an input of b and s. A frame that was answered
-- is not kept.
abbrev pub to_write : State → List ℕ → List ℕ → List ℕ
to_write st b s = cond (is_over st.part) [] (frames (b ++ s))

-- the mark and the degree of a check are kept, behind the records before it
pub record AtIndices (st : State) (b : List ℕ) : Type 0 where
  pub begun : Begun st.left st.triples (take (st.at - 3) b)
  pub more : 0 < st.left
  pub opened : Opened (bit_count b) st.triples (drop (st.at - 3) b)
  pub want : st.want ≡ 2 * degree (drop (st.at - 3) b)

-- the settings record is kept, behind the code
pub record AtFrame (st : State) (b : List ℕ) : Type 0 where
  pub code : Coded st.triples (take (st.at - 12) b)
  pub set : Set (drop (st.at - 12) b)
  pub want : st.want ≡ frame_size (bit_count b)

-- what was accepted of the bytes b that are kept, by the part that is due, and how many bytes are asked for
abbrev pub Due : Part → State → List ℕ → Type 0
Due Header st b = (b ≡ []) × (st.want ≡ 6)
Due Check st b = Begun st.left st.triples b × (0 < st.left) × (st.want ≡ 3)
Due Indices st b = AtIndices st b
Due Settings st b = Coded st.triples b × (st.want ≡ 12)
Due Frame st b = AtFrame st b
Due Over st b = st.want ≡ 0

pub record Kept (st : State) (b : List ℕ) : Type 0 where
  pub long : length b ≡ st.at
  pub fits : st.at + st.want ≤ buffer_size
  pub due : Due st.part st b

-- ---- a turn

-- so many bytes came to the buffer, behind those that are kept
pub record Asked (st : State) (came : ℕ) (buffer : List ℕ) : Type 0 where
  pub kept : Kept st (take st.at buffer)
  pub most : came ≤ st.want

-- from one state to the next: what came is the next bytes of the input s, as many as were asked for or all that are left
pub record Stepped (buffer : List ℕ) (before : State) (came : ℕ) (after : State) (wrote : List ℕ) : Type 0 where
  -- what is written now and what is to be written after it are what was to be written before
  pub writes : (s : List ℕ) → take came (drop before.at buffer) ≡ take before.want s
      → to_write before (take before.at buffer) s ≡ wrote ++ to_write after (take after.at buffer) (drop before.want s)
  -- where fewer bytes came than were asked for, the program is over
  pub ends : came < before.want → is_over after.part ≡ true
  pub holds : Kept after (take after.at buffer)

-- what `advance` tells: the next state, and what stands at the beginning of `out`
pub record Told (buffer : List ℕ) (before : State) (came : ℕ) (r : Step) (out : List ℕ) : Type 0 where
  pub stepped : Stepped buffer before came r.state (take r.written out)
  pub within : r.written ≤ length out

-- the same once the bytes that came are kept as well, `at` in all
pub record Entered (buffer : List ℕ) (at : ℕ) (r : Step) (out : List ℕ) : Type 0 where
  pub writes : (s : List ℕ) → frames (take at buffer ++ s) ≡ take r.written out ++ to_write r.state (take r.state.at buffer) s
  pub holds : Kept r.state (take r.state.at buffer)
  pub within : r.written ≤ length out

-- the same of a refusal
pub record Refused (cause : ℕ) (r : Step) (out : List ℕ) : Type 0 where
  pub ends : r.state ≡ over
  pub line : take r.written out ≡ refusal cause
  pub within : r.written ≤ length out

-- ---- the loop

-- after n turns on the input s: the state, the bytes that are kept, the input that is left, and all that was written. A turn reads behind the bytes that are
-- kept and leaves those as they are; what comes is the next bytes of the input; a write is whole.
pub data Turns (s : List ℕ) : ℕ → State → List ℕ → List ℕ → List ℕ → Type 0 where
  none : Turns s 0 start [] s []
  turn : {n : ℕ} {st : State} {b rest out : List ℕ} → Turns s n st b rest out → 0 < st.want
      → (buffer : List ℕ) → take st.at buffer ≡ b → take (length (take st.want rest)) (drop st.at buffer) ≡ take st.want rest
      → {after : State} {wrote : List ℕ} → Stepped buffer st (length (take st.want rest)) after wrote
      → Turns s (suc n) after (take after.at buffer) (drop st.want rest) (out ++ wrote)

-- where nothing more is asked for, what was written is what document 01 says; and that comes after at most one turn more than the input has bytes
pub record Program (s : List ℕ) : Type 0 where
  pub writes : {n : ℕ} {st : State} {b rest out : List ℕ} → Turns s n st b rest out → st.want ≡ 0 → out ≡ frames s
  pub ends : {n : ℕ} {st : State} {b rest out : List ℕ} → Turns s n st b rest out → 0 < st.want → n ≤ length s
  -- document 02, L2: where the settings record has a K of up to 1,000, that is what was written where K went to 1,000
  pub as_before : (settings_of (after_code s)).limit ≤ base_iterations → frames s ≡ frames_up_to base_iterations s
