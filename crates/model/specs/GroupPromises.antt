-- What the decoder of a group promises of every call (document 02, L7), as `Promises` does it for the other entries. Statements only; the proofs are in
-- proofs/GroupPromises.antt.
use Rattle.std.specs.Prelude.{◌≡◌, false, List, [], ◌∷◌, ◌++◌, ℕ, suc, ◌<◌, ℤ, length, replicate}
use Rattle.lists.specs.Tabulated.{part, blocks}
use Rattle.lists.specs.Entries.{some}
use Rattle.model.specs.declared.Settings.{Settings}
use Rattle.model.specs.Limits.{most_frames}
use Rattle.model.specs.Records.{code_of, whole_causes, record_causes}
use Rattle.model.specs.Splitting.{system_of}
use Rattle.model.specs.Points.{Codeword}
use Rattle.model.specs.Reflection.{reflect}
use Rattle.model.specs.Calls.{forbidden, Lists, Decoded}
use Rattle.model.specs.Order.{Follows, Ordered, one_to_nine}
use Rattle.model.specs.DecoderClaims.{ReflectedCalls}
use Rattle.model.specs.Promises.{DecoderCall}
use Rattle.model.specs.Group.{frame_lists, HasGroupRoom, group_causes, alone, Grouped, group, frame_in}
use Rattle.model.specs.GroupClaims.{FrameIs, GroupIsSingles, GroupRefuses, StepsAreRuns}

-- ---- frame f of an accepted group, which gave g
pub record FrameCall (b : List ℕ) (o : Settings) (costs : List ℤ) (l : Lists) (f : ℕ) (g : Grouped) : Type 0 where
  -- the decoder by itself, with the frame's costs and its parts of the lists: what it gives, and all that it promises of that call
  pub decoded : Decoded
  pub call : DecoderCall b o (part (code_of b).bits f costs) (frame_lists (code_of b) l f) decoded
  -- the frame has the same, and where no cost is false also the triples and the counts
  pub same : FrameIs (code_of b) f g decoded
  pub whole : some forbidden (part (code_of b).bits f costs) ≡ false → frame_in (code_of b) g f ≡ decoded

-- ---- the decoder of a group: g is its answer and the lists that were l, work_after the list of work, which was work
pub record GroupCall (b : List ℕ) (o : Settings) (F : ℕ) (costs : List ℤ) (l : Lists) (work : List ℤ) (g : Grouped) (work_after : List ℤ) : Type 0 where
  pub equation : g ≡ group b o F costs l work
  -- demand 1
  pub order : Ordered (record_causes b ++ group_causes (code_of b) o F costs l work) (one_to_nine ++ (10 ∷ 11 ∷ 12 ∷ 21 ∷ [])) g.number
  pub follows : Follows 0 (whole_causes b ++ group_causes (code_of b) o F costs l work)
  pub refuses : GroupRefuses b o F costs l work g
  pub refused : (c : ℕ) → g.number ≡ suc c → (g ≡ record { number = suc c; answers = replicate most_frames (alone 0); lists = l }) × (work_after ≡ work)
  pub work_length : length work_after ≡ length work
  -- demand 2
  pub singles : g.number ≡ 0 → GroupIsSingles b o F costs l g
  pub single_calls : g.number ≡ 0 → (f : ℕ) → f < F → FrameCall b o costs l f g
  pub steps : (f : ℕ) → StepsAreRuns (system_of (code_of b)) o (part (code_of b).bits f costs)
  -- demand 3, of frame f of this group and frame e of a second one, which gave h, with the costs that w reflects; whatever the other frames of both are
  pub reflected : g.number ≡ 0 → (E : ℕ) (others : List ℤ) (m : Lists) (lent : List ℤ) (h : Grouped) → h ≡ group b o E others m lent → h.number ≡ 0
      → (f e : ℕ) → f < F → e < E → some forbidden (part (code_of b).bits f costs) ≡ false
      → (w : List ℕ) → Codeword (code_of b) w → part (code_of b).bits e others ≡ reflect w (part (code_of b).bits f costs)
      → ReflectedCalls b o (part (code_of b).bits f costs) w (frame_lists (code_of b) m e) (frame_in (code_of b) g f) (frame_in (code_of b) h e)
  -- of all frames, each reflected by a codeword of its own: such a group is accepted in lists that have the room
  pub reflected_each : g.number ≡ 0 → (w : ℕ → List ℕ) → ((f : ℕ) → f < F → Codeword (code_of b) (w f))
      → (m : Lists) (lent : List ℤ) → HasGroupRoom (code_of b) F m lent
      → (h : Grouped) → h ≡ group b o F (blocks F (λ f. reflect (w f) (part (code_of b).bits f costs))) m lent
      → (h.number ≡ 0) × ((f : ℕ) → f < F → some forbidden (part (code_of b).bits f costs) ≡ false
      → ReflectedCalls b o (part (code_of b).bits f costs) (w f) (frame_lists (code_of b) m f) (frame_in (code_of b) g f) (frame_in (code_of b) h f))
