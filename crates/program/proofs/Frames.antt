-- What the records are that the frame program accepts, and the costs of a frame. Assumes nothing.
use Rattle.integers.proofs.Prelude.{◌≡◌, ◌∙◌, false, not, List, [], ◌∷◌, ℕ, ◌+◌, ◌≤◌, ltb-false, eqb, ltb, ℤ, length, take, drop, length-map}
use Rattle.lists.specs.Entries.{some}
use Rattle.lists.specs.Tabulated.{written}
use Rattle.lists.proofs.Tabulated.{take_written}
use Rattle.model.specs.Causes.{◌if◌, short, outside, accepted}
use Rattle.model.specs.Code.{triple_count}
use Rattle.model.specs.Records.{two_bytes, numbers, bit_count, indices, judge_header, judge_check}
use Rattle.model.specs.Limits.{most_iterations}
use Rattle.model.specs.Calls.{out_of_range, forbidden}
use Rattle.program.specs.Frames.{judge_held_header, judge_held_check, settings_of, judge_settings_up_to, judge_settings, twos_complement, costs_of, judge_whole, judge_frame}
use Rattle.model.proofs.Causes.{clear, unless}
use Rattle.model.proofs.Accepted.{length_numbers}

-- ---- code records
pub record HeldHeader (s : List ℕ) : Type 0 where
  pub sound : judge_header s ≡ 0
  pub room : bit_count s ≤ 512

pub header_held : (s : List ℕ) → judge_held_header s ≡ 0 → HeldHeader s
unfolding judge_held_header
header_held s h =
    let x = clear (judge_header s ∷ 10 if ltb 512 (bit_count s) ∷ []) h in
    record { sound = x.0; room = ltb-false 512 (bit_count s) (unless 9 _ x.1.0) }

pub record HeldCheck (n t : ℕ) (s : List ℕ) : Type 0 where
  pub sound : judge_check n s ≡ 0
  pub room : t + triple_count (indices s) ≤ 1024

pub check_held : (n t : ℕ) (s : List ℕ) → judge_held_check n t s ≡ 0 → HeldCheck n t s
unfolding judge_held_check
check_held n t s h =
    let x = clear (judge_check n s ∷ 10 if ltb 1024 (t + triple_count (indices s)) ∷ []) h in
    record { sound = x.0; room = ltb-false 1024 (t + triple_count (indices s)) (unless 9 _ x.1.0) }

-- ---- the settings
pub record SoundSettings (s : List ℕ) : Type 0 where
  pub room : 12 ≤ length s
  pub within : out_of_range (settings_of s) ≡ false

pub settings_sound : (s : List ℕ) → judge_settings s ≡ 0 → SoundSettings s
unfolding judge_settings_up_to settings_of
settings_sound s h =
    let w = outside 1 65535 (two_bytes (drop 2 s)) in
    let a = ltb 1023 (two_bytes (drop 4 s)) in
    let k = outside 1 most_iterations (two_bytes (drop 6 s)) in
    let x = clear (1 if short 2 s ∷ 2 if not (eqb (two_bytes s) 0x4C53) ∷ 1 if short 4 s ∷ 11 if w ∷ 1 if short 6 s ∷ 11 if a ∷ 1 if short 8 s ∷ 11 if k ∷ 1 if short 12 s ∷ []) h in
    let late = x.1.1.1.1.1.1.1 in
    record { room = ltb-false (length s) 12 (unless 0 _ late.1.0); within = rw (unless 10 w x.1.1.1.0, unless 10 a x.1.1.1.1.1.0, unless 10 k late.0) }

-- ---- a frame
pub record SoundFrame (n : ℕ) (s : List ℕ) : Type 0 where
  pub whole : judge_whole n s ≡ 0
  pub allowed : some forbidden (costs_of n s) ≡ false

pub frame_sound : (n : ℕ) (s : List ℕ) → judge_frame n s ≡ 0 → SoundFrame n s
unfolding judge_frame
frame_sound n s h =
    let x = clear (judge_whole n s ∷ 13 if some forbidden (costs_of n s) ∷ []) h in
    record { whole = x.0; allowed = unless 12 (some forbidden (costs_of n s)) x.1.0 }

pub length_costs : (n : ℕ) (s : List ℕ) → length (costs_of n s) ≡ n
unfolding costs_of
length_costs n s = length-map (numbers n (drop 2 s)) twos_complement ∙ length_numbers n (drop 2 s)

pub take_costs : (n : ℕ) (s : List ℕ) (old : List ℤ) → take n (written (costs_of n s) old) ≡ costs_of n s
take_costs n s old = take_written (costs_of n s) old n (length_costs n s)

-- what a sound frame leaves in a buffer of costs
pub costs_left : (n : ℕ) (s : List ℕ) (old new : List ℤ) → judge_frame n s ≡ 0 → new ≡ accepted (judge_whole n s) (written (costs_of n s) old) old → take n new ≡ costs_of n s
costs_left n s old new h e = rw (e, (frame_sound n s h).whole) (take_costs n s old)
