-- What the frame program is yet to write, by the bytes that it keeps: nothing but a refusal where the next record is refused, and frame by frame once code and
-- settings are accepted. Assumes nothing.
use Rattle.integers.proofs.Prelude.{◌≡◌, refl, sym, ◌∙◌, Bool, true, false, not, cond, ◌&&◌, ◌||◌, List, [], ◌∷◌, ◌++◌, append-nil, ℕ, zero, suc, ◌≤◌}
use Rattle.integers.proofs.Prelude.{◌<◌, arith, lt-ltb, le-ltb, eqb-true, eqb-false, eq-eqb, ne_eqb, eqb, ltb, length, take, drop, length-append, length-take}
use Rattle.integers.proofs.Prelude.{length-drop, take_at, drop_at}
use Rattle.model.specs.declared.Settings.{Settings}
use Rattle.model.specs.Limits.{base_iterations, most_iterations}
use Rattle.model.specs.Causes.{◌if◌, first_of, accepted}
use Rattle.model.specs.Code.{Code}
use Rattle.model.specs.Records.{two_bytes, bit_count, after_checks, code_of, covered, judge}
use Rattle.program.specs.Frames.{judge_held_header, judge_held_check, judge_held_checks, settings_of, judge_settings_up_to, judge_settings, frame_size, judge_whole, judge_frame, refusal, frame_lines}
use Rattle.program.specs.Frames.{after_code, frames_up_to, frames}
use Rattle.program.specs.FrameClaims.{Begun, Coded, Set, frame_text, goes_further}
use Rattle.program.proofs.FrameBytes.{held_header_take, settings_take, fields_take, costs_take, frame_take}
use Rattle.program.proofs.FrameCode.{header_more, bits_more, count_more, code_more, judged}

-- ---- the code records
pub header_refused : (s : List ℕ) (c : ℕ) → (c ≡ 0 → ⊥) → c ≡ judge_held_header (take 6 s) → frames s ≡ refusal c
unfolding frames_up_to
header_refused s zero h e = absurd (h refl)
header_refused s (suc c) h e = rw (← held_header_take 6 s (omega arith), ← e)

module _ (left t : ℕ) (b s : List ℕ) (g : Begun left t b) where
  abbrev later : List ℕ
  later = after_checks left s

  abbrev cause : ℕ
  cause = first_of (judge_held_checks (bit_count b) t left s ∷ 8 if not (covered (code_of (b ++ s))) ∷ judge_settings later ∷ [])

  begun_frames : frames (b ++ s) ≡ accepted cause (frame_lines (length (b ++ s)) (code_of (b ++ s)) (settings_of later) (drop 12 later)) (refusal cause)
  unfolding frames_up_to
  begun_frames = rw (header_more b s g.header, bits_more b s g.header, count_more b s g.header, g.checks s, g.after s)

pub check_refused : (left t : ℕ) (b s : List ℕ) → Begun (suc left) t b → (c : ℕ) → (c ≡ 0 → ⊥) → c ≡ judge_held_check (bit_count b) t s → frames (b ++ s) ≡ refusal c
unfolding judge_held_checks
check_refused left t b s g zero h e = absurd (h refl)
check_refused left t b s g (suc c) h e = rw (begun_frames (suc left) t b s g, ← e)

module _ (t : ℕ) (b : List ℕ) (g : Begun 0 t b) (s : List ℕ) where
  abbrev next : ℕ
  next = first_of (judge b ∷ judge_settings s ∷ [])

  coded_frames : frames (b ++ s) ≡ accepted next (frame_lines (length (b ++ s)) (code_of b) (settings_of s) (drop 12 s)) (refusal next)
  unfolding judge_held_checks after_checks
  coded_frames = rw (begun_frames 0 t b s g, code_more t b g s, judged t b g)

  pub code_refused : (c : ℕ) → (c ≡ 0 → ⊥) → c ≡ judge b → frames (b ++ s) ≡ refusal c
  code_refused zero h e = absurd (h refl)
  code_refused (suc c) h e = rw (coded_frames, ← e)

-- ---- the settings record
pub settings_refused : (t : ℕ) (b s : List ℕ) → Coded t b → (c : ℕ) → (c ≡ 0 → ⊥) → c ≡ judge_settings (take 12 s) → frames (b ++ s) ≡ refusal c
settings_refused t b s k zero h e = absurd (h refl)
settings_refused t b s k (suc c) h e = rw (coded_frames t b k.begun s, k.sound, ← settings_take s, ← e)

module _ (t : ℕ) (b r s : List ℕ) (k : Coded t b) (o : Set r) where
  own : take 12 (r ++ s) ≡ r
  own = take_at r s 12 o.twelve

  set_frames : frames (b ++ (r ++ s)) ≡ frame_lines (length (b ++ (r ++ s))) (code_of b) (settings_of r) s
  set_frames =
      let sound : judge_settings (r ++ s) ≡ 0 = sym (settings_take (r ++ s)) ∙ rw own o.sound in
      let fields : settings_of (r ++ s) ≡ settings_of r = sym (fields_take 12 (r ++ s) (omega arith)) ∙ rw own in
      rw (coded_frames t b k.begun (r ++ s), k.sound, sound, fields, drop_at r s 12 o.twelve)

-- ---- the frames
module _ (k : Code) (o : Settings) where
  -- as many as the bytes that are left, or more, are enough
  enough : (f g : ℕ) (s : List ℕ) → length s ≤ f → length s ≤ g → frame_lines f k o s ≡ frame_lines g k o s
  unfolding frame_lines
  enough zero zero s x y = refl
  enough zero (suc g) s x y = rw (eq-eqb (length s) 0 (omega arith))
  enough (suc f) zero s x y = rw (eq-eqb (length s) 0 (omega arith))
  enough (suc f) (suc g) s x y =
      let l = length-drop (frame_size k.bits) s in
      rw (enough f g (drop (frame_size k.bits) s) (omega arith) (omega arith))

  -- one frame, and what follows it
  first_frame : (s more : List ℕ) → frame_lines (length s) k o (drop (frame_size k.bits) s) ≡ more
      → frame_lines (suc (length s)) k o s ≡ frame_text k o s ++ cond (goes_further k.bits s) more []
  unfolding frame_lines
  first_frame s more h = by (eqb (length s) 0) refl (eqb (judge_frame k.bits s) 0) refl (eqb (judge_frame k.bits s) 13) refl
    where
      by : (u : Bool) → eqb (length s) 0 ≡ u → (v : Bool) → eqb (judge_frame k.bits s) 0 ≡ v → (w : Bool) → eqb (judge_frame k.bits s) 13 ≡ w
          → frame_lines (suc (length s)) k o s ≡ frame_text k o s ++ cond (goes_further k.bits s) more []
      by true e v f w g = rw e
      by false e true f w g = rw (e, f, h)
      by false e false f true g = rw (e, f, g, h)
      by false e false f false g = rw (e, f, g) (sym (append-nil (refusal (judge_frame k.bits s))))

-- nothing came exactly where nothing is left
came_none : (j : ℕ) (s : List ℕ) → 1 ≤ j → eqb (length (take j s)) 0 ≡ eqb (length s) 0
came_none j s h = by (eqb (length s) 0) refl
  where
    by : (t : Bool) → eqb (length s) 0 ≡ t → eqb (length (take j s)) 0 ≡ t
    by true e = eq-eqb (length (take j s)) 0 (omega (arith, eqb-true (length s) 0 e, length-take j s))
    by false e = ne_eqb (length (take j s)) 0 (λ z. eqb-false (length s) 0 e (omega (arith, z, length-take j s)))

text_take : (k : Code) (o : Settings) (s : List ℕ) → frame_text k o (take (frame_size k.bits) s) ≡ frame_text k o s
text_take k o s = rw (came_none (frame_size k.bits) s (omega arith), frame_take k.bits s, costs_take k.bits s)

goes_take : (n : ℕ) (s : List ℕ) → goes_further n (take (frame_size n) s) ≡ goes_further n s
goes_take n s = rw (came_none (frame_size n) s (omega arith), frame_take n s)

-- of an input that begins with an accepted code and accepted settings: what the bytes of its first frame make, then what an input with the frames after it makes
pub frame_after_frame : (t : ℕ) (b r s : List ℕ) → Coded t b → Set r → let n = (code_of b).bits in let came = take (frame_size n) s in
    frames (b ++ (r ++ s)) ≡ frame_text (code_of b) (settings_of r) came ++ cond (goes_further n came) (frames (b ++ (r ++ drop (frame_size n) s))) []
frame_after_frame t b r s k o =
    let n = (code_of b).bits in
    let d = drop (frame_size n) s in
    let l = length-drop (frame_size n) s in
    let whole = length-append b (r ++ s) in
    let rest = length-append r s in
    let whole' = length-append b (r ++ d) in
    let rest' = length-append r d in
    let more : frame_lines (length s) (code_of b) (settings_of r) d ≡ frames (b ++ (r ++ d)) =
    enough (code_of b) (settings_of r) (length s) (length (b ++ (r ++ d))) d (omega arith) (omega arith) ∙ sym (set_frames t b r d k o) in
    set_frames t b r s k o ∙ enough (code_of b) (settings_of r) (length (b ++ (r ++ s))) (suc (length s)) s (omega arith) (omega arith)
    ∙ first_frame (code_of b) (settings_of r) s (frames (b ++ (r ++ d))) more ∙ rw (← text_take (code_of b) (settings_of r) s, ← goes_take n s)

-- a frame that is cut ends the program
pub cut_ends : (n : ℕ) (b : List ℕ) → length b < frame_size n → goes_further n b ≡ false
unfolding judge_frame judge_whole
cut_ends n b h = by (ltb (length b) 2) refl (not (eqb (two_bytes b) 0x4C46)) refl (eqb (length b) 0)
  where
    by : (u : Bool) → ltb (length b) 2 ≡ u → (v : Bool) → not (eqb (two_bytes b) 0x4C46) ≡ v → (w : Bool) → (not w && (eqb (judge_frame n b) 0 || eqb (judge_frame n b) 13)) ≡ false
    by u e v f true = refl
    by true e v f false = rw e
    by false e true f false = rw (e, f)
    by false e false f false = rw (e, f, lt-ltb (length b) (frame_size n) h)

-- ---- a K of up to 1,000 is within both limits
pub lines_as_before : (s : List ℕ) → (settings_of (after_code s)).limit ≤ base_iterations → frames s ≡ frames_up_to base_iterations s
unfolding frames_up_to judge_settings_up_to settings_of
lines_as_before s h =
    let K = two_bytes (drop 6 (after_code s)) in
    rw (le-ltb most_iterations K (omega arith), le-ltb base_iterations K h)
