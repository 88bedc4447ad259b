-- The frame program between two reads: what the bytes are that it keeps, and what it writes for the bytes of a frame, as contracts of `session` cite it.
-- Definitions only.
use Rattle.std.specs.Prelude.{Bool, cond, not, ◌&&◌, ◌||◌, List, [], ◌++◌, ◌≡◌, ℕ, ◌+◌, ◌*◌, ◌≤◌, eqb, ℤ, length, take, drop}
use Rattle.model.specs.declared.Settings.{Settings}
use Rattle.model.specs.Code.{Code, triples}
use Rattle.model.specs.Records.{bit_count, check_count, after_checks, code_of, judge}
use Rattle.model.specs.Calls.{Lists, HasRoom, decoder_cause, decoder}
use Rattle.program.specs.Frames.{held_bits, held_triples, judge_held_header, judge_held_check, judge_held_checks, judge_settings, costs_of, judge_frame}
use Rattle.program.specs.Frames.{refusal, line, frame_line}

-- ---- the bytes kept, which the input begins with

-- there is room for so many, and for those that are asked for
abbrev pub buffer_size : ℕ
buffer_size = 10260

-- a header and check records, sound and within the program's room; `left` checks are to come, t triples are held. Of every input that begins with b,
-- the bytes after b tell what is left to judge of the checks and what follows them.
pub record Begun (left t : ℕ) (b : List ℕ) : Type 0 where
  pub header : judge_held_header b ≡ 0
  pub checks : (s : List ℕ) → judge_held_checks (bit_count b) 0 (check_count b) (drop 6 (b ++ s)) ≡ judge_held_checks (bit_count b) t left s
  pub after : (s : List ℕ) → after_checks (check_count b) (drop 6 (b ++ s)) ≡ after_checks left s
  pub few : t ≤ held_triples
  pub size : length b ≤ 6 + 9 * t

-- the mark and the degree of a check, t triples being held: both are sound, and the only cause is that the record ends there
pub record Opened (n t : ℕ) (b : List ℕ) : Type 0 where
  pub three : length b ≡ 3
  pub cut : judge_held_check n t b ≡ 1

-- a code, accepted, of t triples
pub record Coded (t : ℕ) (b : List ℕ) : Type 0 where
  pub begun : Begun 0 t b
  pub sound : judge b ≡ 0

-- a settings record, accepted
pub record Set (b : List ℕ) : Type 0 where
  pub twelve : length b ≡ 12
  pub sound : judge_settings b ≡ 0

-- ---- the bytes b that came for a frame: as many as it has, or fewer where the input ended

-- "A line for each frame … A refusal prints R and its number … An end of input where a frame's mark is due ends the program without a line."
abbrev pub frame_text : Code → Settings → List ℕ → List ℕ
frame_text k o b =
    let c = judge_frame k.bits b in
    cond (eqb (length b) 0) []
    (cond (eqb c 0) (frame_line k o (costs_of k.bits b))
    (refusal c))

-- "only R 13 lets it go on"
abbrev pub goes_further : ℕ → List ℕ → Bool
goes_further n b = not (eqb (length b) 0) && (eqb (judge_frame n b) 0 || eqb (judge_frame n b) 13)

-- ---- a sound frame
-- a code, accepted, that the program has room for
pub record HeldCode (b : List ℕ) : Type 0 where
  pub sound : judge b ≡ 0
  pub bits : (code_of b).bits ≤ held_bits
  pub triples : triples (code_of b) ≤ held_triples

-- what the lists that are lent to the decoder hold at least: 1,024 triples and 512 bits need no more
abbrev pub Room : Lists → Type 0
Room l = HasRoom held_triples (held_bits + held_triples) held_bits l

-- of an accepted code b, accepted settings and a sound frame: the decoder refuses nothing, so that the frame's line, from its answer and the first n entries
-- of the word list, whatever stood there, is the definition's
pub record HeldFrame (b : List ℕ) (o : Settings) (costs : List ℤ) (l : Lists) : Type 0 where
  pub accepted : decoder_cause b o costs l ≡ 0
  pub prints : line (decoder b o costs l).answer (take (code_of b).bits (decoder b o costs l).lists.word) ≡ frame_line (code_of b) o costs
