-- Document 01, 'The frame program': what it writes for a whole input. Definitions only.
use Rattle.std.specs.Prelude.{not, cond, List, [], ◌∷◌, ◌++◌, map, ℕ, zero, suc, ◌+◌, ◌-◌, ◌*◌, ltb, eqb, ℤ, pos, negsuc, length, drop}
use Rattle.lists.specs.Entries.{some}
use Rattle.quotient.specs.Quotient.{quotient}
use Rattle.model.specs.declared.Settings.{Settings}
use Rattle.model.specs.Limits.{most_weight, most_ratio, most_iterations}
use Rattle.model.specs.Causes.{◌if◌, first_of, short, outside, accepted}
use Rattle.model.specs.Code.{Code, triple_count}
use Rattle.model.specs.Records.{two_bytes, numbers, bit_count, check_count, indices, after_check, after_checks, code_of, judge_header, judge_check, covered}
use Rattle.model.specs.Splitting.{system_of}
use Rattle.model.specs.Run.{run}
use Rattle.model.specs.Calls.{forbidden, Lists, Answer, decoded_by}
use Rattle.model.specs.Text.{decimal}

-- ---- code records: "It holds 1,024 triples and 512 bits: a sound header with more bits, or the sound check that brings more triples,
-- gets R 10 right there."
abbrev pub held_bits : ℕ
held_bits = 512

abbrev pub held_triples : ℕ
held_triples = 1024

unfoldable pub judge_held_header : List ℕ → ℕ
judge_held_header s = first_of (judge_header s ∷ 10 if ltb held_bits (bit_count s) ∷ [])

-- of the check record that s begins with, t triples being held
unfoldable pub judge_held_check : ℕ → ℕ → List ℕ → ℕ
judge_held_check n t s = first_of (judge_check n s ∷ 10 if ltb held_triples (t + triple_count (indices s)) ∷ [])

unfoldable pub judge_held_checks : ℕ → ℕ → ℕ → List ℕ → ℕ
judge_held_checks n t zero s = 0
judge_held_checks n t (suc m) s = first_of (judge_held_check n t s ∷ judge_held_checks n (t + triple_count (indices s)) m (after_check s) ∷ [])

-- ---- "a settings record (mark 0x4C53, then W, A, K of two bytes, X of four)", that s begins with
abbrev pub four_bytes : List ℕ → ℕ
four_bytes s = 65536 * two_bytes s + two_bytes (drop 2 s)

unfoldable pub settings_of : List ℕ → Settings
settings_of s = record { weight = two_bytes (drop 2 s); ratio = two_bytes (drop 4 s); limit = two_bytes (drop 6 s); tolerance = four_bytes (drop 8 s) }

-- "whose fields are judged one by one", where K goes to `most`
unfoldable pub judge_settings_up_to : ℕ → List ℕ → ℕ
judge_settings_up_to most s =
    first_of (
    1 if short 2 s ∷ 2 if not (eqb (two_bytes s) 0x4C53) ∷
    1 if short 4 s ∷ 11 if outside 1 most_weight (two_bytes (drop 2 s)) ∷
    1 if short 6 s ∷ 11 if ltb most_ratio (two_bytes (drop 4 s)) ∷
    1 if short 8 s ∷ 11 if outside 1 most (two_bytes (drop 6 s)) ∷
    1 if short 12 s ∷ [])

abbrev pub judge_settings : List ℕ → ℕ
judge_settings = judge_settings_up_to most_iterations

-- ---- "frame records (mark 0x4C46, n costs of two bytes, two's complement)", that s begins with
abbrev pub frame_size : ℕ → ℕ
frame_size n = 2 + 2 * n

-- x, or x − 65,536
unfoldable pub twos_complement : ℕ → ℤ
twos_complement x = cond (ltb x 32768) (pos x) (negsuc (65535 - x))

unfoldable pub costs_of : ℕ → List ℕ → List ℤ
costs_of n s = map twos_complement (numbers n (drop 2 s))

unfoldable pub judge_whole : ℕ → List ℕ → ℕ
judge_whole n s = first_of (1 if short 2 s ∷ 2 if not (eqb (two_bytes s) 0x4C46) ∷ 1 if short (frame_size n) s ∷ [])

-- "costs are judged when their frame is whole"
unfoldable pub judge_frame : ℕ → List ℕ → ℕ
judge_frame n s = first_of (judge_whole n s ∷ 13 if some forbidden (costs_of n s) ∷ [])

-- ---- lines, in ASCII
abbrev pub glyph : ℕ → ℕ
glyph b = cond (eqb b 0) 48 49

-- "A refusal prints R and its number"
unfoldable pub refusal : ℕ → List ℕ
refusal c = 82 ∷ 32 ∷ (decimal c ++ (10 ∷ []))

-- a letter, "k, settled 1 or 0, then the bits or the place", which are `last`
unfoldable pub opening : ℕ → ℕ → ℕ → List ℕ
opening letter k settled = letter ∷ 32 ∷ (decimal k ++ (32 ∷ (decimal settled ++ (32 ∷ []))))

unfoldable pub spaced : ℕ → Answer → List ℕ → List ℕ
spaced letter a last = opening letter a.k a.settled ++ (last ++ (10 ∷ []))

-- "letter W, U or N (word, undecided, not a codeword)"
unfoldable pub line : Answer → List ℕ → List ℕ
line a w =
    cond (eqb a.number 0) (spaced 87 a (map glyph w))
    (cond (eqb a.number 16) (spaced 85 a (decimal a.place))
    (cond (eqb a.number 17) (spaced 78 a (decimal a.place))
    (refusal a.number)))

-- ---- the program
abbrev pub no_lists : Lists
no_lists = record { triples = []; counts = []; sums = []; values = []; rows = []; word = [] }

-- "A line for each frame"
unfoldable pub frame_line : Code → Settings → List ℤ → List ℕ
frame_line k o costs = let d = decoded_by k (run quotient (system_of k) o costs) no_lists in line d.answer d.lists.word

-- "to the end … only R 13 lets it go on … An end of input where a frame's mark is due ends the program without a line."
-- At most so many frames, which a frame's bytes are more than.
unfoldable pub frame_lines : ℕ → Code → Settings → List ℕ → List ℕ
frame_lines zero k o s = []
frame_lines (suc most) k o s =
    let c = judge_frame k.bits s in
    let more = frame_lines most k o (drop (frame_size k.bits) s) in
    cond (eqb (length s) 0) []
    (cond (eqb c 0) (frame_line k o (costs_of k.bits s) ++ more)
    (cond (eqb c 13) (refusal c ++ more)
    (refusal c)))

-- where the settings record of the input s begins
abbrev pub after_code : List ℕ → List ℕ
after_code s = after_checks (check_count s) (drop 6 s)

-- what is written for the input s, where K goes to `most`
unfoldable pub frames_up_to : ℕ → List ℕ → List ℕ
frames_up_to most s =
    let settings = after_code s in
    let checks = judge_held_checks (bit_count s) 0 (check_count s) (drop 6 s) in
    let c = first_of (judge_held_header s ∷ checks ∷ 8 if not (covered (code_of s)) ∷ judge_settings_up_to most settings ∷ []) in
    accepted c (frame_lines (length s) (code_of s) (settings_of settings) (drop 12 settings)) (refusal c)

abbrev pub frames : List ℕ → List ℕ
frames = frames_up_to most_iterations
