-- A record of the frame program is judged and read by its own bytes. Assumes nothing.
use Rattle.integers.proofs.Prelude.{◌≡◌, refl, sym, ap, ◌∙◌, Bool, true, false, not, List, [], ◌∷◌, ℕ, zero, suc, ◌+◌, ◌-◌, ◌*◌, ◌≤◌, ◌<◌, arith, ltb-true}
use Rattle.integers.proofs.Prelude.{ltb-false, lt-ltb, le-ltb, eqb, ltb, length, take, drop, length-take, length-drop, length-take-le, take_all, drop-drop}
use Rattle.integers.proofs.Prelude.{get_or-take, get_or-drop}
use native.Mathlib.Nat.{zero-add, suc-add}
use lib.Seq.{take-nil}
use Rattle.model.specs.Causes.{◌if◌, first_of, short, outside}
use Rattle.model.specs.Limits.{least_degree, most_degree}
use Rattle.model.specs.Code.{triple_count}
use Rattle.model.specs.Records.{two_bytes, numbers, degree, indices, judge_header, judge_indices, judge_check}
use Rattle.program.specs.Frames.{judge_held_header, judge_held_check, settings_of, judge_settings_up_to, judge_settings, frame_size, costs_of, judge_whole, judge_frame}
use Rattle.program.specs.FrameClaims.{Opened}
use Rattle.model.proofs.Accepted.{length_numbers}
use Rattle.model.proofs.Causes.{within, first_skip}

-- ---- the first bytes: lengths up to j, and numbers within, are those of the whole
pub short_take : (k j : ℕ) (s : List ℕ) → k ≤ j → short k (take j s) ≡ short k s
short_take k j s h = by (short k s) refl
  where
    by : (t : Bool) → short k s ≡ t → short k (take j s) ≡ t
    by true e = lt-ltb (length (take j s)) k (omega (arith, ltb-true (length s) k e, length-take j s))
    by false e = le-ltb (length (take j s)) k (omega (arith, ltb-false (length s) k e, length-take j s))

pub two_take : (k j : ℕ) (s : List ℕ) → k + 2 ≤ j → two_bytes (drop k (take j s)) ≡ two_bytes (drop k s)
unfolding two_bytes
two_take k j s h =
    rw (get_or-drop k (take j s) 0 0, get_or-drop k (take j s) 1 0, get_or-drop k s 0 0, get_or-drop k s 1 0, get_or-take j s (k + 0) 0 (omega arith), get_or-take j s (k + 1) 0 (omega arith))

pub drop_take : (k j : ℕ) (s : List ℕ) → drop k (take (k + j) s) ≡ take j (drop k s)
drop_take zero j s = ap (λ (m : ℕ). take m s) (zero-add j)
drop_take (suc k) j [] = rw (suc-add k j, take-nil {A = ℕ} j)
drop_take (suc k) j (x ∷ s) = rw (suc-add k j) (drop_take k j s)

pub drop_within : (k j : ℕ) (s : List ℕ) → k ≤ j → drop k (take j s) ≡ take (j - k) (drop k s)
drop_within k j s h = let e : j ≡ k + (j - k) = omega arith in ap (λ (m : ℕ). drop k (take m s)) e ∙ drop_take k (j - k) s

numbers_take : (d j : ℕ) (s : List ℕ) → 2 * d ≤ j → numbers d (take j s) ≡ numbers d s
unfolding numbers
numbers_take zero j s h = refl
numbers_take (suc d) j s h =
    rw (two_take 0 j s (omega arith), drop_within 2 j s (omega arith), numbers_take d (j - 2) (drop 2 s) (omega arith))

indices_take : (n d low j : ℕ) (s : List ℕ) → 2 * d ≤ j → judge_indices n d low (take j s) ≡ judge_indices n d low s
unfolding judge_indices
indices_take n zero low j s h = refl
indices_take n (suc d) low j s h =
    rw (short_take 2 j s (omega arith), two_take 0 j s (omega arith), drop_within 2 j s (omega arith), indices_take n d (suc (two_bytes s)) (j - 2) (drop 2 s) (omega arith))

-- ---- the header
pub header_take : (j : ℕ) (s : List ℕ) → 6 ≤ j → judge_header (take j s) ≡ judge_header s
unfolding judge_header
header_take j s h =
    rw (short_take 2 j s (omega arith), short_take 4 j s (omega arith), short_take 6 j s (omega arith), two_take 0 j s (omega arith), two_take 2 j s (omega arith), two_take 4 j s (omega arith))

pub held_header_take : (j : ℕ) (s : List ℕ) → 6 ≤ j → judge_held_header (take j s) ≡ judge_held_header s
unfolding judge_held_header
held_header_take j s h = rw (header_take j s h, two_take 2 j s (omega arith))

-- ---- the settings record
pub settings_take : (s : List ℕ) → judge_settings (take 12 s) ≡ judge_settings s
unfolding judge_settings_up_to
settings_take s =
    rw (
      short_take 2 12 s (omega arith),
      short_take 4 12 s (omega arith),
      short_take 6 12 s (omega arith),
      short_take 8 12 s (omega arith),
      short_take 12 12 s (omega arith),
      two_take 0 12 s (omega arith),
      two_take 2 12 s (omega arith),
      two_take 4 12 s (omega arith),
      two_take 6 12 s (omega arith),
    )

pub fields_take : (j : ℕ) (s : List ℕ) → 12 ≤ j → settings_of (take j s) ≡ settings_of s
unfolding settings_of
fields_take j s h =
    let low : two_bytes (drop 2 (drop 8 (take j s))) ≡ two_bytes (drop 2 (drop 8 s)) = rw (drop-drop 2 8 s, drop-drop 2 8 (take j s)) (two_take 10 j s (omega arith)) in
    rw (two_take 2 j s (omega arith), two_take 4 j s (omega arith), two_take 6 j s (omega arith), two_take 8 j s (omega arith), low)

-- ---- a frame record
pub costs_take : (n : ℕ) (s : List ℕ) → costs_of n (take (frame_size n) s) ≡ costs_of n s
unfolding costs_of
costs_take n s = rw (drop_take 2 (2 * n) s, numbers_take n (2 * n) (drop 2 s) (omega arith))

whole_take : (n : ℕ) (s : List ℕ) → judge_whole n (take (frame_size n) s) ≡ judge_whole n s
unfolding judge_whole
whole_take n s = rw (short_take 2 (frame_size n) s (omega arith), short_take (frame_size n) (frame_size n) s (omega arith), two_take 0 (frame_size n) s (omega arith))

pub frame_take : (n : ℕ) (s : List ℕ) → judge_frame n (take (frame_size n) s) ≡ judge_frame n s
unfolding judge_frame
frame_take n s = rw (whole_take n s, costs_take n s)

-- ---- a check record
pub degree_take : (j : ℕ) (s : List ℕ) → 3 ≤ j → degree (take j s) ≡ degree s
degree_take j s h = get_or-take j s 2 0 (omega arith)

pub indices_of_take : (j : ℕ) (s : List ℕ) → 3 + 2 * degree s ≤ j → indices (take j s) ≡ indices s
indices_of_take j s h = rw (degree_take j s (omega arith), drop_within 3 j s (omega arith), numbers_take (degree s) (j - 3) (drop 3 s) (omega arith))

pub check_take : (n j : ℕ) (s : List ℕ) → 3 + 2 * degree s ≤ j → judge_check n (take j s) ≡ judge_check n s
unfolding judge_check
check_take n j s h =
    rw (short_take 2 j s (omega arith), short_take 3 j s (omega arith), two_take 0 j s (omega arith), degree_take j s (omega arith), drop_within 3 j s (omega arith), indices_take n (degree s) 0 (j - 3) (drop 3 s) (omega arith))

-- a check's triples are told by its degree alone
pub count_take : (j : ℕ) (s : List ℕ) → 3 ≤ j → triple_count (indices (take j s)) ≡ triple_count (indices s)
count_take j s h = rw (length_numbers (degree (take j s)) (drop 3 (take j s)), length_numbers (degree s) (drop 3 s), degree_take j s h)

pub held_take : (n t j : ℕ) (s : List ℕ) → 3 + 2 * degree s ≤ j → judge_held_check n t (take j s) ≡ judge_held_check n t s
unfolding judge_held_check
held_take n t j s h = rw (check_take n j s h, count_take j s (omega arith))

-- ---- the mark and the degree of a check record, its first three bytes
abbrev wrong : List ℕ → Bool
wrong s = not (eqb (two_bytes s) 0x4C43)

abbrev outer : List ℕ → Bool
outer s = outside least_degree most_degree (degree s)

-- the cause in them, and 1 where that is only their end
abbrev opening : Bool → Bool → ℕ
opening v w = first_of (2 if v ∷ 4 if w ∷ 1 ∷ [])

-- indices of which no byte is there
none_there : (n d : ℕ) (s : List ℕ) → length s ≡ 0 → 1 ≤ d → judge_indices n d 0 s ≡ 1
unfolding judge_indices
none_there n zero s e h = absurd (omega arith)
none_there n (suc d) s e h = rw (lt-ltb (length s) 2 (omega arith))

module _ (n t : ℕ) (s : List ℕ) (long : 3 ≤ length s) where
  judged : (v w : Bool) → wrong s ≡ v → outer s ≡ w → judge_check n s ≡ first_of (2 if v ∷ 4 if w ∷ judge_indices n (degree s) 0 (drop 3 s) ∷ [])
  unfolding judge_check
  judged v w e f = rw (le-ltb (length s) 2 (omega arith), le-ltb (length s) 3 (omega arith), e, f)
      (first_skip (2 if v) (4 if w ∷ judge_indices n (degree s) 0 (drop 3 s) ∷ []))

  three_bytes : length s ≡ 3 → judge_held_check n t s ≡ opening (wrong s) (outer s)
  unfolding judge_held_check
  three_bytes l = by (wrong s) (outer s) refl refl
    where
      by : (v w : Bool) → wrong s ≡ v → outer s ≡ w → judge_held_check n t s ≡ opening v w
      by true w e f = rw (judged true w e f)
      by false true e f = rw (judged false true e f)
      by false false e f =
          let d = within least_degree most_degree (degree s) f in
          rw (judged false false e f, none_there n (degree s) (drop 3 s) (omega (arith, length-drop 3 s)) (omega (arith, d.0)))

  whole_record : (opening (wrong s) (outer s) ≡ 1 → ⊥) → judge_held_check n t s ≡ opening (wrong s) (outer s)
  unfolding judge_held_check
  whole_record h = by (wrong s) (outer s) refl refl
    where
      by : (v w : Bool) → wrong s ≡ v → outer s ≡ w → judge_held_check n t s ≡ opening v w
      by true w e f = rw (judged true w e f)
      by false true e f = rw (judged false true e f)
      by false false e f = absurd (h (rw (e, f)))

-- a cause in them that is not their end is the whole record's
pub three_judged : (n t : ℕ) (s : List ℕ) → (judge_held_check n t (take 3 s) ≡ 1 → length (take 3 s) < 3) → judge_held_check n t (take 3 s) ≡ judge_held_check n t s
three_judged n t s h = by (ltb (length s) 3) refl
  where
    by : (u : Bool) → ltb (length s) 3 ≡ u → judge_held_check n t (take 3 s) ≡ judge_held_check n t s
    by true e = ap (judge_held_check n t) (take_all 3 s (omega (arith, ltb-true (length s) 3 e)))
    by false e =
        let long = ltb-false (length s) 3 e in
        let l : length (take 3 s) ≡ 3 = length-take-le 3 s long in
        let first : judge_held_check n t (take 3 s) ≡ opening (wrong s) (outer s) = three_bytes n t (take 3 s) (omega arith) l ∙ rw (two_take 0 3 s (omega arith), degree_take 3 s (omega arith)) in
        first ∙ sym (whole_record n t s long (λ z. absurd (omega (arith, h (first ∙ z)))))

-- what is known of a check of which these are sound
pub opened_degree : (n t : ℕ) (b : List ℕ) → Opened n t b → (least_degree ≤ degree b) × (degree b ≤ most_degree)
opened_degree n t b o = within least_degree most_degree (degree b) (by (wrong b) (outer b) (sym (three_bytes n t b (omega (arith, o.three)) o.three) ∙ o.cut))
  where
    by : (v w : Bool) → opening v w ≡ 1 → w ≡ false
    by true w e = absurd (omega arith)
    by false true e = absurd (omega arith)
    by false false e = refl
