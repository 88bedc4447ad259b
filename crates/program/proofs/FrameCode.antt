-- The code records that the frame program keeps: one more check, and the whole code. Assumes nothing.
use Rattle.integers.proofs.Prelude.{◌≡◌, refl, sym, ap, ◌∙◌, false, not, List, [], ◌∷◌, ◌++◌, append_assoc, append-nil, ℕ, zero, suc, ◌+◌, ◌*◌, ◌≤◌}
use Rattle.integers.proofs.Prelude.{arith, le-ltb, ltb, length, drop, length-append, drop_at, take-append_seam}
use lib.Seq.{drop-append-le}
use Rattle.lists.specs.Entries.{total}
use Rattle.model.specs.Causes.{◌if◌}
use Rattle.model.specs.Code.{triple_count, triples}
use Rattle.model.specs.Records.{bit_count, check_count, degree, indices, after_check, checks_in, after_checks, code_of, judge_checks, covered, judge}
use Rattle.program.specs.Frames.{judge_held_header, judge_held_check, judge_held_checks}
use Rattle.program.specs.FrameClaims.{Begun, HeldCode}
use Rattle.model.proofs.Causes.{only, clear}
use Rattle.model.proofs.Accepted.{header_sound, record_sound, length_numbers}
use Rattle.program.proofs.Frames.{header_held, check_held}
use Rattle.program.proofs.FrameBytes.{two_take, held_header_take, indices_of_take, degree_take, held_take}

-- ---- whatever follows a header
module _ (b s : List ℕ) (h : judge_held_header b ≡ 0) where
  room : 6 ≤ length b
  room = (header_sound b (header_held b h).sound).room

  pub header_more : judge_held_header (b ++ s) ≡ 0
  header_more = sym (held_header_take (length b) (b ++ s) room) ∙ rw (take-append_seam b s) h

  pub bits_more : bit_count (b ++ s) ≡ bit_count b
  bits_more = sym (two_take 2 (length b) (b ++ s) (omega (arith, room))) ∙ rw (take-append_seam b s)

  pub count_more : check_count (b ++ s) ≡ check_count b
  count_more = sym (two_take 4 (length b) (b ++ s) (omega (arith, room))) ∙ rw (take-append_seam b s)

  pub body_more : drop 6 (b ++ s) ≡ drop 6 b ++ s
  body_more = drop-append-le 6 b s room

-- ---- whatever follows a check
module _ (n t : ℕ) (r s : List ℕ) (h : judge_held_check n t r ≡ 0) where
  there : 3 + 2 * degree r ≤ length r
  there = (record_sound n r (check_held n t r h).sound).room

  degree_more : degree (r ++ s) ≡ degree r
  degree_more = sym (degree_take (length r) (r ++ s) (omega (arith, there))) ∙ rw (take-append_seam r s)

  within : 3 + 2 * degree (r ++ s) ≤ length r
  within = omega (arith, there, degree_more)

  check_more : judge_held_check n t (r ++ s) ≡ 0
  check_more = sym (held_take n t (length r) (r ++ s) within) ∙ rw (take-append_seam r s) h

  indices_more : indices (r ++ s) ≡ indices r
  indices_more = sym (indices_of_take (length r) (r ++ s) within) ∙ rw (take-append_seam r s)

  after_more : after_check (r ++ s) ≡ after_check r ++ s
  after_more = rw degree_more (drop-append-le (3 + 2 * degree r) r s there)

-- ---- one more check
pub held_next : (left t : ℕ) (b r : List ℕ) → Begun (suc left) t b → judge_held_check (bit_count b) t r ≡ 0 → length r ≡ 3 + 2 * degree r
    → Begun left (t + triple_count (indices r)) (b ++ r)
unfolding judge_held_checks after_checks
held_next left t b r g h l =
    let n = bit_count b in
    let one = check_held n t r h in
    let sound = record_sound n r one.sound in
    let past : (s : List ℕ) → after_check (r ++ s) ≡ s = λ s. rw (degree_more n t r s h) (drop_at r s (3 + 2 * degree r) l) in
    record {
      header = header_more b r g.header;
      checks = λ s. rw (bits_more b r g.header, count_more b r g.header, append_assoc b r s, g.checks (r ++ s), check_more n t r s h, indices_more n t r s h, past s) (only (judge_held_checks n (t + triple_count (indices r)) left s));
      after = λ s. rw (count_more b r g.header, append_assoc b r s, g.after (r ++ s), past s);
      few = one.room;
      size = omega (arith, g.size, sound.least, length_numbers (degree r) (drop 3 r), length-append b r);
    }

-- ---- the whole code: check records that are sound are so by their own bytes
record Checks (n t m : ℕ) (x s : List ℕ) : Type 0 where
  pub sound : judge_checks n m x ≡ 0
  pub checks : checks_in m (x ++ s) ≡ checks_in m x
  pub room : t + total triple_count (checks_in m x) ≤ 1024

checks_held : (n t m : ℕ) (x s : List ℕ) → t ≤ 1024 → judge_held_checks n t m x ≡ 0 → Checks n t m x s
unfolding judge_held_checks judge_checks checks_in
checks_held n t zero x s k h = record { sound = refl; checks = refl; room = omega arith }
checks_held n t (suc m) x s k h =
    let more = t + triple_count (indices x) in
    let c = clear (judge_held_check n t x ∷ judge_held_checks n more m (after_check x) ∷ []) h in
    let one = check_held n t x c.0 in
    let rest = checks_held n more m (after_check x) s one.room c.1.0 in
    record {
      sound = rw (one.sound, rest.sound);
      checks = rw (indices_more n t x s c.0, after_more n t x s c.0, rest.checks);
      room = omega (arith, rest.room);
    }

module _ (t : ℕ) (b : List ℕ) (g : Begun 0 t b) where
  abbrev n : ℕ
  n = bit_count b

  abbrev m : ℕ
  m = check_count b

  all_held : (s : List ℕ) → Checks n 0 m (drop 6 b) s
  unfolding judge_held_checks
  all_held s = checks_held n 0 m (drop 6 b) s (omega arith) (ap (λ (l : List ℕ). judge_held_checks n 0 m (drop 6 l)) (sym (append-nil b)) ∙ g.checks [])

  none_after : after_checks m (drop 6 b) ≡ []
  unfolding after_checks
  none_after = ap (λ (l : List ℕ). after_checks m (drop 6 l)) (sym (append-nil b)) ∙ g.after []

  pub code_more : (s : List ℕ) → code_of (b ++ s) ≡ code_of b
  unfolding code_of
  code_more s = rw (bits_more b s g.header, count_more b s g.header, body_more b s g.header, (all_held s).checks)

  bits_most : (code_of b).bits ≤ 512
  unfolding code_of
  bits_most = (header_held b g.header).room

  triples_most : triples (code_of b) ≤ 1024
  unfolding code_of
  triples_most = omega (arith, (all_held []).room)

  -- all causes but 8 are judged
  pub judged : judge b ≡ 8 if not (covered (code_of b))
  unfolding judge
  judged =
      let few : ltb 8192 (triples (code_of b)) ≡ false = le-ltb 8192 (triples (code_of b)) (omega (arith, triples_most)) in
      rw ((header_held b g.header).sound, (all_held []).sound, none_after, few) (only (8 if not (covered (code_of b))))

  pub code_held : judge b ≡ 0 → HeldCode b
  code_held h = record { sound = h; bits = bits_most; triples = triples_most }
