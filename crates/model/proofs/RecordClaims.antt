-- The accepted bytes are the records of the sound codes: reading what was written, writing what was read, and the judgement. Assumes nothing.
use Rattle.integers.proofs.Prelude.{◌≡◌, refl, sym, ap, ap₂, ◌∙◌, true, false, not, List, [], ◌∷◌, ◌++◌, append_assoc, append-nil, ℕ, zero, suc, ◌+◌, ◌*◌}
use Rattle.integers.proofs.Prelude.{◌/◌, ◌%◌, ◌≤◌, ◌<◌, arith, ltb-false, le-ltb, leb-false, lt-leb, not-false, eqb, ltb, leb, length, drop, length-append}
use Rattle.integers.proofs.Prelude.{length-drop, drop_at, drop-drop, drop-cons, get_or-drop}
use mathlib.Core.Logic.{◌↔◌}
use Rattle.lists.specs.Entries.{some, total}
use Rattle.model.specs.Causes.{◌if◌, first_of, short, outside}
use Rattle.model.specs.Limits.{least_degree, most_degree}
use Rattle.model.specs.Code.{Code, triples}
use Rattle.model.specs.Records.{two_bytes, numbers, bit_count, check_count, degree, indices, after_check, checks_in, after_checks, code_of, covered}
use Rattle.model.specs.Records.{judge_header, judge_indices, judge_check, judge_checks, judge, two, bytes_of, record_of, check_records, records_of, record_size, records_size}
use Rattle.model.specs.Sound.{Rising, SoundCheck, SoundChecks, Sound}
use Rattle.model.specs.RecordClaims.{Bytes, indices_cause, check_cause, checks_cause, code_causes, judge_code, RecordClaims}
use Rattle.model.proofs.Causes.{first_in, first_skip, second_skip, clear, unless, within, inside}
use Rattle.model.proofs.Accepted as Accepted
use Rattle.model.proofs.Accepted.{length_numbers, length_checks, record_sound, each_covered, bytes_sound}
use Rattle.model.proofs.Order.{judge_order}
use Rattle.lists.proofs.Entries.{every_in_tab}

-- ---- sizes
length_bytes : (c : List ℕ) → length (bytes_of c) ≡ 2 * length c
unfolding bytes_of
length_bytes [] = refl
length_bytes (i ∷ c) = omega (arith, length_bytes c)

pub length_record : (c : List ℕ) → length (record_of c) ≡ record_size c
unfolding record_of
length_record c = omega (arith, length_bytes c)

pub length_records : (cs : List (List ℕ)) → length (check_records cs) ≡ total record_size cs
unfolding check_records
length_records [] = refl
length_records (c ∷ cs) = length-append (record_of c) (check_records cs) ∙ omega (arith, length_record c, length_records cs)

-- ---- reading what was written
two_back : (x : ℕ) (s : List ℕ) → two_bytes (two x ++ s) ≡ x
unfolding two_bytes
two_back x s = omega arith

numbers_back : (c s : List ℕ) → numbers (length c) (bytes_of c ++ s) ≡ c
unfolding numbers bytes_of
numbers_back [] s = refl
numbers_back (i ∷ c) s = ap₂ ◌∷◌ (two_back i (bytes_of c ++ s)) (numbers_back c s)

pub indices_back : (c s : List ℕ) → indices (record_of c ++ s) ≡ c
unfolding record_of
indices_back c s = numbers_back c s

pub after_back : (c s : List ℕ) → after_check (record_of c ++ s) ≡ s
unfolding record_of
after_back c s = drop_at (0x4C ∷ 0x43 ∷ length c ∷ bytes_of c) s (3 + 2 * length c) (omega (arith, length_bytes c))

checks_back : (cs : List (List ℕ)) → checks_in (length cs) (check_records cs) ≡ cs
unfolding checks_in check_records
checks_back [] = refl
checks_back (c ∷ cs) = rw (indices_back c (check_records cs), after_back c (check_records cs), checks_back cs)

whole_back : (cs : List (List ℕ)) → after_checks (length cs) (check_records cs) ≡ []
unfolding after_checks check_records
whole_back [] = refl
whole_back (c ∷ cs) = ap (after_checks (length cs)) (after_back c (check_records cs)) ∙ whole_back cs

bits_back : (k : Code) → bit_count (records_of k) ≡ k.bits
unfolding records_of
bits_back k = two_back k.bits _

count_back : (k : Code) → check_count (records_of k) ≡ length k.checks
unfolding records_of
count_back k = two_back (length k.checks) _

pub body_back : (k : Code) → drop 6 (records_of k) ≡ check_records k.checks
unfolding records_of
body_back k = refl

pub code_back : (k : Code) → code_of (records_of k) ≡ k
unfolding code_of
code_back k = rw (bits_back k, count_back k, body_back k, checks_back k.checks)

-- ---- the judgement of what was written
enough : (n : ℕ) (s : List ℕ) → n ≤ length s → short n s ≡ false
enough n s h = le-ltb (length s) n h

indices_judged : (n low : ℕ) (c s : List ℕ) → judge_indices n (length c) low (bytes_of c ++ s) ≡ indices_cause n low c
unfolding judge_indices indices_cause bytes_of
indices_judged n low [] s = refl
indices_judged n low (i ∷ c) s = rw (enough 2 (two i ++ (bytes_of c ++ s)) (omega arith), two_back i (bytes_of c ++ s), indices_judged n (suc i) c s)

pub check_judged : (n : ℕ) (c s : List ℕ) → judge_check n (record_of c ++ s) ≡ check_cause n c
unfolding judge_check check_cause record_of two_bytes
check_judged n c s =
    let r : List ℕ = 0x4C ∷ 0x43 ∷ length c ∷ (bytes_of c ++ s) in
    rw (enough 2 r (omega arith), enough 3 r (omega arith), indices_judged n 0 c s)

checks_judged : (n : ℕ) (cs : List (List ℕ)) → judge_checks n (length cs) (check_records cs) ≡ checks_cause n cs
unfolding judge_checks checks_cause check_records
checks_judged n [] = refl
checks_judged n (c ∷ cs) = rw (check_judged n c (check_records cs), after_back c (check_records cs), checks_judged n cs)

pub length_code : (k : Code) → length (records_of k) ≡ records_size k
unfolding records_of
length_code k = omega (arith, length_records k.checks)

mark_back : (k : Code) → two_bytes (records_of k) ≡ 0x4C48
unfolding records_of two_bytes
mark_back k = refl

header_judged : (k : Code) → judge_header (records_of k) ≡ first_of (3 if outside 3 4096 k.bits ∷ 3 if outside 1 2048 (length k.checks) ∷ [])
unfolding judge_header
header_judged k =
    let s = records_of k in
    let long = length_code k in
    rw (enough 2 s (omega arith), enough 4 s (omega arith), enough 6 s (omega arith), mark_back k, bits_back k, count_back k)
    (first_skip (3 if outside 3 4096 k.bits) (3 if outside 1 2048 (length k.checks) ∷ []))

pub judged : (k : Code) → judge (records_of k) ≡ judge_code k
unfolding judge judge_code
judged k =
    rw (bits_back k, count_back k, body_back k, checks_judged k.bits k.checks, whole_back k.checks, code_back k, header_judged k)
    (second_skip (first_of (3 if outside 3 4096 k.bits ∷ 3 if outside 1 2048 (length k.checks) ∷ [])) (checks_cause k.bits k.checks) (7 if ltb 8192 (triples k) ∷ 8 if not (covered k) ∷ [])
    ∙ first_in (3 if outside 3 4096 k.bits ∷ 3 if outside 1 2048 (length k.checks) ∷ []) (checks_cause k.bits k.checks ∷ 7 if ltb 8192 (triples k) ∷ 8 if not (covered k) ∷ []))

-- ---- a code that is judged 0 is sound, and the other way round
indices_clear : (n low : ℕ) (c : List ℕ) → (indices_cause n low c ≡ 0) ↔ Rising n low c
unfolding indices_cause
indices_clear n low [] = (λ h. tt, λ h. refl)
indices_clear n low (i ∷ c) = (
  λ h.
      let x = clear (5 if leb n i ∷ 6 if ltb i low ∷ indices_cause n (suc i) c ∷ []) h in
      (ltb-false i low (unless 5 _ x.1.0), leb-false n i (unless 4 _ x.0), (indices_clear n (suc i) c).0 x.1.1.0),
  λ r. rw (lt-leb n i r.1, le-ltb i low r.0, (indices_clear n (suc i) c).1 r.2),
)

pub check_clear : (n : ℕ) (c : List ℕ) → (check_cause n c ≡ 0) ↔ SoundCheck n c
unfolding check_cause
check_clear n c = (
  λ h.
      let x = clear (4 if outside least_degree most_degree (length c) ∷ indices_cause n 0 c ∷ []) h in
      let d = within least_degree most_degree (length c) (unless 3 _ x.0) in
      record { least = d.0; most = d.1; rising = (indices_clear n 0 c).0 x.1.0 },
  λ s. rw (inside least_degree most_degree (length c) s.least s.most, (indices_clear n 0 c).1 s.rising),
)

pub checks_clear : (n : ℕ) (cs : List (List ℕ)) → (checks_cause n cs ≡ 0) ↔ SoundChecks n cs
unfolding checks_cause
checks_clear n [] = (λ h. tt, λ h. refl)
checks_clear n (c ∷ cs) = (
  λ h. let x = clear (check_cause n c ∷ checks_cause n cs ∷ []) h in ((check_clear n c).0 x.0, (checks_clear n cs).0 x.1.0),
  λ s. rw ((check_clear n c).1 s.0, (checks_clear n cs).1 s.1),
)

pub all_covered : (k : Code) → ((b : ℕ) → b < k.bits → some (some (eqb b)) k.checks ≡ true) → covered k ≡ true
unfolding covered
all_covered k h = every_in_tab (λ b. some (some (eqb b)) k.checks) k.bits (λ b. b) h

pub sound : (k : Code) → (judge_code k ≡ 0) ↔ Sound k
unfolding judge_code
sound k = (
  λ h.
      let x = clear (code_causes k) h in
      let n = within 3 4096 k.bits (unless 2 _ x.0) in
      let m = within 1 2048 (length k.checks) (unless 2 _ x.1.0) in
      record {
        bits_least = n.0;
        bits_most = n.1;
        checks_least = m.0;
        checks_most = m.1;
        checks = (checks_clear k.bits k.checks).0 x.1.1.0;
        triples_most = ltb-false 8192 (triples k) (unless 6 _ x.1.1.1.0);
        covered = each_covered k (not-false (covered k) (unless 7 _ x.1.1.1.1.0));
      },
  λ s.
      rw (
        inside 3 4096 k.bits s.bits_least s.bits_most,
        inside 1 2048 (length k.checks) s.checks_least s.checks_most,
        (checks_clear k.bits k.checks).1 s.checks,
        le-ltb 8192 (triples k) s.triples_most,
        all_covered k s.covered,
      ),
)

-- ---- writing what was read
bytes_drop : (n : ℕ) (s : List ℕ) → Bytes s → Bytes (drop n s)
bytes_drop n s h i = rw (get_or-drop n s i 0) (h (n + i))

two_forth : (s : List ℕ) → Bytes s → 2 ≤ length s → two (two_bytes s) ++ drop 2 s ≡ s
unfolding two_bytes
two_forth [] h l = absurd (omega arith)
two_forth (x ∷ []) h l = absurd (omega arith)
two_forth (x ∷ y ∷ s) h l =
    let low : y < 256 = h 1 in
    let high : (256 * x + y) / 256 ≡ x = omega arith in
    let rest : (256 * x + y) % 256 ≡ y = omega arith in
    rw (high, rest)

bytes_forth : (d : ℕ) (s : List ℕ) → Bytes s → 2 * d ≤ length s → bytes_of (numbers d s) ++ drop (2 * d) s ≡ s
unfolding numbers bytes_of
bytes_forth zero s h l = refl
bytes_forth (suc d) s h l =
    let more = bytes_forth d (drop 2 s) (bytes_drop 2 s h) (omega (arith, length-drop 2 s)) in
    let e : 2 + 2 * d ≡ 2 * suc d = omega arith in
    ap (λ (r : List ℕ). two (two_bytes s) ++ (bytes_of (numbers d (drop 2 s)) ++ r)) (ap (λ (m : ℕ). drop m s) (sym e) ∙ sym (drop-drop (2 * d) 2 s))
    ∙ ap (λ (r : List ℕ). two (two_bytes s) ++ r) more ∙ two_forth s h (omega arith)

mark_forth : (m : ℕ) (s : List ℕ) → Bytes s → 2 ≤ length s → two_bytes s ≡ m → two m ++ drop 2 s ≡ s
mark_forth m s h l e = ap (λ (x : ℕ). two x ++ drop 2 s) (sym e) ∙ two_forth s h l

record_forth : (n : ℕ) (s : List ℕ) → Bytes s → judge_check n s ≡ 0 → record_of (indices s) ++ after_check s ≡ s
unfolding record_of
record_forth n s h j =
    let r = record_sound n s j in
    let l : 3 + 2 * degree s ≤ length s = r.room in
    let body : bytes_of (indices s) ++ after_check s ≡ drop 3 s
    = ap (λ (t : List ℕ). bytes_of (indices s) ++ t) (sym (drop-drop (2 * degree s) 3 s)) ∙ bytes_forth (degree s) (drop 3 s) (bytes_drop 3 s h) (omega (arith, length-drop 3 s)) in
    let tail : degree s ∷ drop 3 s ≡ drop 2 s = sym (drop-cons s 2 0 (omega arith)) in
    rw (length_numbers (degree s) (drop 3 s), body, tail) (mark_forth 0x4C43 s h (omega arith) r.mark)

bytes_after : (s : List ℕ) → Bytes s → Bytes (after_check s)
bytes_after s h = bytes_drop (3 + 2 * degree s) s h

checks_forth : (n m : ℕ) (s : List ℕ) → Bytes s → judge_checks n m s ≡ 0 → check_records (checks_in m s) ++ after_checks m s ≡ s
unfolding judge_checks checks_in after_checks check_records
checks_forth n zero s h j = refl
checks_forth n (suc m) s h j =
    let x = clear (judge_check n s ∷ judge_checks n m (after_check s) ∷ []) j in
    append_assoc (record_of (indices s)) (check_records (checks_in m (after_check s))) (after_checks m (after_check s))
    ∙ ap (λ (r : List ℕ). record_of (indices s) ++ r) (checks_forth n m (after_check s) (bytes_after s h) x.1.0)
    ∙ record_forth n s h x.0

pub none_left : (s : List ℕ) → length s ≡ 0 → s ≡ []
none_left [] e = refl
none_left (x ∷ s) e = absurd (omega arith)

pub records_back : (b : List ℕ) → Bytes b → judge b ≡ 0 → records_of (code_of b) ≡ b
unfolding records_of code_of
records_back b h j =
    let a = bytes_sound b j in
    let m = check_count b in
    let l : 6 ≤ length b = a.header.room in
    let body : check_records (checks_in m (drop 6 b)) ≡ drop 6 b
    = sym (append-nil _) ∙ ap (λ (r : List ℕ). check_records (checks_in m (drop 6 b)) ++ r) (sym (none_left (after_checks m (drop 6 b)) a.whole)) ∙ checks_forth (bit_count b) m (drop 6 b) (bytes_drop 6 b h) a.checks in
    let from : (i j : ℕ) → j ≡ i + 2 → j ≤ length b → two (two_bytes (drop i b)) ++ drop j b ≡ drop i b
    = λ i j e k.
    ap (λ (r : List ℕ). two (two_bytes (drop i b)) ++ r) (ap (λ (n : ℕ). drop n b) e ∙ sym (drop-drop 2 i b)) ∙ two_forth (drop i b) (bytes_drop i b h) (omega (arith, length-drop i b)) in
    rw (length_checks m (drop 6 b), body, from 4 6 (omega arith) (omega arith), from 2 4 (omega arith) (omega arith)) (mark_forth 0x4C48 b h (omega arith) a.header.mark)

-- ---- the records of a sound code are bytes
bytes_cons : (x : ℕ) (s : List ℕ) → x < 256 → Bytes s → Bytes (x ∷ s)
bytes_cons x s h k zero = h
bytes_cons x s h k (suc i) = k i

bytes_two : (x : ℕ) (s : List ℕ) → x < 65536 → Bytes s → Bytes (two x ++ s)
bytes_two x s h k =
    let high : x / 256 < 256 = omega arith in
    let low : x % 256 < 256 = omega arith in
    bytes_cons (x / 256) (x % 256 ∷ s) high (bytes_cons (x % 256) s low k)

indices_bytes : (n low : ℕ) (c s : List ℕ) → n ≤ 65536 → Rising n low c → Bytes s → Bytes (bytes_of c ++ s)
unfolding bytes_of
indices_bytes n low [] s l r h = h
indices_bytes n low (i ∷ c) s l r h = bytes_two i (bytes_of c ++ s) (omega (arith, r.1)) (indices_bytes n (suc i) c s l r.2 h)

checks_bytes : (n : ℕ) (cs : List (List ℕ)) → n ≤ 65536 → SoundChecks n cs → Bytes (check_records cs)
unfolding check_records record_of
checks_bytes n [] l s = λ i. omega arith
checks_bytes n (c ∷ cs) l s =
    let body = bytes_of c ++ check_records cs in
    let here : Bytes body = indices_bytes n 0 c (check_records cs) l s.0.rising (checks_bytes n cs l s.1) in
    let told : Bytes (length c ∷ body) = bytes_cons (length c) body (omega (arith, s.0.most)) here in
    bytes_cons 0x4C (0x43 ∷ length c ∷ body) (omega arith) (bytes_cons 0x43 (length c ∷ body) (omega arith) told)

pub records_bytes : (k : Code) → Sound k → Bytes (records_of k)
unfolding records_of
records_bytes k s =
    let body = check_records k.checks in
    let tail = two (length k.checks) ++ body in
    let here : Bytes tail = bytes_two (length k.checks) body (omega (arith, s.checks_most)) (checks_bytes k.bits k.checks (omega (arith, s.bits_most)) s.checks) in
    let told : Bytes (two k.bits ++ tail) = bytes_two k.bits tail (omega (arith, s.bits_most)) here in
    bytes_cons 0x4C (0x48 ∷ (two k.bits ++ tail)) (omega arith) (bytes_cons 0x48 (two k.bits ++ tail) (omega arith) told)

pub accepted : (k : Code) → (judge (records_of k) ≡ 0) ↔ Sound k
accepted k = (λ h. (sound k).0 (sym (judged k) ∙ h), λ s. judged k ∙ (sound k).1 s)

pub record_claims : RecordClaims
record_claims = record {
  order = judge_order;
  code_back = code_back;
  size = length_code;
  judged = judged;
  accepted = accepted;
  bytes = records_bytes;
  sound = Accepted.accepted;
  records_back = records_back;
}
