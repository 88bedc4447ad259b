-- What an accepted code, header or check record is: the judgement's tests, read backwards. Assumes nothing.
use Rattle.integers.proofs.Prelude.{◌≡◌, refl, sym, ap, ◌∙◌, Bool, true, not, List, [], ◌∷◌, ℕ, zero, suc, ◌+◌, ◌*◌, ◌≤◌, ◌<◌, arith, ltb-false, leb-false}
use Rattle.integers.proofs.Prelude.{eqb-true, not-false, eqb, ltb, leb, length, drop, length-drop}
use Rattle.lists.specs.Tabulated.{tab}
use Rattle.lists.specs.Entries.{some}
use Rattle.lists.proofs.Tabulated.{length_tab, get_or_tab}
use Rattle.lists.proofs.Entries.{every_at}
use Rattle.model.specs.Causes.{◌if◌, short, outside}
use Rattle.model.specs.Limits.{least_degree, most_degree}
use Rattle.model.specs.Code.{Code, triples}
use Rattle.model.specs.Records.{two_bytes, numbers, bit_count, check_count, degree, indices, after_check, checks_in, after_checks, code_of, judge_header, judge_indices, judge_check, judge_checks, covered, judge}
use Rattle.model.specs.Sound.{Rising, SoundCheck, SoundChecks, Sound}
use Rattle.model.proofs.Causes.{clear, unless, within}

-- ---- the header
pub record SoundHeader (s : List ℕ) : Type 0 where
  pub mark : two_bytes s ≡ 0x4C48
  pub room : 6 ≤ length s
  pub bits_least : 3 ≤ bit_count s
  pub bits_most : bit_count s ≤ 4096
  pub checks_least : 1 ≤ check_count s
  pub checks_most : check_count s ≤ 2048

pub header_sound : (s : List ℕ) → judge_header s ≡ 0 → SoundHeader s
unfolding judge_header
header_sound s h =
    let x = clear (1 if short 2 s ∷ 2 if not (eqb (two_bytes s) 0x4C48) ∷ 1 if short 4 s ∷ 3 if outside 3 4096 (bit_count s) ∷ 1 if short 6 s ∷ 3 if outside 1 2048 (check_count s) ∷ []) h in
    let n = within 3 4096 (bit_count s) (unless 2 _ x.1.1.1.0) in
    let m = within 1 2048 (check_count s) (unless 2 _ x.1.1.1.1.1.0) in
    record {
      mark = eqb-true (two_bytes s) 0x4C48 (not-false _ (unless 1 _ x.1.0));
      room = ltb-false (length s) 6 (unless 0 _ x.1.1.1.1.0);
      bits_least = n.0;
      bits_most = n.1;
      checks_least = m.0;
      checks_most = m.1;
    }

-- ---- a check record
pub record SoundRecord (n : ℕ) (s : List ℕ) : Type 0 where
  pub mark : two_bytes s ≡ 0x4C43
  pub room : 3 + 2 * degree s ≤ length s
  pub least : least_degree ≤ degree s
  pub most : degree s ≤ most_degree
  pub rising : Rising n 0 (indices s)

pub length_numbers : (d : ℕ) (s : List ℕ) → length (numbers d s) ≡ d
unfolding numbers
length_numbers zero s = refl
length_numbers (suc d) s = ap suc (length_numbers d (drop 2 s))

indices_sound : (n d low : ℕ) (s : List ℕ) → judge_indices n d low s ≡ 0 → (2 * d ≤ length s) × Rising n low (numbers d s)
unfolding judge_indices numbers
indices_sound n zero low s h = (omega arith, tt)
indices_sound n (suc d) low s h =
    let x = clear (1 if short 2 s ∷ 5 if leb n (two_bytes s) ∷ 6 if ltb (two_bytes s) low ∷ judge_indices n d (suc (two_bytes s)) (drop 2 s) ∷ []) h in
    let room = ltb-false (length s) 2 (unless 0 _ x.0) in
    let below = leb-false n (two_bytes s) (unless 4 _ x.1.0) in
    let above = ltb-false (two_bytes s) low (unless 5 _ x.1.1.0) in
    let more = indices_sound n d (suc (two_bytes s)) (drop 2 s) x.1.1.1.0 in
    (omega (arith, more.0, length-drop 2 s), (above, below, more.1))

pub record_sound : (n : ℕ) (s : List ℕ) → judge_check n s ≡ 0 → SoundRecord n s
unfolding judge_check
record_sound n s h =
    let x = clear (1 if short 2 s ∷ 2 if not (eqb (two_bytes s) 0x4C43) ∷ 1 if short 3 s ∷ 4 if outside least_degree most_degree (degree s) ∷ judge_indices n (degree s) 0 (drop 3 s) ∷ []) h in
    let d = within least_degree most_degree (degree s) (unless 3 _ x.1.1.1.0) in
    let three = ltb-false (length s) 3 (unless 0 _ x.1.1.0) in
    let i = indices_sound n (degree s) 0 (drop 3 s) x.1.1.1.1.0 in
    record { mark = eqb-true (two_bytes s) 0x4C43 (not-false _ (unless 1 _ x.1.0)); room = omega (arith, i.0, length-drop 3 s); least = d.0; most = d.1; rising = i.1 }

pub check_sound : (n : ℕ) (s : List ℕ) → SoundRecord n s → SoundCheck n (indices s)
check_sound n s r =
    let e = length_numbers (degree s) (drop 3 s) in
    record { least = omega (arith, r.least); most = omega (arith, r.most); rising = r.rising }

-- ---- all check records
pub length_checks : (m : ℕ) (s : List ℕ) → length (checks_in m s) ≡ m
unfolding checks_in
length_checks zero s = refl
length_checks (suc m) s = ap suc (length_checks m (after_check s))

pub checks_sound : (n m : ℕ) (s : List ℕ) → judge_checks n m s ≡ 0 → SoundChecks n (checks_in m s)
unfolding judge_checks checks_in
checks_sound n zero s h = tt
checks_sound n (suc m) s h =
    let x = clear (judge_check n s ∷ judge_checks n m (after_check s) ∷ []) h in
    (check_sound n s (record_sound n s x.0), checks_sound n m (after_check s) x.1.0)

-- ---- the code
pub record SoundBytes (s : List ℕ) : Type 0 where
  pub header : SoundHeader s
  pub checks : judge_checks (bit_count s) (check_count s) (drop 6 s) ≡ 0
  pub whole : length (after_checks (check_count s) (drop 6 s)) ≡ 0
  pub triples_most : triples (code_of s) ≤ 8192
  pub covered : (b : ℕ) → b < bit_count s → some (some (eqb b)) (code_of s).checks ≡ true

pub each_covered : (k : Code) → covered k ≡ true → (b : ℕ) → b < k.bits → some (some (eqb b)) k.checks ≡ true
unfolding covered
each_covered k h b l =
    let f : ℕ → Bool = λ b. some (some (eqb b)) k.checks in
    let i : ℕ → ℕ = λ b. b in
    ap f (sym (get_or_tab k.bits i b 0 l)) ∙ every_at f (tab k.bits i) b 0 h (omega (arith, length_tab k.bits i))

pub bytes_sound : (s : List ℕ) → judge s ≡ 0 → SoundBytes s
unfolding judge code_of
bytes_sound s h =
    let x = clear (judge_header s ∷ judge_checks (bit_count s) (check_count s) (drop 6 s) ∷ 9 if ltb 0 (length (after_checks (check_count s) (drop 6 s))) ∷ 7 if ltb 8192 (triples (code_of s)) ∷ 8 if not (covered (code_of s)) ∷ []) h in
    record {
      header = header_sound s x.0;
      checks = x.1.0;
      whole = omega (arith, ltb-false 0 (length (after_checks (check_count s) (drop 6 s))) (unless 8 _ x.1.1.0));
      triples_most = ltb-false 8192 (triples (code_of s)) (unless 6 _ x.1.1.1.0);
      covered = each_covered (code_of s) (not-false (covered (code_of s)) (unless 7 _ x.1.1.1.1.0));
    }

pub accepted : (b : List ℕ) → judge b ≡ 0 → Sound (code_of b)
unfolding code_of
accepted b h =
    let a = bytes_sound b h in
    let e = length_checks (check_count b) (drop 6 b) in
    record {
      bits_least = a.header.bits_least;
      bits_most = a.header.bits_most;
      checks_least = omega (arith, a.header.checks_least);
      checks_most = omega (arith, a.header.checks_most);
      checks = checks_sound (bit_count b) (check_count b) (drop 6 b) a.checks;
      triples_most = a.triples_most;
      covered = a.covered;
    }
