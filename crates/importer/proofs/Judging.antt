-- A judgement, step by step. Assumes nothing.
use Rattle.integers.proofs.Prelude.{◌≡◌, refl, sym, ap, ◌∙◌, true, false, not, List, [], ◌∷◌, ℕ, suc, ◌+◌, ◌*◌, ◌≤◌, ◌<◌, arith, add-one, lt-ltb, le-ltb, ltb}
use Rattle.integers.proofs.Prelude.{length, get_or, drop, drop_of_length-le, drop-cons}
use Rattle.lists.specs.Entries.{total}
use Rattle.model.specs.Limits.{most_bits, most_checks, most_triples}
use Rattle.std.specs.Prelude.{Result, Ok, Err}
use Rattle.model.specs.declared.Cause.{Cause}
use Rattle.model.specs.declared.Cause.TheVariants.{Cut, Mark, Size, Degree, Index, Order, Triples, Uncovered, Trailing, Room}
use Rattle.model.specs.declared.Cause.TheVariants.{Setting, Lengths, Cost, Sample, Entry, Text, Places, Long, Frames}
use Rattle.model.specs.Causes.{◌if◌, first_of, outside, number, number_of}
use Rattle.model.specs.Code.{Code, triple_count, triples}
use Rattle.model.specs.Records.{indices, judge_check, covered, record_of, record_size}
use Rattle.model.specs.RecordClaims.{check_cause, checks_cause, judge_code}
use Rattle.model.proofs.Causes.{only, refused}
use Rattle.model.proofs.RecordClaims.{length_record, indices_back, check_judged, check_clear}
use Rattle.text.specs.Appended.{Appended}
use Rattle.importer.specs.declared.Counts.{Counts}
use Rattle.importer.specs.Judged.{Judged, JudgedCheck, JudgedChecks, JudgedCode}

-- ---- a cause is told
pub refuses : (cause : Cause) {n triples bytes : ℕ} → n ≡ number cause → Judged n triples bytes (Err cause)
refuses cause e = record { first = sym e; counted = tt; sized = tt }

-- the number of a cause is above 0
pub some_number : (cause : Cause) → number cause ≡ 0 → ⊥
some_number Cut e = omega arith
some_number Mark e = omega arith
some_number Size e = omega arith
some_number Degree e = omega arith
some_number Index e = omega arith
some_number Order e = omega arith
some_number Triples e = omega arith
some_number Uncovered e = omega arith
some_number Trailing e = omega arith
some_number Room e = omega arith
some_number Setting e = omega arith
some_number Lengths e = omega arith
some_number Cost e = omega arith
some_number Sample e = omega arith
some_number Entry e = omega arith
some_number Text e = omega arith
some_number Places e = omega arith
some_number Long e = omega arith
some_number Frames e = omega arith

-- ---- one check
pub check_long : (n : ℕ) (c : List ℕ) → 32 < length c → check_cause n c ≡ 4
unfolding check_cause
check_long n c h = rw (le-ltb (length c) 2 (omega arith), lt-ltb 32 (length c) h)

-- its record begins a list, which was judged
module _ (n : ℕ) (c : List ℕ) {old list : List ℕ} {bytes : ℕ} (written : Appended 0 (record_of c) old list bytes) where
  pub record_cause : judge_check n list ≡ check_cause n c
  record_cause = ap (judge_check n) written.list ∙ check_judged n c (drop (0 + length (record_of c)) old)

  pub record_judged : {triples : ℕ} → 0 ≡ judge_check n list → triples ≡ triple_count (indices list)
      → JudgedCheck n c (Ok (record { triples = triples; bytes = bytes }))
  record_judged judged counted =
      record {
        first = judged ∙ record_cause;
        counted =
            counted ∙ ap (λ (b : List ℕ). triple_count (indices b)) written.list
            ∙ ap triple_count (indices_back c (drop (0 + length (record_of c)) old));
        sized = omega (arith, written.ends, length_record c);
      }

-- what it adds, where it is sound, is little
pub check_sizes : (n : ℕ) (c : List ℕ) {r : Counts} → JudgedCheck n c (Ok r) → (r.triples ≤ 30) × (r.bytes ≤ 67)
check_sizes n c told =
    let s = (check_clear n c).0 (sym told.first) in
    (omega (arith, told.counted, s.most), omega (arith, told.sized, s.most))

-- ---- several: j of the checks cs passed, with so many triples and bytes, and what is left decides
pub record Passed (n : ℕ) (cs : List (List ℕ)) (j triples bytes : ℕ) : Type 0 where
  pub cause : checks_cause n cs ≡ checks_cause n (drop j cs)
  pub counted : triples + total triple_count (drop j cs) ≡ total triple_count cs
  pub sized : bytes + total record_size (drop j cs) ≡ total record_size cs
  pub few_triples : triples ≤ 30 * j
  pub few_bytes : bytes ≤ 67 * j

pub passed_start : (n : ℕ) (cs : List (List ℕ)) → Passed n cs 0 0 0
passed_start n cs = record { cause = refl; counted = omega arith; sized = omega arith; few_triples = omega arith; few_bytes = omega arith }

module _ {n : ℕ} {cs : List (List ℕ)} {j triples bytes : ℕ} (p : Passed n cs j triples bytes) where
  -- the check c is next, and was judged
  module _ {c : List ℕ} {r : Result Counts Cause} (h : j < length cs) (at : get_or cs j [] ≡ c) (told : JudgedCheck n c r) where
    split : drop j cs ≡ c ∷ drop (suc j) cs
    split = drop-cons cs j [] h ∙ ap (λ (c : List ℕ). c ∷ drop (suc j) cs) at

    decides : checks_cause n cs ≡ first_of (number_of r ∷ checks_cause n (drop (suc j) cs) ∷ [])
    unfolding checks_cause
    decides = p.cause ∙ ap (checks_cause n) split ∙ ap (λ (x : ℕ). first_of (x ∷ checks_cause n (drop (suc j) cs) ∷ [])) (sym told.first)

  module _ {c : List ℕ} (h : j < length cs) (at : get_or cs j [] ≡ c) where
    pub passed_next : {r : Counts} → JudgedCheck n c (Ok r) → Passed n cs (j + 1) (triples + r.triples) (bytes + r.bytes)
    passed_next told =
        let few = check_sizes n c told in
        rw (add-one j) (record {
          cause = decides h at told ∙ only (checks_cause n (drop (suc j) cs));
          counted = omega (arith, p.counted, ap (total triple_count) (split h at told), told.counted);
          sized = omega (arith, p.sized, ap (total record_size) (split h at told), told.sized);
          few_triples = omega (arith, p.few_triples, few.0);
          few_bytes = omega (arith, p.few_bytes, few.1);
        })

    pub passed_not : {cause : Cause} → JudgedCheck n c (Err cause) → JudgedChecks n cs (Err cause)
    passed_not {cause} told = refuses cause (decides h at told ∙ refused (number cause) (checks_cause n (drop (suc j) cs) ∷ []) (some_number cause))

  pub passed_all : length cs ≤ j → JudgedChecks n cs (Ok (record { triples = triples; bytes = bytes }))
  unfolding checks_cause
  passed_all h =
      let none = drop_of_length-le cs h in
      record {
        first = sym (p.cause ∙ ap (checks_cause n) none);
        counted = omega (arith, p.counted, ap (total triple_count) none);
        sized = omega (arith, p.sized, ap (total record_size) none);
      }

-- ---- the code, in the order of its causes
module _ (k : Code) where
  pub bits_refused : outside 3 most_bits k.bits ≡ true → JudgedCode k (Err Size)
  unfolding judge_code
  bits_refused h = refuses Size (rw h)

  module _ (bits : outside 3 most_bits k.bits ≡ false) where
    pub count_refused : outside 1 most_checks (length k.checks) ≡ true → JudgedCode k (Err Size)
    unfolding judge_code
    count_refused h = refuses Size (rw (bits, h))

    module _ (count : outside 1 most_checks (length k.checks) ≡ false) where
      pub checks_refused : {cause : Cause} → JudgedChecks k.bits k.checks (Err cause) → JudgedCode k (Err cause)
      unfolding judge_code
      checks_refused {cause} told =
          let decides : judge_code k ≡ first_of (number cause ∷ 7 if ltb most_triples (triples k) ∷ 8 if not (covered k) ∷ []) = rw (bits, count, ← told.first) in
          refuses cause (decides ∙ refused (number cause) (7 if ltb most_triples (triples k) ∷ 8 if not (covered k) ∷ []) (some_number cause))

      module _ {found : Counts} (told : JudgedChecks k.bits k.checks (Ok found)) where
        whole_decides : judge_code k ≡ first_of (7 if ltb most_triples found.triples ∷ 8 if not (covered k) ∷ [])
        unfolding judge_code
        whole_decides = rw (bits, count, ← told.first, told.counted)

        pub triples_refused : most_triples < found.triples → JudgedCode k (Err Triples)
        triples_refused h = refuses Triples (whole_decides ∙ rw (lt-ltb most_triples found.triples h))

        module _ (few : found.triples ≤ most_triples) where
          covered_decides : judge_code k ≡ first_of (8 if not (covered k) ∷ [])
          covered_decides = whole_decides ∙ rw (le-ltb most_triples found.triples few)

          pub bare_refused : covered k ≡ false → JudgedCode k (Err Uncovered)
          bare_refused h = refuses Uncovered (covered_decides ∙ rw h)

          pub code_passes : covered k ≡ true → JudgedCode k (Ok (record { triples = found.triples; bytes = 6 + found.bytes }))
          code_passes h = record { first = sym (covered_decides ∙ rw h); counted = told.counted; sized = omega (arith, told.sized) }
