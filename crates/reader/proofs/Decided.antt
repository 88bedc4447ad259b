-- The judgement of a whole code, step by step. Assumes nothing.
use Rattle.integers.proofs.Prelude.{◌≡◌, refl, sym, ◌∙◌, List, [], ◌∷◌, Bool, true, false, not, ℕ, suc, ◌-◌, ◌≤◌, ◌<◌, arith, length, drop, ltb, lt-ltb, le-ltb}
use Rattle.lists.specs.Entries.{total}
use Rattle.model.specs.Limits.{most_bits, most_checks, most_triples}
use Rattle.model.specs.Causes.{◌if◌, first_of}
use Rattle.model.specs.Code.{triple_count, triples}
use Rattle.model.specs.Records.{bit_count, check_count, checks_in, after_checks, code_of, judge_header, judge_checks, covered, judge}
use Rattle.model.proofs.Accepted.{length_checks, header_sound}
use Rattle.reader.specs.Judged.{JudgedChecks, JudgedCode}

-- a header that is refused
pub header_decides : (s : List ℕ) → 0 < judge_header s → judge s ≡ judge_header s
unfolding judge
header_decides s refused = let e : judge_header s ≡ suc (judge_header s - 1) = omega arith in rw e refl

-- a header that passed, and what was read of it
module _ (s : List ℕ) (bits checks : ℕ) (records : List ℕ) (header : judge_header s ≡ 0)
    (read : (bits ≡ bit_count s) × (checks ≡ check_count s) × (records ≡ drop 6 s)) where
  pub bits_few : bits ≤ most_bits
  bits_few = omega (arith, (header_sound s header).bits_most, read.0)

  pub checks_few : checks ≤ most_checks
  checks_few = omega (arith, (header_sound s header).checks_most, read.1)

  found : judge_checks (bit_count s) (check_count s) (drop 6 s) ≡ judge_checks bits checks records
  found = rw (sym read.0, sym read.1, sym read.2) refl

  pub checks_decide : 0 < judge_checks bits checks records → judge s ≡ judge_checks bits checks records
  unfolding judge
  checks_decide refused =
      let e : judge_checks bits checks records ≡ suc (judge_checks bits checks records - 1) = omega arith in
      rw (header, found, e) refl

  -- check records that passed, and what was found of them
  module _ (passed : judge_checks bits checks records ≡ 0) (count : ℕ) (rest : List ℕ)
      (told : (count ≡ total triple_count (checks_in checks records)) × (rest ≡ after_checks checks records)) where
    pub judged : JudgedChecks checks records
    judged = record { bits = bits; bits_most = bits_few; judged = passed }

    abbrev code_read : Bool
    code_read = covered (record { bits = bits; checks = checks_in checks records })

    counted : count ≡ triples (code_of s)
    unfolding code_of
    counted = rw (sym read.1, sym read.2) told.0

    whole : judge s ≡ first_of (9 if ltb 0 (length rest) ∷ 7 if ltb most_triples count ∷ 8 if not code_read ∷ [])
    unfolding judge code_of
    whole = rw (header, found, passed, told.1, told.0, read.0, read.1, read.2) refl

    pub trailing_decides : 0 < length rest → 9 ≡ judge s
    trailing_decides over = sym (whole ∙ rw (lt-ltb 0 (length rest) over) refl)

    module _ (ended : length rest ≡ 0) where
      ended_test : ltb 0 (length rest) ≡ false
      ended_test = rw ended refl

      pub triples_decide : most_triples < count → 7 ≡ judge s
      triples_decide many = sym (whole ∙ rw (ended_test, lt-ltb most_triples count many) refl)

      module _ (few : count ≤ most_triples) where
        pub uncovered_decides : code_read ≡ false → 8 ≡ judge s
        uncovered_decides missed = sym (whole ∙ rw (ended_test, le-ltb most_triples count few, missed) refl)

        module _ (full : code_read ≡ true) where
          pub sound : judge s ≡ 0
          sound = whole ∙ rw (ended_test, le-ltb most_triples count few, full) refl

          pub known : JudgedCode s (record { bits = bits; checks = checks; triples = count })
          unfolding code_of
          known = record { judged = sound; sizes = rw (counted, read.0, read.1, length_checks (check_count s) (drop 6 s)) refl }
