-- What a judged check record has, and what judged records leave once the first is taken. Assumes nothing.
use Rattle.integers.proofs.Prelude.{◌≡◌, refl, List, [], ◌∷◌, ℕ, zero, suc, ◌-◌, ◌≤◌, ◌<◌, arith, length, get_or}
use Rattle.model.specs.Limits.{most_bits, least_degree, most_degree}
use Rattle.model.specs.Records.{indices, after_check, checks_in, judge_check, judge_checks}
use Rattle.model.specs.Sound.{SoundCheck}
use Rattle.model.proofs.Causes.{clear}
use Rattle.model.proofs.Accepted.{SoundRecord, record_sound, check_sound}
use Rattle.model.proofs.Sound.{rising_below}
use Rattle.records.specs.Whole.{Whole}
use Rattle.reader.specs.Judged.{JudgedCheck, JudgedChecks}

-- ---- a check record
module _ (s : List ℕ) (j : JudgedCheck s) where
  found : SoundRecord j.bits s
  found = record_sound j.bits s j.judged

  sound : SoundCheck j.bits (indices s)
  sound = check_sound j.bits s found

  pub whole : Whole s
  whole = found.room

  pub begun : 3 ≤ length s
  begun = omega (arith, found.room)

  pub degree_least : least_degree ≤ length (indices s)
  degree_least = sound.least

  pub degree_most : length (indices s) ≤ most_degree
  degree_most = sound.most

  pub bit_below : (i : ℕ) → i < length (indices s) → get_or (indices s) i 0 < most_bits
  bit_below i h = omega (arith, rising_below j.bits 0 (indices s) sound.rising i h, j.bits_most)

-- ---- records of which some are left
module _ (m : ℕ) (s : List ℕ) (j : JudgedChecks m s) (more : 0 < m) where
  parted : (judge_check j.bits s ≡ 0) × (judge_checks j.bits (m - 1) (after_check s) ≡ 0)
  unfolding judge_checks
  parted =
      let e : m ≡ suc (m - 1) = omega arith in
      let x = clear (judge_check j.bits s ∷ judge_checks j.bits (m - 1) (after_check s) ∷ []) (rw e at j.judged) in
      (x.0, x.1.0)

  pub first_judged : JudgedCheck s
  first_judged = record { bits = j.bits; bits_most = j.bits_most; judged = parted.0 }

  pub others_judged : JudgedChecks (m - 1) (after_check s)
  others_judged = record { bits = j.bits; bits_most = j.bits_most; judged = parted.1 }

pub checks_more : (m : ℕ) (s : List ℕ) → 0 < m → checks_in m s ≡ indices s ∷ checks_in (m - 1) (after_check s)
unfolding checks_in
checks_more zero s more = absurd (omega (arith, more))
checks_more (suc m) s more = let e : suc m - 1 ≡ m = omega arith in rw e refl

pub checks_none : (m : ℕ) (s : List ℕ) → m ≡ 0 → checks_in m s ≡ []
unfolding checks_in
checks_none m s none = rw none refl
