-- What is known of records that were judged. Definitions only.
use Rattle.std.specs.Prelude.{◌≡◌, List, ℕ, ◌≤◌}
use Rattle.model.specs.declared.Sizes.{Sizes}
use Rattle.model.specs.Limits.{most_bits}
use Rattle.model.specs.Records.{judge_check, judge_checks, code_of, judge}
use Rattle.reader.specs.Sizes.{sizes_of}

-- a check record, and several, of a code with some number of bits
pub record JudgedCheck (s : List ℕ) : Type 0 where
  pub bits : ℕ
  pub bits_most : bits ≤ most_bits
  pub judged : judge_check bits s ≡ 0

pub record JudgedChecks (m : ℕ) (s : List ℕ) : Type 0 where
  pub bits : ℕ
  pub bits_most : bits ≤ most_bits
  pub judged : judge_checks bits m s ≡ 0

-- all records of a code, and its sizes
pub record JudgedCode (s : List ℕ) (told : Sizes) : Type 0 where
  pub judged : judge s ≡ 0
  pub sizes : told ≡ sizes_of (code_of s)
