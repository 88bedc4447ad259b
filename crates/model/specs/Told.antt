-- An answer is determined by what it tells (`.._told` in Calls), and a refusal tells a refusal's number. Definitions and statements; the proofs are in
-- proofs/Told.antt.
use Rattle.std.specs.Prelude.{◌≡◌, ◌≢◌, ℕ, ◌≤◌, Result}
use Rattle.model.specs.declared.Cause.{Cause}
use Rattle.model.specs.declared.Sizes.{Sizes}
use Rattle.model.specs.declared.Verdict.{Verdict}
use Rattle.model.specs.declared.Decoding.{Decoding}
use Rattle.model.specs.Causes.{number}
use Rattle.model.specs.Calls.{reading_told, verdict_told, decoding_told}

-- not 0, and not 16 or 17, which are outcomes
abbrev pub Refuses : ℕ → Type 0
Refuses c = (1 ≤ c) × (c ≢ 16) × (c ≢ 17)

-- every cause refuses, and two answers that tell the same are the same
pub record Determined : Type 0 where
  pub refuses : (c : Cause) → Refuses (number c)
  pub cause : (c d : Cause) → number c ≡ number d → c ≡ d
  pub reading : (x y : Result Sizes Cause) → reading_told x ≡ reading_told y → x ≡ y
  pub verdict : (x y : Result Verdict Cause) → verdict_told x ≡ verdict_told y → x ≡ y
  pub decoding : (x y : Result Decoding Cause) → decoding_told x ≡ decoding_told y → x ≡ y
