-- What is known of a judged code, and when records are judged to be one. Assumes nothing.
use Rattle.integers.proofs.Prelude.{◌≡◌, refl, ap, ◌∙◌, List, ℕ, ◌+◌, ◌-◌, ◌≤◌, arith, length, drop}
use Rattle.model.specs.declared.Sizes.{Sizes}
use Rattle.model.specs.Limits.{most_bits, most_checks, most_triples, most_variables}
use Rattle.model.specs.Code.{triples, variables}
use Rattle.model.specs.Records.{bit_count, check_count, checks_in, code_of}
use Rattle.model.specs.Sound.{Sound}
use Rattle.model.proofs.Accepted.{SoundBytes, bytes_sound, accepted, length_checks}
use Rattle.model.proofs.Sound.{turns_triples}
use Rattle.reader.specs.Judged.{JudgedChecks, JudgedCode}

module _ (s : List ℕ) (told : Sizes) (j : JudgedCode s told) where
  bytes : SoundBytes s
  bytes = bytes_sound s j.judged

  pub code_sound : Sound (code_of s)
  code_sound = accepted s j.judged

  bits_told : told.bits ≡ (code_of s).bits
  bits_told = ap (λ (z : Sizes). z.bits) j.sizes

  checks_told : told.checks ≡ length (code_of s).checks
  checks_told = ap (λ (z : Sizes). z.checks) j.sizes

  triples_told : told.triples ≡ triples (code_of s)
  triples_told = ap (λ (z : Sizes). z.triples) j.sizes

  pub bits_most : told.bits ≤ most_bits
  bits_most = omega (arith, bits_told, code_sound.bits_most)

  pub checks_most : told.checks ≤ most_checks
  checks_most = omega (arith, checks_told, code_sound.checks_most)

  pub triples_most : told.triples ≤ most_triples
  triples_most = omega (arith, triples_told, code_sound.triples_most)

  pub checks_few : told.checks ≤ told.triples
  checks_few = omega (arith, checks_told, triples_told, turns_triples (code_of s).checks)

  pub variables_told : told.bits + told.triples - told.checks ≡ variables (code_of s)
  variables_told = omega (arith, bits_told, checks_told, triples_told, turns_triples (code_of s).checks)

  pub variables_few : told.bits + told.triples - told.checks ≤ most_variables
  variables_few = omega (arith, bits_most, triples_most)

  pub header_room : 6 ≤ length s
  header_room = bytes.header.room

  counted : told.checks ≡ check_count s
  unfolding code_of
  counted = checks_told ∙ length_checks (check_count s) (drop 6 s)

  pub records_judged : JudgedChecks told.checks (drop 6 s)
  records_judged = record { bits = bit_count s; bits_most = bytes.header.bits_most; judged = rw counted bytes.checks }

  pub records_are : checks_in told.checks (drop 6 s) ≡ (code_of s).checks
  unfolding code_of
  records_are = rw counted refl

pub ruleset judged_code = (code_sound, bits_most, checks_most, triples_most, checks_few, variables_told, variables_few, header_room)
