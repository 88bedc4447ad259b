-- What a judgement finds. Definitions only.
use Rattle.std.specs.Prelude.{◌≡◌, List, ℕ, Result, IfOk}
use Rattle.lists.specs.Entries.{total}
use Rattle.model.specs.declared.Cause.{Cause}
use Rattle.model.specs.Causes.{number_of}
use Rattle.model.specs.Code.{Code, triple_count, triples}
use Rattle.model.specs.Records.{record_size, records_size}
use Rattle.model.specs.RecordClaims.{check_cause, checks_cause, judge_code}
use Rattle.importer.specs.declared.Counts.{Counts}

-- the number of the cause and, where there is none, how many triples and bytes
pub record Judged (number triples bytes : ℕ) (r : Result Counts Cause) : Type 0 where
  pub first : number_of r ≡ number
  pub counted : IfOk r (λ counts. counts.triples ≡ triples)
  pub sized : IfOk r (λ counts. counts.bytes ≡ bytes)

-- of a check of a code of n bits, of several, and of a code
abbrev pub JudgedCheck : ℕ → List ℕ → Result Counts Cause → Type 0
JudgedCheck n c r = Judged (check_cause n c) (triple_count c) (record_size c) r

abbrev pub JudgedChecks : ℕ → List (List ℕ) → Result Counts Cause → Type 0
JudgedChecks n cs r = Judged (checks_cause n cs) (total triple_count cs) (total record_size cs) r

abbrev pub JudgedCode : Code → Result Counts Cause → Type 0
JudgedCode k r = Judged (judge_code k) (triples k) (records_size k) r
