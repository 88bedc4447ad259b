-- Document 01, 'Code records', as an equivalence: the accepted bytes are the records of the codes that the section describes, and each such code has
-- its records. Definitions and statements; the proofs are in proofs/Order.antt and proofs/RecordClaims.antt.
use Rattle.std.specs.Prelude.{◌≡◌, not, List, [], ◌∷◌, ◌↔◌, ℕ, suc, ◌<◌, leb, ltb, length, get_or}
use Rattle.model.specs.Limits.{most_bits, most_checks, least_degree, most_degree, most_triples}
use Rattle.model.specs.Causes.{◌if◌, first_of, outside}
use Rattle.model.specs.Code.{Code, triples}
use Rattle.model.specs.Records.{code_of, covered, judge, record_causes, records_of, records_size}
use Rattle.model.specs.Sound.{Sound}

-- every entry is a byte
abbrev pub Bytes : List ℕ → Type 0
Bytes s = (i : ℕ) → get_or s i 0 < 256

-- ---- the judgement of a code as such: 3, 3, then check by check 4, 5, 6, then 7, 8
-- low is 0 at first, then one above the index before
unfoldable pub indices_cause : ℕ → ℕ → List ℕ → ℕ
indices_cause n low [] = 0
indices_cause n low (i ∷ c) = first_of (5 if leb n i ∷ 6 if ltb i low ∷ indices_cause n (suc i) c ∷ [])

unfoldable pub check_cause : ℕ → List ℕ → ℕ
check_cause n c = first_of (4 if outside least_degree most_degree (length c) ∷ indices_cause n 0 c ∷ [])

unfoldable pub checks_cause : ℕ → List (List ℕ) → ℕ
checks_cause n [] = 0
checks_cause n (c ∷ cs) = first_of (check_cause n c ∷ checks_cause n cs ∷ [])

abbrev pub code_causes : Code → List ℕ
code_causes k =
    3 if outside 3 most_bits k.bits ∷ 3 if outside 1 most_checks (length k.checks) ∷
    checks_cause k.bits k.checks ∷ 7 if ltb most_triples (triples k) ∷ 8 if not (covered k) ∷ []

unfoldable pub judge_code : Code → ℕ
judge_code k = first_of (code_causes k)

-- ---- what holds of them
pub record RecordClaims : Type 0 where
  -- the number is that of the first cause in reading order
  pub order : (b : List ℕ) → judge b ≡ first_of (record_causes b)
  -- the records of a code are read back
  pub code_back : (k : Code) → code_of (records_of k) ≡ k
  pub size : (k : Code) → length (records_of k) ≡ records_size k
  -- they are judged as the code is
  pub judged : (k : Code) → judge (records_of k) ≡ judge_code k
  -- and accepted exactly when the code is one that the section describes; they are bytes then
  pub accepted : (k : Code) → (judge (records_of k) ≡ 0) ↔ Sound k
  pub bytes : (k : Code) → Sound k → Bytes (records_of k)
  -- accepted bytes are the records of the code that they say, which is such a code
  pub sound : (b : List ℕ) → judge b ≡ 0 → Sound (code_of b)
  pub records_back : (b : List ℕ) → Bytes b → judge b ≡ 0 → records_of (code_of b) ≡ b
