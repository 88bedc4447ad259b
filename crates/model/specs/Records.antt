-- Document 01, 'Code records'. Definitions only.
-- What bytes say (`code_of`, total: past the end it reads zeros) stands apart from the judgement (`judge`, 0 for an accepted code); last come the
-- bytes of a given code (`records_of`).
use Rattle.std.specs.Prelude.{Bool, not, List, [], ◌∷◌, ◌++◌, ℕ, zero, suc, ◌+◌, ◌*◌, ◌/◌, ◌%◌, leb, ltb, eqb, length, get_or, drop}
use Rattle.lists.specs.Tabulated.{tab}
use Rattle.lists.specs.Entries.{every, some, total}
use Rattle.model.specs.Limits.{most_bits, most_checks, least_degree, most_degree, most_triples}
use Rattle.model.specs.Causes.{◌if◌, first_of, short, outside}
use Rattle.model.specs.Code.{Code, triples}

-- ---- what bytes say

-- "Two-byte numbers have the high byte first": the one that s begins with
unfoldable pub two_bytes : List ℕ → ℕ
two_bytes s = 256 * get_or s 0 0 + get_or s 1 0

-- the first d of them
unfoldable pub numbers : ℕ → List ℕ → List ℕ
numbers zero s = []
numbers (suc d) s = two_bytes s ∷ numbers d (drop 2 s)

-- "Header: mark 0x4C48, bits n …, checks m …, two bytes each.": n and m
abbrev pub bit_count : List ℕ → ℕ
bit_count s = two_bytes (drop 2 s)

abbrev pub check_count : List ℕ → ℕ
check_count s = two_bytes (drop 4 s)

-- "check records: mark 0x4C43, a one-byte degree d …, then d bit indices of two bytes": of the record that s begins with
abbrev pub degree : List ℕ → ℕ
degree s = get_or s 2 0

abbrev pub indices : List ℕ → List ℕ
indices s = numbers (degree s) (drop 3 s)

-- what follows that record
abbrev pub after_check : List ℕ → List ℕ
after_check s = drop (3 + 2 * degree s) s

-- the first m check records, and what follows them
unfoldable pub checks_in : ℕ → List ℕ → List (List ℕ)
checks_in zero s = []
checks_in (suc m) s = indices s ∷ checks_in m (after_check s)

unfoldable pub after_checks : ℕ → List ℕ → List ℕ
after_checks zero s = s
after_checks (suc m) s = after_checks m (after_check s)

unfoldable pub code_of : List ℕ → Code
code_of s = record { bits = bit_count s; checks = checks_in (check_count s) (drop 6 s) }

-- ---- the judgement: "records from left to right, in each the mark, then its fields; a mark or field that is cut gives 1, a whole one is
-- judged before the next is read, 5 before 6. Then 9, 7, 8"

-- the causes of the header that s begins with, in their order
abbrev pub header_causes : List ℕ → List ℕ
header_causes s =
    1 if short 2 s ∷ 2 if not (eqb (two_bytes s) 0x4C48) ∷
    1 if short 4 s ∷ 3 if outside 3 most_bits (bit_count s) ∷
    1 if short 6 s ∷ 3 if outside 1 most_checks (check_count s) ∷ []

unfoldable pub judge_header : List ℕ → ℕ
judge_header s = first_of (header_causes s)

-- of one index of a code of n bits; low is 0 at first, then one above the index before
abbrev pub index_causes : ℕ → ℕ → List ℕ → List ℕ
index_causes n low s = 1 if short 2 s ∷ 5 if leb n (two_bytes s) ∷ 6 if ltb (two_bytes s) low ∷ []

-- d indices
unfoldable pub judge_indices : ℕ → ℕ → ℕ → List ℕ → ℕ
judge_indices n zero low s = 0
judge_indices n (suc d) low s = first_of (index_causes n low s ++ (judge_indices n d (suc (two_bytes s)) (drop 2 s) ∷ []))

-- of a check record, before its indices; over any least degree, so that document 02, L6, which moves it, can be compared with document 01
abbrev pub degree_causes_from : ℕ → List ℕ → List ℕ
degree_causes_from least s =
    1 if short 2 s ∷ 2 if not (eqb (two_bytes s) 0x4C43) ∷
    1 if short 3 s ∷ 4 if outside least most_degree (degree s) ∷ []

abbrev pub degree_causes : List ℕ → List ℕ
degree_causes s = degree_causes_from least_degree s

unfoldable pub judge_check : ℕ → List ℕ → ℕ
judge_check n s = first_of (degree_causes s ++ (judge_indices n (degree s) 0 (drop 3 s) ∷ []))

unfoldable pub judge_checks : ℕ → ℕ → List ℕ → ℕ
judge_checks n zero s = 0
judge_checks n (suc m) s = first_of (judge_check n s ∷ judge_checks n m (after_check s) ∷ [])

-- "Each bit lies in some check."
unfoldable pub covered : Code → Bool
covered k = every (λ b. some (some (eqb b)) k.checks) (tab k.bits (λ b. b))

-- of all records together
abbrev pub whole_causes : List ℕ → List ℕ
whole_causes s =
    9 if ltb 0 (length (after_checks (check_count s) (drop 6 s))) ∷
    7 if ltb most_triples (triples (code_of s)) ∷
    8 if not (covered (code_of s)) ∷ []

unfoldable pub judge : List ℕ → ℕ
judge s = first_of (judge_header s ∷ judge_checks (bit_count s) (check_count s) (drop 6 s) ∷ whole_causes s)

-- ---- the same causes one by one, from left to right; `judge` is the first of them (`RecordClaims.order`)
unfoldable pub indices_causes : ℕ → ℕ → ℕ → List ℕ → List ℕ
indices_causes n zero low s = []
indices_causes n (suc d) low s = index_causes n low s ++ indices_causes n d (suc (two_bytes s)) (drop 2 s)

module _ (least : ℕ) where
  abbrev pub check_causes_from : ℕ → List ℕ → List ℕ
  check_causes_from n s = degree_causes_from least s ++ indices_causes n (degree s) 0 (drop 3 s)

  unfoldable pub checks_causes_from : ℕ → ℕ → List ℕ → List ℕ
  checks_causes_from n zero s = []
  checks_causes_from n (suc m) s = check_causes_from n s ++ checks_causes_from n m (after_check s)

  unfoldable pub record_causes_from : List ℕ → List ℕ
  record_causes_from s = header_causes s ++ (checks_causes_from (bit_count s) (check_count s) (drop 6 s) ++ whole_causes s)

abbrev pub record_causes : List ℕ → List ℕ
record_causes s = record_causes_from least_degree s

-- ---- the records of a code
-- "Two-byte numbers have the high byte first."
abbrev pub two : ℕ → List ℕ
two x = (x / 256) ∷ (x % 256) ∷ []

unfoldable pub bytes_of : List ℕ → List ℕ
bytes_of [] = []
bytes_of (i ∷ c) = two i ++ bytes_of c

-- "mark 0x4C43, a one-byte degree d (3 to 32), then d bit indices of two bytes"
unfoldable pub record_of : List ℕ → List ℕ
record_of c = 0x4C ∷ 0x43 ∷ length c ∷ bytes_of c

unfoldable pub check_records : List (List ℕ) → List ℕ
check_records [] = []
check_records (c ∷ cs) = record_of c ++ check_records cs

-- "Header: mark 0x4C48, bits n (3 to 4,096), checks m (1 to 2,048), two bytes each."
abbrev pub header_of : ℕ → ℕ → List ℕ
header_of n m = two 0x4C48 ++ (two n ++ two m)

-- "Then m check records"
unfoldable pub records_of : Code → List ℕ
records_of k = header_of k.bits (length k.checks) ++ check_records k.checks

-- how many bytes they have
abbrev pub record_size : List ℕ → ℕ
record_size c = 3 + 2 * length c

abbrev pub records_size : Code → ℕ
records_size k = 6 + total record_size k.checks
