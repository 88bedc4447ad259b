-- The records of a code, written check by check.
use Rattle.integers.proofs.Prelude.{◌≡◌, sym, ap, ◌∙◌, List, [], ◌∷◌, ◌++◌, append-nil, append_assoc, ℕ, suc, ◌+◌, ◌*◌, ◌≤◌, ◌<◌, arith, add-one, length, get_or, take, drop}
use Rattle.integers.proofs.Prelude.{length-append, take-append-drop, take-suc, drop-cons, take_all}
use Rattle.lists.specs.Entries.{total}
use Rattle.lists.proofs.Entries.{total_append}
use Rattle.model.specs.Code.{Code}
use Rattle.model.specs.Records.{record_of, check_records, header_of, records_of, record_size, records_size}
use Rattle.model.proofs.RecordClaims.{length_records}
use Rattle.records.proofs.Written.{checks_next}
use Rattle.text.specs.declared.Writer.{Writer}
use Rattle.text.specs.Appended.{Appended}
use Rattle.text.specs.Wrote.{Room, Wrote}
use Rattle.text.proofs.Wrote.{then}
use Rattle.text.proofs.Appended as pieces

-- the header, and no record yet
pub begun : (cs : List (List ℕ)) {header : List ℕ} {old new : Writer} → Wrote header old new → Wrote (header ++ check_records (take 0 cs)) old new
unfolding check_records
begun cs {header} w = rw (append-nil header) w

-- of the checks cs the first j are written, and c is next
module _ (cs : List (List ℕ)) (j : ℕ) {c : List ℕ} (h : j < length cs) (at : get_or cs j [] ≡ c) where
  more : check_records (take (j + 1) cs) ≡ check_records (take j cs) ++ record_of c
  more = rw (add-one j, take-suc cs j [] h, at) (checks_next (take j cs) c)

  pub records_next : (header : List ℕ) {old now new : Writer} → Wrote (header ++ check_records (take j cs)) old now → Wrote (record_of c) now new
      → Wrote (header ++ check_records (take (j + 1) cs)) old new
  records_next header p q = rw (more, ← append_assoc header (check_records (take j cs)) (record_of c)) (then p q)

  records_room : length (check_records (take j cs)) + record_size c ≤ total record_size cs
  records_room =
      let split = ap (total record_size) (sym (take-append-drop j cs)) ∙ total_append record_size (take j cs) (drop j cs) in
      let here = ap (total record_size) (drop-cons cs j [] h ∙ ap (λ (c : List ℕ). c ∷ drop (suc j) cs) at) in
      omega (arith, length_records (take j cs))

-- there is room for it
pub room_next : (k : Code) (m j : ℕ) {c : List ℕ} {old now : Writer} {degree : ℕ} → length k.checks ≡ m → j < length k.checks → get_or k.checks j [] ≡ c
    → Room (records_size k) old → Wrote (header_of k.bits m ++ check_records (take j k.checks)) old now → degree ≡ length c → Room (3 + 2 * degree) now
room_next k m j {c} count h at room w same =
    omega (arith, room, w.bytes.ends, pieces.long w.bytes, records_room k.checks j h at, length-append (header_of k.bits m) (check_records (take j k.checks)))

-- all are written behind the header
pub records_all : (k : Code) (m j : ℕ) {old new : Writer} → length k.checks ≡ m → m ≤ j → Wrote (header_of k.bits m ++ check_records (take j k.checks)) old new
    → Wrote (records_of k) old new
unfolding records_of
records_all k m j count done w = rw count (rw (take_all j k.checks (omega arith)) at w)

-- a writer that began at the front of a list
pub from_front : {t : List ℕ} {a b : Writer} {old new : List ℕ} → Wrote t a b → a.written ≡ 0 → a.bytes.now ≡ old → new ≡ b.bytes.now → Appended 0 t old new b.written
from_front w start begins ends = rw ends (rw (start, begins) at w.bytes)
