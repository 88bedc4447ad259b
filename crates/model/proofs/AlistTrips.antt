-- Import and export belong together: the text of a sound code is accepted and gives the code, an export gives its records back, and an import has its export.
-- Assumes nothing.
use Rattle.integers.proofs.Prelude.{◌≡◌, sym, ap, ap₂, ◌∙◌, Bool, true, not, List, [], ◌∷◌, ℕ, ◌≤◌, arith, ltb-false, le-ltb}
use Rattle.integers.proofs.Prelude.{length, drop, take-append_seam}
use mathlib.Core.Logic.{◌↔◌}
use Rattle.lists.specs.Tabulated.{written}
use Rattle.lists.proofs.Tabulated.{take_written}
use Rattle.model.specs.Causes.{◌if◌, first_of, short}
use Rattle.model.specs.Code.{Code}
use Rattle.model.specs.Records.{code_of, judge, records_of}
use Rattle.model.specs.RecordClaims.{Bytes, code_causes, judge_code}
use Rattle.model.specs.Sound.{Sound}
use Rattle.model.specs.Alist.{numbers_of, well_formed, agree, named, columns, rows, lines_of, code_in, code_of_text, number_causes, judge_text, columns_of, rows_of}
use Rattle.model.specs.Alist.{alist_of, Writing, writing, import_causes, importer, export_causes, exporter}
use Rattle.model.specs.AlistClaims.{joined, CodeTrip, result, ExportTrip, ImportTrip}
use Rattle.model.proofs.Causes.{none_joined, clear, unless}
use Rattle.model.proofs.Accepted as Accepted
use Rattle.model.proofs.RecordClaims.{code_back, sound, records_back, accepted}
use Rattle.model.proofs.AlistForm.{named_columns, named_rows, code_lines, well_formed_lem}
use Rattle.model.proofs.AlistLines.{text_read}
use Rattle.model.proofs.Agreement.{agreement}
use Rattle.model.proofs.AlistCode.{length_columns, rows_back, columns_from_one, rows_from_one, code_most, code_places}

-- ---- the text of a sound code
module _ (k : Code) (s : Sound k) where
  abbrev numbers : List ℕ
  numbers = joined (lines_of (columns_of k) (rows_of k))

  pub code_numbers : numbers_of 0 (alist_of k) ≡ joined (lines_of (columns_of k) (rows_of k))
  unfolding alist_of
  code_numbers = text_read (lines_of (columns_of k) (rows_of k)) (code_most k s)

  code_read : code_in numbers ≡ k
  unfolding rows_of
  code_read = code_lines (columns_of k) (rows_of k) ∙ ap₂ code (length_columns k) (rows_back k.checks)
    where
      code : ℕ → List (List ℕ) → Code
      code n l = record { bits = n; checks = l }

  pub code_trip : CodeTrip k
  unfolding judge_text judge_code
  code_trip = record {
    judged =
        ap (λ (l : List ℕ). first_of (number_causes l)) code_numbers
        ∙ none (well_formed numbers) (agree (named (columns numbers)) (named (rows numbers))) (code_causes (code_in numbers))
        (well_formed_lem (columns_of k) (rows_of k) (code_most k s) (columns_from_one k) (rows_from_one k))
        (ap₂ agree (named_columns (columns_of k) (rows_of k)) (named_rows (columns_of k) (rows_of k)) ∙ (agreement (columns_of k) (rows_of k)).1 (code_places k s))
        (ap judge_code code_read ∙ (sound k).1 s);
    code = ap code_in code_numbers ∙ code_read;
  }
    where
      none : (p q : Bool) (l : List ℕ) → p ≡ true → q ≡ true → first_of l ≡ 0 → first_of (18 if not p ∷ 19 if not q ∷ l) ≡ 0
      none p q l e f g = rw (e, f) g

-- ---- what is written
room : (n : ℕ) (old : List ℕ) → (first_of (10 if short n old ∷ []) ≡ 0) ↔ (n ≤ length old)
room n old = (λ h. ltb-false (length old) n (unless 9 (short n old) (clear (10 if short n old ∷ []) h).0), λ h. rw (le-ltb (length old) n h))

module _ (causes l old : List ℕ) where
  pub write_done : first_of causes ≡ 0 → writing causes l old ≡ record { number = 0; bytes = length l; list = written l old }
  write_done h = rw h

  pub write_result : first_of causes ≡ 0 → result (writing causes l old) ≡ l
  write_result h = ap result (write_done h) ∙ take-append_seam l (drop (length l) old)

-- ---- an import
module _ (s old : List ℕ) where
  -- the records of the text's code
  abbrev records : List ℕ
  records = records_of (code_of_text s)

  pub import_clear : (first_of (import_causes s old) ≡ 0) ↔ ((judge_text s ≡ 0) × (length records ≤ length old))
  unfolding judge_text
  import_clear =
      let e = none_joined (number_causes (numbers_of 0 s)) (10 if short (length records) old ∷ []) in
      (λ h. ((e.0 h).0, (room (length records) old).0 (e.0 h).1), λ h. e.1 (h.0, (room (length records) old).1 h.1))

-- the code of an accepted text is sound
pub text_sound : (s : List ℕ) → judge_text s ≡ 0 → Sound (code_of_text s)
unfolding judge_text judge_code
text_sound s h =
    let l = numbers_of 0 s in
    (sound (code_of_text s)).0
    ((none_joined (18 if not (well_formed l) ∷ 19 if not (agree (named (columns l)) (named (rows l))) ∷ []) (code_causes (code_in l))).0 h).1

-- a text of the code k, imported
text_import : (t : List ℕ) (k : Code) (old : List ℕ) → judge_text t ≡ 0 → code_of_text t ≡ k → length (records_of k) ≤ length old
    → importer t old ≡ record { number = 0; bytes = length (records_of k); list = written (records_of k) old }
unfolding importer
text_import t k old h e fits =
    let same : records_of (code_of_text t) ≡ records_of k = ap records_of e in
    write_done (import_causes t old) (records_of (code_of_text t)) old ((import_clear t old).1 (h, omega (arith, ap length same)))
    ∙ ap (λ (l : List ℕ). record { number = 0; bytes = length l; list = written l old }) same

-- ---- an export
pub export_clear : (b old : List ℕ) → (first_of (judge b ∷ export_causes (code_of b) old) ≡ 0) ↔ ((judge b ≡ 0) × (length (alist_of (code_of b)) ≤ length old))
export_clear b old =
    let text = alist_of (code_of b) in
    let c = judge b ∷ export_causes (code_of b) old in
    (λ h. ((clear c h).0, (room (length text) old).0 (rw (clear c h).0 at h)), λ h. rw h.0 ((room (length text) old).1 h.1))

-- "Importing an export gives the same records."
pub export_trip : (b old : List ℕ) (a : Writing) → Bytes b → a ≡ exporter b old → a.number ≡ 0 → ExportTrip b a
unfolding exporter
export_trip b old a bytes e h =
    let k = code_of b in
    let c = judge b ∷ export_causes k old in
    let none : first_of c ≡ 0 = sym (ap (λ (w : Writing). w.number) e) ∙ h in
    let j : judge b ≡ 0 = ((export_clear b old).0 none).0 in
    let s : Sound k = Accepted.accepted b j in
    let text : result a ≡ alist_of k = ap result e ∙ write_result c (alist_of k) old none in
    let same : records_of k ≡ b = records_back b bytes j in
    record {
      back = λ old' fits.
          ap (λ (t : List ℕ). importer t old') text
          ∙ text_import (alist_of k) k old' (code_trip k s).judged (code_trip k s).code (omega (arith, ap length same))
          ∙ ap (λ (l : List ℕ). record { number = 0; bytes = length l; list = written l old' }) same;
    }

-- an import, exported
pub import_trip : (s old : List ℕ) (a : Writing) → a ≡ importer s old → a.number ≡ 0 → ImportTrip a
unfolding importer exporter
import_trip s old a e h =
    let k = code_of_text s in
    let c = import_causes s old in
    let none : first_of c ≡ 0 = sym (ap (λ (w : Writing). w.number) e) ∙ h in
    let sound_code : Sound k = text_sound s ((import_clear s old).0 none).0 in
    let done : a ≡ record { number = 0; bytes = length (records_of k); list = written (records_of k) old } = e ∙ write_done c (records_of k) old none in
    let records : result a ≡ records_of k = ap result e ∙ write_result c (records_of k) old none in
    let code : code_of (result a) ≡ k = ap code_of records ∙ code_back k in
    let judged : judge (result a) ≡ 0 = ap judge records ∙ (accepted k).1 sound_code in
    let t = alist_of (code_of (result a)) in
    let long : a.bytes ≡ length (records_of k) = ap (λ (w : Writing). w.bytes) done in
    let text : (old' : List ℕ) → length t ≤ length old' → ((exporter (result a) old').number ≡ 0) × (result (exporter (result a) old') ≡ t) =
    λ old' fits.
    let none' = (export_clear (result a) old').1 (judged, fits) in
    (none', write_result (judge (result a) ∷ export_causes (code_of (result a)) old') t old' none') in
    let same : (old' : List ℕ) → a.bytes ≤ length old' → importer t old' ≡ record { number = 0; bytes = a.bytes; list = written (result a) old' } =
    λ old' fits. rw (code, records, long) (text_import (alist_of k) k old' (code_trip k sound_code).judged (code_trip k sound_code).code (omega arith)) in
    record {
      accepted = judged;
      text = text;
      same = same;
      again = λ old' old'' fits room.
          ap (λ (b : List ℕ). result (exporter b old''))
          (ap result (same old' fits) ∙ take_written (result a) old' a.bytes (omega (arith, ap length records)))
          ∙ (text old'' room).1;
    }
