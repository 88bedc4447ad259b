-- What import and export promise of every call, as `Promises` does it for the other entries. Statements only; the proofs are in proofs/AlistPromises.antt.
use Rattle.std.specs.Prelude.{◌≡◌, not, List, [], ◌∷◌, ◌++◌, ◌↔◌, ℕ, suc, ◌≤◌, ◌<◌, ltb, length}
use Rattle.lists.specs.Tabulated.{written}
use Rattle.model.specs.Limits.{most_triples}
use Rattle.model.specs.Causes.{◌if◌, short}
use Rattle.model.specs.Code.{triples}
use Rattle.model.specs.Records.{code_of, covered, judge, whole_causes, record_causes, records_of}
use Rattle.model.specs.Sound.{Sound}
use Rattle.model.specs.Order.{Follows, Ordered, one_to_nine}
use Rattle.model.specs.Alist.{numbers_of, well_formed, agree, named, columns, rows, code_of_text, judge_text, alist_of}
use Rattle.model.specs.Alist.{Writing, import_causes, importer, export_causes, exporter, Size, export_size}
use Rattle.model.specs.AlistClaims.{TextClaims, CodeTrip, result, ExportTrip, ImportTrip}

-- the causes of an import that are judged of the whole text or of all rows together
abbrev pub whole_text_causes : List ℕ → List ℕ → List ℕ
whole_text_causes s old =
    let l = numbers_of 0 s in
    18 if not (well_formed l) ∷ 19 if not (agree (named (columns l)) (named (rows l))) ∷ 7 if ltb most_triples (triples (code_of_text s))
    ∷ 8 if not (covered (code_of_text s)) ∷ 10 if short (length (records_of (code_of_text s))) old ∷ []

-- ---- import: a is its number, the bytes that it wrote and the list that was old
pub record ImportCall (s old : List ℕ) (a : Writing) : Type 0 where
  pub equation : a ≡ importer s old
  pub order : Ordered (import_causes s old) (3 ∷ 4 ∷ 6 ∷ 7 ∷ 8 ∷ 10 ∷ 18 ∷ 19 ∷ []) a.number
  pub follows : Follows 0 (whole_text_causes s old)
  -- what the numbers mean, of every text
  pub claims : TextClaims s
  -- "Each new number, here and later, is returned alone and leaves all lists as they were."
  pub refused : (c : ℕ) → a.number ≡ suc c → a ≡ record { number = suc c; bytes = 0; list = old }
  pub imported : a.number ≡ 0 → a ≡ record { number = 0; bytes = length (records_of (code_of_text s)); list = written (records_of (code_of_text s)) old }
  pub exactly : (a.number ≡ 0) ↔ ((judge_text s ≡ 0) × (length (records_of (code_of_text s)) ≤ length old))
  -- what it wrote is an accepted code, that of the text
  pub code : a.number ≡ 0 → (judge (result a) ≡ 0) × (code_of (result a) ≡ code_of_text s) × Sound (code_of_text s)
  -- a list of the text's own length is always enough
  pub room : a.number ≡ 10 → length old < length s
  pub trip : a.number ≡ 0 → ImportTrip a

-- ---- export: a is its number, the bytes that it wrote and the list that was old
pub record ExportCall (b old : List ℕ) (a : Writing) : Type 0 where
  pub equation : a ≡ exporter b old
  pub order : Ordered (record_causes b ++ export_causes (code_of b) old) (one_to_nine ++ (10 ∷ [])) a.number
  pub follows : Follows 0 (whole_causes b ++ export_causes (code_of b) old)
  pub refused : (c : ℕ) → a.number ≡ suc c → a ≡ record { number = suc c; bytes = 0; list = old }
  pub exported : a.number ≡ 0 → a ≡ record { number = 0; bytes = length (alist_of (code_of b)); list = written (alist_of (code_of b)) old }
  -- every accepted code has its export, where there is room
  pub exactly : (a.number ≡ 0) ↔ ((judge b ≡ 0) × (length (alist_of (code_of b)) ≤ length old))
  pub code : judge b ≡ 0 → CodeTrip (code_of b)
  pub trip : a.number ≡ 0 → ExportTrip b a

-- ---- the size of an export: a is its number and the bytes that the export will write
pub record SizeCall (b : List ℕ) (a : Size) : Type 0 where
  pub equation : a ≡ export_size b
  pub order : Ordered (record_causes b) one_to_nine a.number
  pub follows : Follows 0 (whole_causes b)
  pub refused : (c : ℕ) → a.number ≡ suc c → a ≡ record { number = suc c; bytes = 0 }
  -- a list is long enough for the export exactly when it has so many bytes, and the export then writes so many
  pub enough : a.number ≡ 0 → (old : List ℕ) → ((exporter b old).number ≡ 0) ↔ (a.bytes ≤ length old)
  pub bytes : a.number ≡ 0 → (old : List ℕ) → (exporter b old).number ≡ 0 → (exporter b old).bytes ≡ a.bytes
