-- What import, export and its size promise of a call follows from the equation with the definition. Assumes nothing.
use Rattle.integers.proofs.Prelude.{◌≡◌, refl, sym, ap, subst, ◌∙◌, Bool, true, false, not, List, [], ◌∷◌, ◌++◌, ℕ, zero, suc, ◌<◌, arith}
use Rattle.integers.proofs.Prelude.{ltb-true, T, eqb, ltb, length}
use Rattle.lists.specs.Entries.{some}
use Rattle.model.specs.Limits.{most_triples}
use Rattle.model.specs.Causes.{◌if◌, first_of, short}
use Rattle.model.specs.Code.{triples}
use Rattle.model.specs.Records.{code_of, covered, judge, records_of}
use Rattle.model.specs.RecordClaims.{Bytes}
use Rattle.model.specs.Order.{one_to_nine}
use Rattle.model.specs.Sound.{Sound}
use Rattle.model.specs.Alist.{numbers_of, well_formed, agree, named, columns, rows, number_causes, code_of_text, judge_text, alist_of}
use Rattle.model.specs.Alist.{Writing, import_causes, importer, export_causes, exporter, Size, export_size}
use Rattle.model.specs.AlistClaims.{result}
use Rattle.model.specs.AlistPromises.{ImportCall, ExportCall, SizeCall}
use Rattle.model.proofs.Causes.{first_in}
use Rattle.model.proofs.Accepted as Accepted
use Rattle.model.proofs.Order.{listed, whole, follow, ordered_first, after_records, records_ordered}
use Rattle.model.proofs.RecordClaims.{code_back, accepted}
use Rattle.model.proofs.AlistText.{text_number, judged_number, text_claims}
use Rattle.model.proofs.AlistTrips.{code_trip, write_done, write_result, import_clear, text_sound, export_clear, export_trip, import_trip}

-- ---- import
module _ (s old : List ℕ) where
  abbrev records : List ℕ
  records = records_of (code_of_text s)

  abbrev too_short : Bool
  too_short = short (length records) old

  -- the text is judged first
  text_first : first_of (import_causes s old) ≡ first_of (judge_text s ∷ 10 if too_short ∷ [])
  unfolding judge_text
  text_first = sym (first_in (number_causes (numbers_of 0 s)) (10 if too_short ∷ []))

  numbers_listed : (c : ℕ) → first_of (import_causes s old) ≡ suc c → some (eqb (suc c)) (3 ∷ 4 ∷ 6 ∷ 7 ∷ 8 ∷ 10 ∷ 18 ∷ 19 ∷ []) ≡ true
  numbers_listed c e =
      let table : List ℕ = 3 ∷ 4 ∷ 6 ∷ 7 ∷ 8 ∷ 10 ∷ 18 ∷ 19 ∷ [] in
      text_number s (10 ∷ 18 ∷ 19 ∷ []) (10 if too_short ∷ []) (listed table ((18, true) ∷ []) refl) (listed table ((19, true) ∷ []) refl)
      (listed table ((10, too_short) ∷ []) refl) c (sym text_first ∙ e)

  -- 10 is no text's number, so the list is short
  no_room : first_of (import_causes s old) ≡ 10 → (judge_text s ≡ 0) × (length old < length records)
  no_room e = by (judge_text s) refl too_short refl (sym text_first ∙ e)
    where
      by : (j : ℕ) → judge_text s ≡ j → (t : Bool) → too_short ≡ t → first_of (j ∷ 10 if t ∷ []) ≡ 10 → (judge_text s ≡ 0) × (length old < length records)
      by zero j true r e = (j, ltb-true (length old) (length records) r)
      by zero j false r e = absurd (omega arith)
      by (suc c) j t r e = absurd (subst T (sym (judged_number s 9 (j ∙ e))) tt)

  pub import_call : (a : Writing) → a ≡ importer s old → ImportCall s old a
  unfolding importer
  import_call a meets =
      let l = numbers_of 0 s in
      let k = code_of_text s in
      let whole_text : List (ℕ × Bool)
      = (18, not (well_formed l)) ∷ (19, not (agree (named (columns l)) (named (rows l)))) ∷ (7, ltb most_triples (triples k)) ∷ (8, not (covered k))
      ∷ (10, too_short) ∷ [] in
      let got : first_of (import_causes s old) ≡ 0 → result (importer s old) ≡ records = write_result (import_causes s old) records old in
      let code_sound : first_of (import_causes s old) ≡ 0 → Sound k = λ h. text_sound s ((import_clear s old).0 h).0 in
      subst (ImportCall s old) (sym meets) (record {
        equation = refl;
        order = ordered_first (import_causes s old) (3 ∷ 4 ∷ 6 ∷ 7 ∷ 8 ∷ 10 ∷ 18 ∷ 19 ∷ []) _ numbers_listed refl;
        follows = follow whole_text refl;
        claims = text_claims s;
        refused = λ c h. rw h;
        imported = write_done (import_causes s old) records old;
        exactly = import_clear s old;
        code = λ h. (ap judge (got h) ∙ (accepted k).1 (code_sound h), ap code_of (got h) ∙ code_back k, code_sound h);
        room = λ h. (let x = no_room h in omega (arith, x.1, (text_claims s).fits x.0));
        trip = import_trip s old (importer s old) refl;
      })

-- ---- export
module _ (b : List ℕ) where
  abbrev text : List ℕ
  text = alist_of (code_of b)

  pub export_call : (old : List ℕ) (a : Writing) → Bytes b → a ≡ exporter b old → ExportCall b old a
  unfolding exporter
  export_call old a bytes meets =
      let causes = judge b ∷ export_causes (code_of b) old in
      let short_list : List (ℕ × Bool) = (10, short (length text) old) ∷ [] in
      subst (ExportCall b old) (sym meets) (record {
        equation = refl;
        order = after_records (10 ∷ []) b _ _ (listed (one_to_nine ++ (10 ∷ [])) short_list refl) refl;
        follows = follow (whole b ++ short_list) refl;
        refused = λ c h. rw h;
        exported = write_done causes text old;
        exactly = export_clear b old;
        code = λ j. code_trip (code_of b) (Accepted.accepted b j);
        trip = export_trip b old (exporter b old) bytes refl;
      })

  -- ---- the size of an export
  pub size_call : (a : Size) → a ≡ export_size b → SizeCall b a
  unfolding export_size exporter
  size_call a meets = subst (SizeCall b) (sym meets) (record {
    equation = refl;
    order = records_ordered b;
    follows = follow (whole b) refl;
    refused = λ c h. rw h;
    enough = λ h old.
        let size : (export_size b).bytes ≡ length text = rw h in
        let e = export_clear b old in
        (λ x. omega (arith, (e.0 x).1), λ x. e.1 (h, omega arith));
    bytes = λ h old e. ap (λ (w : Writing). w.bytes) (write_done (judge b ∷ export_causes (code_of b) old) text old e) ∙ rw h;
  })
