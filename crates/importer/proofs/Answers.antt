-- The answer of an import, cause by cause. Assumes nothing.
use Rattle.integers.proofs.Prelude.{◌≡◌, refl, sym, ◌∙◌, true, false, List, [], ◌∷◌, ℕ, zero, suc, ◌≤◌, ◌<◌, arith, lt-ltb, le-ltb, length}
use Rattle.lists.specs.Tabulated.{written}
use Rattle.model.specs.Causes.{◌if◌, first_of, short}
use Rattle.model.specs.Code.{Code}
use Rattle.model.specs.Records.{records_of, records_size}
use Rattle.model.specs.RecordClaims.{code_causes, judge_code}
use Rattle.model.specs.Alist.{numbers_of, well_formed, agree, named, columns, rows, code_of_text, Writing, import_causes, importer}
use Rattle.model.specs.AlistPromises.{ImportCall}
use Rattle.model.proofs.Causes.{first_in}
use Rattle.model.proofs.RecordClaims.{length_code}
use Rattle.model.proofs.AlistTrips.{write_done}
use Rattle.model.proofs.AlistPromises.{import_call}

module _ (s old : List ℕ) where
  abbrev l : List ℕ
  l = numbers_of 0 s

  abbrev answer : ℕ → ℕ → List ℕ → Writing
  answer n b list = record { number = n; bytes = b; list = list }

  -- a cause
  refused : (c : ℕ) → first_of (import_causes s old) ≡ suc c → ImportCall s old (answer (suc c) 0 old)
  unfolding importer
  refused c e = import_call s old (answer (suc c) 0 old) (rw e)

  pub no_form : well_formed l ≡ false → ImportCall s old (answer 18 0 old)
  no_form h = refused 17 (rw h)

  module _ (formed : well_formed l ≡ true) where
    pub no_agreement : agree (named (columns l)) (named (rows l)) ≡ false → ImportCall s old (answer 19 0 old)
    no_agreement h = refused 18 (rw (formed, h))

    module _ (agrees : agree (named (columns l)) (named (rows l)) ≡ true) where
      abbrev code : Code
      code = code_of_text s

      abbrev room : ℕ
      room = 10 if short (length (records_of code)) old

      decided : first_of (import_causes s old) ≡ first_of (judge_code code ∷ room ∷ [])
      unfolding judge_code
      decided = rw (formed, agrees) (sym (first_in (code_causes code) (room ∷ [])))

      pub no_code : (c : ℕ) → c ≡ judge_code code → (c ≡ 0 → ⊥) → ImportCall s old (answer c 0 old)
      no_code zero e h = absurd (h refl)
      no_code (suc c) e h = refused c (decided ∙ rw (← e))

      module _ (sound : judge_code code ≡ 0) where
        pub no_room : length old < records_size code → ImportCall s old (answer 10 0 old)
        no_room h = refused 9 (decided ∙ rw (sound, length_code code, lt-ltb (length old) (records_size code) h))

        pub imported : {k : Code} (bytes : ℕ) (list : List ℕ) → k ≡ code → bytes ≡ records_size code → bytes ≤ length old → list ≡ written (records_of k) old
            → ImportCall s old (answer 0 bytes list)
        unfolding importer
        imported bytes list same size h e =
            let fits = le-ltb (length old) (records_size code) (omega arith) in
            let none : first_of (import_causes s old) ≡ 0 = decided ∙ rw (sound, length_code code, fits) in
            import_call s old (answer 0 bytes list)
            (rw (size, e, same, ← length_code code) (sym (write_done (import_causes s old) (records_of code) old none)))
