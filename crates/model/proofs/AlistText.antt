-- What 18 and 19 mean, of every text, and which texts are accepted. Assumes nothing.
use Rattle.integers.proofs.Prelude.{◌≡◌, refl, sym, ap, subst, ◌∙◌, Bool, true, false, List, [], ◌∷◌, ℕ, suc, ◌-◌, ◌≤◌, arith, T, eqb, leb, length}
use mathlib.Core.Logic.{◌↔◌}
use Rattle.lists.specs.Entries.{every, some}
use Rattle.model.specs.Limits.{most_number}
use Rattle.model.specs.Causes.{first_of}
use Rattle.model.specs.Records.{records_of}
use Rattle.model.specs.RecordClaims.{code_causes, judge_code}
use Rattle.model.specs.Sound.{Sound}
use Rattle.model.specs.Alist.{numbers_of, well_formed, agree, named, columns, rows, lines_of, number_count, code_in, code_of_text, judge_text}
use Rattle.model.specs.AlistClaims.{joined, AlistText, SamePlaces, code_for, TextClaims}
use Rattle.model.proofs.Order.{Listed, listed, both, first_of_listed, number_listed}
use Rattle.model.proofs.RecordClaims.{sound}
use Rattle.model.proofs.Spelling.{spelled, numbers_room}
use Rattle.model.proofs.AlistForm.{named_columns, named_rows, code_lines, count_lines, well_formed_lem}
use Rattle.model.proofs.AlistParts.{form_back}
use Rattle.model.proofs.Agreement.{rows_up_to, agreement}
use Rattle.model.proofs.AlistTrips.{text_sound}
use Rattle.model.proofs.AlistSizes.{records_fit}
use Rattle.model.proofs.AlistCauses.{rows_below, code_listed}

module _ (s : List ℕ) where
  abbrev l : List ℕ
  l = numbers_of 0 s

  abbrev cs : List (List ℕ)
  cs = named (columns l)

  abbrev rs : List (List ℕ)
  rs = named (rows l)

  -- ---- the text and its numbers
  text_numbers : (cs rs : List (List ℕ)) → AlistText s cs rs → l ≡ joined (lines_of cs rs)
  text_numbers cs rs t = ((spelled s (joined (lines_of cs rs))).0 t.numbers).0

  text_form : (cs rs : List (List ℕ)) → AlistText s cs rs → well_formed l ≡ true
  text_form cs rs t =
      let x = (spelled s (joined (lines_of cs rs))).0 t.numbers in
      ap well_formed x.0 ∙ well_formed_lem cs rs x.1 t.column_indices t.row_indices

  form_text : well_formed l ≡ true → AlistText s cs rs
  form_text h =
      let f = form_back l h in
      record {
        numbers = (spelled s (joined (lines_of cs rs))).1 (f.lines, ap (every (λ x. leb x most_number)) (sym f.lines) ∙ f.small);
        column_indices = f.column_indices;
        row_indices = f.row_indices;
      }

  pub form : (well_formed l ≡ true) ↔ ((cs : List (List ℕ)) × (rs : List (List ℕ)) × AlistText s cs rs)
  form = (λ h. (cs, rs, form_text h), λ t. text_form t.0 t.1 t.2)

  pub only : (cs rs : List (List ℕ)) → AlistText s cs rs
      → (named (columns (numbers_of 0 s)) ≡ cs) × (named (rows (numbers_of 0 s)) ≡ rs) × (code_of_text s ≡ code_for cs rs)
  only cs rs t =
      let e = text_numbers cs rs t in
      (ap (λ (l : List ℕ). named (columns l)) e ∙ named_columns cs rs, ap (λ (l : List ℕ). named (rows l)) e ∙ named_rows cs rs, ap code_in e ∙ code_lines cs rs)

  -- ---- the judgement, by cases
  no_form : well_formed l ≡ false → judge_text s ≡ 18
  unfolding judge_text
  no_form h = rw h

  no_agreement : well_formed l ≡ true → agree cs rs ≡ false → judge_text s ≡ 19
  unfolding judge_text
  no_agreement h k = rw (h, k)

  code_judged : well_formed l ≡ true → agree cs rs ≡ true → judge_text s ≡ judge_code (code_of_text s)
  unfolding judge_text judge_code
  code_judged h k = rw (h, k)

  -- a fact on the number of the text
  pub by_judgement : (P : ℕ → Type 0) → (well_formed l ≡ false → P 18) → (well_formed l ≡ true → agree cs rs ≡ false → P 19)
      → (well_formed l ≡ true → agree cs rs ≡ true → P (judge_code (code_of_text s))) → P (judge_text s)
  by_judgement P a b c = by (well_formed l) refl (agree cs rs) refl
    where
      by : (t : Bool) → well_formed l ≡ t → (u : Bool) → agree cs rs ≡ u → P (judge_text s)
      by false h u k = rw (no_form h) (a h)
      by true h false k = rw (no_agreement h k) (b h k)
      by true h true k = rw (code_judged h k) (c h k)

  -- the numbers of its code
  pub codes_listed : (more : List ℕ) → well_formed l ≡ true → agree cs rs ≡ true → Listed (3 ∷ 4 ∷ 6 ∷ 7 ∷ 8 ∷ more) (code_causes (code_of_text s))
  codes_listed more h k =
      let e : code_of_text s ≡ code_for cs rs = (only cs rs (form_text h)).2 in
      rw e (code_listed more (code_for cs rs) (rows_below (length cs) rs (form_back l h).row_indices (rows_up_to cs rs ((agreement cs rs).0 k))))

  code_number : well_formed l ≡ true → agree cs rs ≡ true → (c : ℕ) → judge_code (code_of_text s) ≡ suc c → some (eqb (suc c)) (3 ∷ 4 ∷ 6 ∷ 7 ∷ 8 ∷ []) ≡ true
  unfolding judge_code
  code_number h k c e = number_listed (code_causes (code_of_text s)) (3 ∷ 4 ∷ 6 ∷ 7 ∷ 8 ∷ []) c (codes_listed [] h k) e

  -- the number of a text that is judged before the causes `rest`
  pub text_number : (more rest : List ℕ) → Listed (3 ∷ 4 ∷ 6 ∷ 7 ∷ 8 ∷ more) (18 ∷ []) → Listed (3 ∷ 4 ∷ 6 ∷ 7 ∷ 8 ∷ more) (19 ∷ [])
      → Listed (3 ∷ 4 ∷ 6 ∷ 7 ∷ 8 ∷ more) rest → (c : ℕ) → first_of (judge_text s ∷ rest) ≡ suc c → some (eqb (suc c)) (3 ∷ 4 ∷ 6 ∷ 7 ∷ 8 ∷ more) ≡ true
  unfolding judge_code
  text_number more rest a b d =
      let table : List ℕ = 3 ∷ 4 ∷ 6 ∷ 7 ∷ 8 ∷ more in
      let causes = code_causes (code_of_text s) in
      by_judgement (λ j. (c : ℕ) → first_of (j ∷ rest) ≡ suc c → some (eqb (suc c)) table ≡ true)
      (λ h c. number_listed (18 ∷ []) table c a) (λ h k c. number_listed (19 ∷ []) table c b)
      (λ h k c. number_listed (first_of causes ∷ rest) table c (both table (first_of causes ∷ []) rest (first_of_listed table causes (codes_listed more h k)) d))

  pub judged_number : (c : ℕ) → judge_text s ≡ suc c → some (eqb (suc c)) (3 ∷ 4 ∷ 6 ∷ 7 ∷ 8 ∷ 18 ∷ 19 ∷ []) ≡ true
  judged_number c e =
      let table : List ℕ = 3 ∷ 4 ∷ 6 ∷ 7 ∷ 8 ∷ 18 ∷ 19 ∷ [] in
      text_number (18 ∷ 19 ∷ []) [] (listed table ((18, true) ∷ []) refl) (listed table ((19, true) ∷ []) refl) (listed table [] refl) c (rw e)

  pub never_five : judge_text s ≡ 5 → ⊥
  never_five e = subst T (sym (judged_number 4 e)) tt

  pub eighteen : (judge_text s ≡ 18) ↔ ((cs rs : List (List ℕ)) → AlistText s cs rs → ⊥)
  eighteen = (
    by_judgement (λ c. c ≡ 18 → (cs rs : List (List ℕ)) → AlistText s cs rs → ⊥)
        (λ h e cs rs t. subst T (sym (text_form cs rs t) ∙ h) tt) (λ h k e. absurd (omega arith)) (λ h k e. absurd (subst T (sym (code_number h k 17 e)) tt)),
    λ none. by (well_formed l) refl none,
  )
    where
      by : (t : Bool) → well_formed l ≡ t → ((cs rs : List (List ℕ)) → AlistText s cs rs → ⊥) → judge_text s ≡ 18
      by false h none = no_form h
      by true h none = absurd (none cs rs (form_text h))

  -- agreement, of a reading of the text
  text_same : (cs' rs' : List (List ℕ)) → AlistText s cs' rs' → (agree cs rs ≡ true) ↔ SamePlaces cs' rs'
  text_same cs' rs' t =
      let e = only cs' rs' t in
      rw (e.0, e.1) (agreement cs' rs')

  pub nineteen : (judge_text s ≡ 19) ↔ ((cs : List (List ℕ)) × (rs : List (List ℕ)) × AlistText s cs rs × (SamePlaces cs rs → ⊥))
  nineteen = (
    by_judgement (λ c. c ≡ 19 → (cs : List (List ℕ)) × (rs : List (List ℕ)) × AlistText s cs rs × (SamePlaces cs rs → ⊥))
        (λ h e. absurd (omega arith)) (λ h k e. (cs, rs, form_text h, λ p. subst T (sym ((agreement cs rs).1 p) ∙ k) tt))
        (λ h k e. absurd (subst T (sym (code_number h k 18 e)) tt)),
    λ t. by (agree cs rs) refl t,
  )
    where
      by : (u : Bool) → agree cs rs ≡ u → (cs : List (List ℕ)) × (rs : List (List ℕ)) × AlistText s cs rs × (SamePlaces cs rs → ⊥) → judge_text s ≡ 19
      by false k t = no_agreement (text_form t.0 t.1 t.2) k
      by true k t = absurd (t.3 ((text_same t.0 t.1 t.2).0 k))

  pub after : (cs rs : List (List ℕ)) → AlistText s cs rs → SamePlaces cs rs → judge_text s ≡ judge_code (code_for cs rs)
  after cs rs t p = code_judged (text_form cs rs t) ((text_same cs rs t).1 p) ∙ ap judge_code (only cs rs t).2

  -- ---- the accepted texts
  judged_sound : judge_text s ≡ 0 → (well_formed l ≡ true) × (agree cs rs ≡ true)
  judged_sound =
      by_judgement (λ c. c ≡ 0 → (well_formed l ≡ true) × (agree cs rs ≡ true)) (λ h e. absurd (omega arith)) (λ h k e. absurd (omega arith)) (λ h k e. (h, k))

  pub accepted : (judge_text s ≡ 0) ↔ ((cs : List (List ℕ)) × (rs : List (List ℕ)) × AlistText s cs rs × SamePlaces cs rs × Sound (code_for cs rs))
  accepted = (
    λ h.
        let x = judged_sound h in
        let t = form_text x.0 in
        (cs, rs, t, (agreement cs rs).0 x.1, subst Sound (only cs rs t).2 (text_sound s h)),
    λ t. after t.0 t.1 t.2 t.3 ∙ (sound (code_for t.0 t.1)).1 t.4,
  )

  pub fits : judge_text s ≡ 0 → length (records_of (code_of_text s)) ≤ length s
  fits h =
      let t = accepted.0 h in
      let cs = t.0 in
      let rs = t.1 in
      let count : length l ≡ number_count (joined (lines_of cs rs)) = ap length (text_numbers cs rs t.2) ∙ count_lines cs rs in
      let size = records_fit cs rs (λ i. i - 1) t.4 t.2.column_indices t.2.row_indices t.3 in
      rw (only cs rs t.2).2 (omega (arith, numbers_room s))

pub text_claims : (s : List ℕ) → TextClaims s
text_claims s = record {
  spelled = spelled s;
  form = form s;
  only = only s;
  places = agreement;
  eighteen = eighteen s;
  nineteen = nineteen s;
  after = after s;
  accepted = accepted s;
  never_five = never_five s;
  fits = fits s;
}
