-- Where columns and rows name the same places, a bit lies in some check exactly when its column names a row. Assumes nothing.
use Rattle.integers.proofs.Prelude.{◌≡◌, refl, sym, ap, ap₂, subst, ◌∙◌, true, List, [], ◌∷◌, map, ℕ, zero, suc, ◌≤◌, ◌<◌, arith, dec_lt}
use Rattle.integers.proofs.Prelude.{ltb-true, lt-ltb, eq-eqb, T, eqb, ltb, length, get_or, get_or-eq_default}
use lib.ListN.{get_or-map}
use Rattle.lists.specs.Tabulated.{tab}
use Rattle.lists.specs.Entries.{every, some}
use Rattle.lists.proofs.Tests.{and_left, and_right}
use Rattle.lists.proofs.Tabulated.{tab_get_or, map_tab}
use Rattle.lists.proofs.Entries.{every_at, every_map, every_same, some_of, none_in}
use Rattle.model.specs.Causes.{◌if◌}
use Rattle.model.specs.Records.{covered}
use Rattle.model.specs.Alist.{times}
use Rattle.model.specs.AlistClaims.{SamePlaces}
use Rattle.model.proofs.Agreement.{times_suc, member, no_member, past}
use Rattle.importer.specs.Rows.{lowered}

-- ---- the bits of a row are its indices, lowered
raised : (l : List ℕ) → every (ltb 0) l ≡ true → map suc (lowered l) ≡ l
raised [] h = refl
raised (i ∷ l) h =
    let low = ltb-true 0 i (and_left (ltb 0 i) (every (ltb 0) l) h) in
    ap₂ ◌∷◌ (omega arith) (raised l (and_right (ltb 0 i) (every (ltb 0) l) h))

times_lowered : (b : ℕ) (l : List ℕ) → every (ltb 0) l ≡ true → times b (lowered l) ≡ times (suc b) l
times_lowered b l h = sym (times_suc b (lowered l)) ∙ ap (times (suc b)) (raised l h)

module _ (cs rs : List (List ℕ)) (columns : every (every (ltb 0)) cs ≡ true) (rows : every (every (ltb 0)) rs ≡ true) (same : SamePlaces cs rs) where
  abbrev checks : List (List ℕ)
  checks = map lowered rs

  -- how often row r has bit b: as often as column b names row r
  row_times : (r b : ℕ) → times b (get_or checks r []) ≡ times (suc r) (get_or cs b [])
  row_times r b = ap (times b) (get_or-map lowered rs r []) ∙ by (dec_lt r (length rs)) ∙ same r b
    where
      by : Dec (r < length rs) → times b (lowered (get_or rs r [])) ≡ times (suc b) (get_or rs r [])
      by (yes h) = times_lowered b (get_or rs r []) (every_at (every (ltb 0)) rs r [] rows h)
      by (no h) = rw (get_or-eq_default rs [] {n = r} (omega arith))

  -- column b names row r, so bit b lies in check r
  in_check : (r b : ℕ) → 1 ≤ times (suc r) (get_or cs b []) → some (some (eqb b)) checks ≡ true
  in_check r b h = by (dec_lt r (length checks))
    where
      has : 1 ≤ times b (get_or checks r [])
      has = omega (arith, row_times r b)

      by : Dec (r < length checks) → some (some (eqb b)) checks ≡ true
      by (yes k) = some_of (some (eqb b)) checks r [] k ((member b (get_or checks r [])).1 has)
      by (no k) = absurd (omega (arith, has, past checks b r (omega arith)))

  bit_covered : (b : ℕ) → b < length cs → some (some (eqb b)) checks ≡ ltb 0 (length (get_or cs b []))
  bit_covered b h = by (get_or cs b []) refl
    where
      by : (l : List ℕ) → get_or cs b [] ≡ l → some (some (eqb b)) checks ≡ ltb 0 (length l)
      by [] e = none_in (some (eqb b)) checks [] (λ r _. (no_member b (get_or checks r [])).1 (row_times r b ∙ ap (times (suc r)) e))
      by (zero ∷ l) e = absurd (subst T (sym (ap (every (ltb 0)) (sym e) ∙ every_at (every (ltb 0)) cs b [] columns h)) tt)
      by (suc r ∷ l) e =
          let one : 1 if eqb (suc r) (suc r) ≡ 1 = rw (eq-eqb (suc r) (suc r) refl) in
          in_check r b (omega (arith, ap (times (suc r)) e)) ∙ sym (lt-ltb 0 (suc (length l)) (omega arith))

  pub covered_named : covered (record { bits = length cs; checks = checks }) ≡ every (ltb 0) (map length cs)
  unfolding covered
  covered_named =
      every_same (length cs) (λ b. b) (λ b. some (some (eqb b)) checks) (λ b. ltb 0 (length (get_or cs b []))) bit_covered
      ∙ sym (every_map (λ c. ltb 0 (length c)) (λ b. get_or cs b []) (tab (length cs) (λ b. b)))
      ∙ ap (every (λ c. ltb 0 (length c))) (map_tab (λ b. get_or cs b []) (length cs) (λ b. b) ∙ tab_get_or cs [])
      ∙ sym (every_map (ltb 0) length cs)
