-- The codeword test and the extension: which calls are accepted, and what they give. Assumes nothing.
use Rattle.integers.proofs.Prelude.{◌≡◌, refl, sym, ap, subst, ◌∙◌, List, [], ◌∷◌, ◌++◌, ℕ, zero, suc, ◌≤◌, arith, ltb-false, le-ltb, length, take}
use mathlib.Core.Logic.{◌↔◌}
use Rattle.lists.specs.Tabulated.{written}
use Rattle.lists.specs.Entries.{some}
use Rattle.lists.proofs.Tabulated.{take_written}
use Rattle.model.specs.Causes.{◌if◌, first_of, short}
use Rattle.model.specs.Code.{variables}
use Rattle.model.specs.Records.{code_of, judge, record_causes}
use Rattle.model.specs.Splitting.{system_of}
use Rattle.model.specs.Words.{Outcome, tested}
use Rattle.model.specs.Points.{Bits, Codeword, point_of}
use Rattle.model.specs.Calls.{unequal, not_binary, tested_unless, word_causes, codeword_test, Extended, extension}
use Rattle.model.specs.Order.{Ordered, one_to_nine}
use Rattle.model.specs.Told.{Refuses}
use Rattle.model.specs.WordClaims.{Tested}
use Rattle.model.proofs.Causes.{clear, unless, none_joined}
use Rattle.model.proofs.Accepted as Accepted
use Rattle.model.proofs.Order.{Listed, listed, both, refuses, after_records}
use Rattle.model.proofs.WordClaims.{tested_is, test_claims, word_bits, bits_pass}
use Rattle.model.proofs.Points.{point}

-- ---- after the causes of the code, those of before, of the word and of after, the word is tested
abbrev pub numbers : List ℕ
numbers = one_to_nine ++ (10 ∷ 12 ∷ 15 ∷ 20 ∷ [])

module _ (b w before after : List ℕ) (listed_before : Listed numbers before) (listed_after : Listed numbers after) where
  abbrev causes : List ℕ
  causes = before ++ (word_causes (code_of b).bits w ++ after)

  -- the number of a refusal is a refusal's
  pub word_refuses : (c : ℕ) → first_of (judge b ∷ causes) ≡ suc c → Refuses (suc c)
  word_refuses c e =
      let word = listed numbers ((12, unequal w (code_of b).bits) ∷ (15, some not_binary w) ∷ []) refl in
      let all = both numbers before _ listed_before (both numbers (word_causes (code_of b).bits w) after word listed_after) in
      refuses (record_causes b ++ causes) numbers c refl
      (subst (Ordered (record_causes b ++ causes) numbers) e (after_records (10 ∷ 12 ∷ 15 ∷ 20 ∷ []) b causes (first_of (judge b ∷ causes)) all refl))

  -- where none of the causes holds
  pub record Passed : Type 0 where
    pub code : judge b ≡ 0
    pub first : first_of before ≡ 0
    pub word : Bits (code_of b).bits w
    pub last : first_of after ≡ 0

  passed : first_of (judge b ∷ causes) ≡ 0 → Passed
  passed h = by (judge b) refl h
    where
      by : (j : ℕ) → judge b ≡ j → first_of (j ∷ causes) ≡ 0 → Passed
      by zero e h =
          let x = (none_joined before (word_causes (code_of b).bits w ++ after)).0 h in
          let y = (none_joined (word_causes (code_of b).bits w) after).0 x.1 in
          record { code = e; first = x.0; word = word_bits (code_of b).bits w y.0; last = y.1 }
      by (suc j) e h = absurd (omega arith)

  word_tested : first_of (judge b ∷ causes) ≡ 0 → Tested (code_of b) w
  word_tested h = test_claims (code_of b) w (passed h).word

  -- and a codeword of an accepted code passes them
  codeword_passes : judge b ≡ 0 → first_of before ≡ 0 → first_of after ≡ 0 → Codeword (code_of b) w → first_of (judge b ∷ causes) ≡ 0
  codeword_passes j e f c = rw j ((none_joined before (word_causes (code_of b).bits w ++ after)).1 (e, bits_pass (code_of b).bits w after c.word ∙ f))

  codeword_tested : Codeword (code_of b) w → tested (code_of b) w ≡ record { number = 0; place = 0 }
  codeword_tested c =
      tested_is (code_of b) w (λ x. x.number ≡ 0 → x ≡ record { number = 0; place = 0 }) (λ l h. absurd (omega arith)) (λ l h. refl)
      ((test_claims (code_of b) w c.word).codeword.1 c)

  -- the answer
  abbrev answer : Outcome
  answer = tested_unless (first_of (judge b ∷ causes)) (code_of b) w

  answer_is : (P : Outcome → Type 0) → ((c : ℕ) → Refuses (suc c) → P (record { number = suc c; place = 0 }))
      → (first_of (judge b ∷ causes) ≡ 0 → P (tested (code_of b) w)) → P answer
  answer_is P refused tests = by (first_of (judge b ∷ causes)) refl
    where
      by : (c : ℕ) → first_of (judge b ∷ causes) ≡ c → P (tested_unless c (code_of b) w)
      by zero e = tests e
      by (suc c) e = refused c (word_refuses c e)

  pub answer_codeword : answer.number ≡ 0 → Passed × Codeword (code_of b) w
  answer_codeword =
      answer_is (λ x. x.number ≡ 0 → Passed × Codeword (code_of b) w) (λ c r h. absurd (omega arith)) (λ e h. (passed e, (word_tested e).codeword.0 h))

  pub codeword_answer : judge b ≡ 0 → first_of before ≡ 0 → first_of after ≡ 0 → Codeword (code_of b) w → answer ≡ record { number = 0; place = 0 }
  codeword_answer j e f c = rw (codeword_passes j e f c) (codeword_tested c)

  pub answer_odd : answer.number ≡ 17 → (answer ≡ tested (code_of b) w) × Tested (code_of b) w
  answer_odd =
      answer_is (λ x. x.number ≡ 17 → (x ≡ tested (code_of b) w) × Tested (code_of b) w) (λ c r h. absurd (omega arith)) (λ e h. (refl, word_tested e))

  pub answer_place : (answer.number ≡ 17 → ⊥) → answer.place ≡ 0
  answer_place =
      answer_is (λ x. (x.number ≡ 17 → ⊥) → x.place ≡ 0) (λ c r h. refl)
      (λ e. tested_is (code_of b) w (λ x. (x.number ≡ 17 → ⊥) → x.place ≡ 0) (λ k h. absurd (h refl)) (λ k h. refl))

-- ---- the codeword test
pub none_listed : Listed numbers []
none_listed = listed numbers [] refl

module _ (b w : List ℕ) where
  pub test_is : judge b ≡ 0 → Codeword (code_of b) w → codeword_test b w ≡ record { number = 0; place = 0 }
  unfolding codeword_test
  test_is j c = codeword_answer b w [] [] none_listed none_listed j refl refl c

  pub test_exactly : ((codeword_test b w).number ≡ 0) ↔ ((judge b ≡ 0) × Codeword (code_of b) w)
  unfolding codeword_test
  test_exactly = (
    λ h. (let x = answer_codeword b w [] [] none_listed none_listed h in (x.0.code, x.1)),
    λ c. ap (λ (x : Outcome). x.number) (test_is c.0 c.1),
  )

-- ---- the extension
module _ (b p : List ℕ) where
  abbrev pub no_room : List ℕ
  no_room = 10 if short (variables (code_of b)) p ∷ []

  pub room_listed : Listed numbers no_room
  room_listed = listed numbers ((10, short (variables (code_of b)) p) ∷ []) refl

  room : first_of no_room ≡ 0 → variables (code_of b) ≤ length p
  room e = ltb-false (length p) (variables (code_of b)) (unless 9 (short (variables (code_of b)) p) (clear no_room e).0)

  no_cause : variables (code_of b) ≤ length p → first_of no_room ≡ 0
  no_cause h = rw (le-ltb (length p) (variables (code_of b)) h)

module _ (b w p : List ℕ) where
  pub extension_is : judge b ≡ 0 → variables (code_of b) ≤ length p → Codeword (code_of b) w
      → extension b w p ≡ record { outcome = record { number = 0; place = 0 }; point = written (point_of (code_of b) w) p }
  unfolding extension
  extension_is j h c = rw (codeword_answer b w [] (no_room b p) none_listed (room_listed b p) j refl (no_cause b p h) c)

  pub extension_exactly : ((extension b w p).outcome.number ≡ 0) ↔ ((judge b ≡ 0) × (variables (code_of b) ≤ length p) × Codeword (code_of b) w)
  unfolding extension
  extension_exactly = (
    λ h. (let x = answer_codeword b w [] (no_room b p) none_listed (room_listed b p) h in (x.0.code, room b p x.0.last, x.1)),
    λ c. ap (λ (x : Extended). x.outcome.number) (extension_is c.0 c.1 c.2),
  )

  -- the entries of the variables, of what was written
  pub point_taken : (extension b w p).outcome.number ≡ 0 → point_of (code_of b) w ≡ take (variables (code_of b)) (extension b w p).point
  unfolding system_of
  point_taken h =
      let x = extension_exactly.0 h in
      sym (ap (λ (e : Extended). take (variables (code_of b)) e.point) (extension_is x.0 x.1 x.2)
      ∙ take_written (point_of (code_of b) w) p (variables (code_of b)) (point (code_of b) (Accepted.accepted b x.0) w x.2).point.long)
