-- A call of the decoder: its causes, and what it leaves. Assumes nothing.
use Rattle.integers.proofs.Prelude.{◌≡◌, refl, sym, ap, subst, ◌∙◌, Bool, false, List, [], ◌∷◌, ◌++◌, ℕ, zero, suc, ◌≤◌, arith, eqb-true, not-false, ltb, le-ltb, ℤ, length, take, take_at}
use mathlib.Core.Logic.{◌⊎◌, inl, inr}
use Rattle.lists.specs.Entries.{some}
use Rattle.lists.specs.Tabulated.{written}
use Rattle.model.specs.declared.Settings.{Settings}
use Rattle.model.specs.Limits.{base_iterations, most_iterations}
use Rattle.model.specs.Causes.{first_of, accepted}
use Rattle.model.specs.Records.{code_of, judge, whole_causes, record_causes}
use Rattle.model.specs.Words.{word_of, first_undecided, first_odd, outcome}
use Rattle.model.specs.Points.{Codeword}
use Rattle.model.specs.Calls.{out_of_range, unequal, forbidden, Lists, Decoded, lacks_room, decoder_causes_up_to, decoder_cause_up_to, decoder_up_to, decoder_causes, decoder_cause, decoded_by, decoder}
use Rattle.model.specs.Order.{run_causes, Follows, Refusal, Ordered, one_to_nine}
use Rattle.model.specs.Told.{Refuses}
use Rattle.model.specs.DecoderClaims.{causes_before, run_of, Refused, Ran, AsBefore}
use Rattle.model.proofs.Causes.{first_joined, stays, Clear, clear, unless}
use Rattle.model.proofs.Order.{listed, whole, follow, refuses, after_records, outcome_order}
use Rattle.model.proofs.WordClaims.{tested_is, outcome_is, outcome_claims}

module _ (b : List ℕ) (o : Settings) (costs : List ℤ) (l : Lists) where
  pub causes_are : decoder_cause b o costs l ≡ first_of (judge b ∷ decoder_causes (code_of b) o costs l)
  unfolding decoder_cause_up_to
  causes_are = refl

  -- the causes with their tests, of the input and of the run
  abbrev input : List (ℕ × Bool)
  input = (11, out_of_range o) ∷ (12, unequal costs (code_of b).bits) ∷ (13, some forbidden costs) ∷ (10, lacks_room (code_of b) l) ∷ []

  abbrev output : List (ℕ × Bool)
  output =
      let k = code_of b in
      let c = (run_of b o costs).last.values in
      (16, ltb (first_undecided k c) k.bits) ∷ (17, ltb (first_odd k (word_of k c)) (length k.checks)) ∷ []

  -- the causes of the input, one by one
  pub input_ordered : Ordered (causes_before b o costs l) (one_to_nine ++ (10 ∷ 11 ∷ 12 ∷ 13 ∷ [])) (decoder_cause b o costs l)
  input_ordered =
      let T = one_to_nine ++ (10 ∷ 11 ∷ 12 ∷ 13 ∷ []) in
      after_records (10 ∷ 11 ∷ 12 ∷ 13 ∷ []) b (decoder_causes (code_of b) o costs l) (decoder_cause b o costs l)
      (listed T input refl) causes_are

  -- a refusal's number
  pub input_refuses : (c : ℕ) → decoder_cause b o costs l ≡ suc c → Refuses (suc c)
  input_refuses c e =
      let T = one_to_nine ++ (10 ∷ 11 ∷ 12 ∷ 13 ∷ []) in
      refuses (causes_before b o costs l) T c refl (subst (Ordered (causes_before b o costs l) T) e input_ordered)

  refusal : (c : ℕ) → decoder_cause b o costs l ≡ suc c
      → decoder b o costs l ≡ record { answer = record { number = suc c; place = 0; k = 0; settled = 0 }; lists = l }
  unfolding decoder_up_to
  refusal c h = rw h

  pub refused : (c : ℕ) → decoder_cause b o costs l ≡ suc c → Refused b o costs l (decoder b o costs l)
  refused c h =
      subst (Refused b o costs l) (sym (refusal c h)) (record {
        order = subst (Refusal (causes_before b o costs l) (one_to_nine ++ (10 ∷ 11 ∷ 12 ∷ 13 ∷ []))) h (input_ordered.refused c h);
        told = refl;
        untouched = refl;
      })

  -- an answer of a run is none of a refusal's
  pub ended_ran : (n : ℕ) → n ≡ (decoder b o costs l).answer.number → (n ≡ 0) ⊎ ((n ≡ 16) ⊎ (n ≡ 17)) → decoder_cause b o costs l ≡ 0
  ended_ran n e h = by (decoder_cause b o costs l) refl
    where
      none : (c : ℕ) → n ≡ suc c → Refuses (suc c) → (n ≡ 0) ⊎ ((n ≡ 16) ⊎ (n ≡ 17)) → ⊥
      none c e r (inl z) = omega arith
      none c e r (inr (inl z)) = omega arith
      none c e r (inr (inr z)) = omega arith

      by : (c : ℕ) → decoder_cause b o costs l ≡ c → decoder_cause b o costs l ≡ 0
      by zero f = f
      by (suc c) f = absurd (none c (e ∙ ap (λ (d : Decoded). d.answer.number) (refusal c f)) (input_refuses c f) h)

  module _ (h : decoder_cause b o costs l ≡ 0) where
    clear_causes : Clear (judge b ∷ decoder_causes (code_of b) o costs l)
    clear_causes = clear (judge b ∷ decoder_causes (code_of b) o costs l) (sym causes_are ∙ h)

    pub sound : judge b ≡ 0
    sound = clear_causes.0

    pub settings_allowed : out_of_range o ≡ false
    settings_allowed = unless 10 (out_of_range o) clear_causes.1.0

    pub costs_fit : length costs ≡ (code_of b).bits
    costs_fit = eqb-true (length costs) (code_of b).bits (not-false _ (unless 11 (unequal costs (code_of b).bits) clear_causes.1.1.0))

    pub ran_is : decoder b o costs l ≡ decoded_by (code_of b) (run_of b o costs) l
    unfolding decoder_up_to
    ran_is = rw h

    numbers : (c : List ℤ) → ((outcome (code_of b) c).number ≡ 0) ⊎ (((outcome (code_of b) c).number ≡ 16) ⊎ ((outcome (code_of b) c).number ≡ 17))
    numbers c =
        outcome_is (code_of b) c (λ x. (x.number ≡ 0) ⊎ ((x.number ≡ 16) ⊎ (x.number ≡ 17))) (λ k. inr (inl refl))
        (λ k. tested_is (code_of b) (word_of (code_of b) c) (λ x. (x.number ≡ 0) ⊎ ((x.number ≡ 16) ⊎ (x.number ≡ 17))) (λ k. inr (inr refl)) (λ k. inl refl))

    pub ran : Ran b o costs l (decoder b o costs l)
    unfolding decoded_by
    ran =
        let k = code_of b in
        let z = (run_of b o costs).last.values in
        let new = written (word_of k z) l.word in
        let taken : (outcome k z).number ≡ 0 → accepted (outcome k z).number new l.word ≡ new = λ h. rw h in
        subst (Ran b o costs l) (sym ran_is) (record {
          sound = input_ordered.sound h;
          number = numbers z;
          answer = (refl, refl);
          decided = outcome_claims k z;
          triples = refl;
          counts = refl;
          word = taken;
          codeword = λ n.
              subst (Codeword k) (sym (ap (take k.bits) (taken n) ∙ take_at (word_of k z) _ k.bits (outcome_claims k z).word.long))
              ((outcome_claims k z).codeword n);
          kept = stays (outcome k z).number new l.word;
        })

  -- the number, with the outcomes of a run as the last causes
  number_is : (c : ℕ)
      → (accepted c (decoded_by (code_of b) (run_of b o costs) l) (record { answer = record { number = c; place = 0; k = 0; settled = 0 }; lists = l })).answer.number
      ≡ accepted c (outcome (code_of b) (run_of b o costs).last.values).number c
  unfolding decoded_by
  number_is zero = refl
  number_is (suc c) = refl

  pub call_ordered : Ordered (record_causes b ++ (decoder_causes (code_of b) o costs l ++ run_causes (code_of b) (run_of b o costs).last.values))
      (one_to_nine ++ (10 ∷ 11 ∷ 12 ∷ 13 ∷ 16 ∷ 17 ∷ [])) (decoder b o costs l).answer.number
  unfolding decoder_up_to
  call_ordered =
      let T = one_to_nine ++ (10 ∷ 11 ∷ 12 ∷ 13 ∷ 16 ∷ 17 ∷ []) in
      let k = code_of b in
      let c = (run_of b o costs).last.values in
      after_records (10 ∷ 11 ∷ 12 ∷ 13 ∷ 16 ∷ 17 ∷ []) b (decoder_causes k o costs l ++ run_causes k c) _
      (listed T (input ++ output) refl)
      (number_is (decoder_cause b o costs l) ∙ rw (causes_are, outcome_order k c) (first_joined (judge b ∷ decoder_causes k o costs l) (run_causes k c)))

  pub call_follows : Follows 0 (whole_causes b ++ (decoder_causes (code_of b) o costs l ++ run_causes (code_of b) (run_of b o costs).last.values))
  call_follows =
      follow (whole b ++ (input ++ output)) refl

  -- ---- a K that is no more than two limits: the causes and the call are those of either
  module _ (m n : ℕ) (h : o.limit ≤ m) (k : o.limit ≤ n) where
    pub same_causes : decoder_causes_up_to m (code_of b) o costs l ≡ decoder_causes_up_to n (code_of b) o costs l
    same_causes = rw (le-ltb m o.limit h, le-ltb n o.limit k)

    pub same_call : decoder_up_to m b o costs l ≡ decoder_up_to n b o costs l
    unfolding decoder_up_to decoder_cause_up_to
    same_call = rw same_causes

  pub as_before : o.limit ≤ base_iterations → AsBefore b o costs l (decoder b o costs l)
  as_before h = record {
    causes = same_causes most_iterations base_iterations (omega arith) h;
    call = same_call most_iterations base_iterations (omega arith) h;
  }
