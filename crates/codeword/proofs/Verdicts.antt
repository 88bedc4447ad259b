-- The answers of the codeword test and of the extension, by their causes in order. Assumes nothing.
use Rattle.integers.proofs.Prelude.{◌≡◌, sym, ap, ◌∙◌, List, [], ◌∷◌, ◌++◌, ℕ, zero, suc, ◌≤◌, ◌<◌, arith, lt-ltb, le-ltb, eqb-true, not-false, length}
use Rattle.lists.specs.Tabulated.{written}
use Rattle.model.specs.Causes.{first_of, accepted}
use Rattle.model.specs.Code.{Code, variables}
use Rattle.model.specs.Records.{code_of, judge}
use Rattle.model.specs.Words.{Outcome, first_odd, tested}
use Rattle.model.specs.Points.{point_of}
use Rattle.model.specs.Calls.{word_causes, codeword_test, extension}
use Rattle.model.specs.Promises.{TestCall, ExtensionCall}
use Rattle.model.proofs.Causes.{first_in, clear, unless}
use Rattle.model.proofs.WordCalls.{no_room}
use Rattle.model.proofs.Promises.{test_call, extension_call}

abbrev pub refusal : ℕ → Outcome
refusal c = record { number = c; place = 0 }

-- ---- what is told of a word of the code k
module _ (k : Code) (w : List ℕ) where
  pub odd_told : (j : ℕ) → (j ≡ first_odd k w) × (j < length k.checks) → record { number = 17; place = j } ≡ tested k w
  unfolding tested
  odd_told j found = rw (← found.0, lt-ltb j (length k.checks) found.1)

  pub even_told : first_odd k w ≡ length k.checks → refusal 0 ≡ tested k w
  unfolding tested
  even_told none = rw (none, le-ltb (length k.checks) (length k.checks) (omega arith))

-- ---- the causes of both calls: the code, the word, then l
module _ (b w : List ℕ) where
  abbrev causes : List ℕ → ℕ
  causes l = first_of (judge b ∷ (word_causes (code_of b).bits w ++ l))

  by_code : (l : List ℕ) (c : ℕ) → c ≡ judge b → 1 ≤ c → causes l ≡ c
  by_code l zero e h = absurd (omega arith)
  by_code l (suc c) e h = rw (← e)

  refused : (c : ℕ) → causes [] ≡ c → 1 ≤ c → TestCall b w (refusal c)
  unfolding codeword_test
  refused zero e h = absurd (omega arith)
  refused (suc c) e h = test_call b w _ (rw e)

  unextended : (p : List ℕ) (c : ℕ) → causes (no_room b p) ≡ c → 1 ≤ c → ExtensionCall b w p (record { outcome = refusal c; point = p })
  unfolding extension
  unextended p zero e h = absurd (omega arith)
  unextended p (suc c) e h = extension_call b w p _ (rw e)

  -- the code is refused
  module _ (c : ℕ) (e : c ≡ judge b) (h : 1 ≤ c) where
    pub test_unsound : TestCall b w (refusal c)
    test_unsound = refused c (by_code [] c e h) h

    pub extend_unsound : (p : List ℕ) → ExtensionCall b w p (record { outcome = refusal c; point = p })
    extend_unsound p = unextended p c (by_code (no_room b p) c e h) h

  -- the code is sound, and has n bits
  module _ (judged : 0 ≡ judge b) (k : Code) (is : k ≡ code_of b) (n : ℕ) (bits : n ≡ k.bits) where
    after : (l : List ℕ) → causes l ≡ first_of (first_of (word_causes n w) ∷ l)
    after l = let e : n ≡ (code_of b).bits = bits ∙ ap (λ (k : Code). k.bits) is in rw (← judged, e) (sym (first_in (word_causes (code_of b).bits w) l))

    -- the word is refused
    module _ (c : ℕ) (e : c ≡ first_of (word_causes n w)) (h : 1 ≤ c) where
      by_word : (l : List ℕ) (d : ℕ) → d ≡ first_of (word_causes n w) → 1 ≤ d → causes l ≡ d
      by_word l zero f g = absurd (omega (arith, g))
      by_word l (suc d) f g = after l ∙ rw (← f)

      pub test_refused : TestCall b w (refusal c)
      test_refused = refused c (by_word [] c e h) h

      pub extend_refused : (p : List ℕ) → ExtensionCall b w p (record { outcome = refusal c; point = p })
      extend_refused p = unextended p c (by_word (no_room b p) c e h) h

    -- it is accepted
    module _ (e : 0 ≡ first_of (word_causes n w)) where
      by_rest : (l : List ℕ) → causes l ≡ first_of l
      by_rest l = after l ∙ rw (← e)

      pub word_long : length w ≡ k.bits
      word_long =
          let x = clear (word_causes n w) (sym e) in
          eqb-true (length w) n (not-false _ (unless 11 _ x.0)) ∙ bits

      pub tells : (o : Outcome) → o ≡ tested k w → TestCall b w o
      unfolding codeword_test
      tells o t = test_call b w o (rw (by_rest [], ← is) t)

      module _ (p : List ℕ) where
        pub extend_short : length p < variables k → ExtensionCall b w p (record { outcome = refusal 10; point = p })
        extend_short h = unextended p 10 (by_rest (no_room b p) ∙ rw (← is, lt-ltb (length p) (variables k) h)) (omega arith)

        pub extends : variables k ≤ length p → (o : Outcome) (q : List ℕ) → o ≡ tested k w → q ≡ accepted o.number (written (point_of k w) p) p
            → ExtensionCall b w p (record { outcome = o; point = q })
        unfolding extension
        extends h o q t r =
            extension_call b w p _ (rw (by_rest (no_room b p), ← is, le-ltb (length p) (variables k) h, ← t, r))
