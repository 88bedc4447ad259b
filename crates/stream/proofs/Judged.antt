-- The causes of a settings record, setting by setting. Assumes nothing.
use Rattle.integers.proofs.Prelude.{◌≡◌, refl, sym, ◌∙◌, Bool, true, false, List, [], ◌∷◌, ℕ, ◌+◌, ◌≤◌, ◌<◌, arith, le-ltb, lt-ltb, length, drop}
use Rattle.model.specs.Causes.{◌if◌, first_of, short, outside}
use Rattle.model.specs.Limits.{most_iterations}
use Rattle.model.specs.Records.{two_bytes}
use Rattle.program.specs.Frames.{judge_settings_up_to, judge_settings}

-- one setting: its cause is the first, or there is none and the rest decides
decides : (a b : Bool) (l : List ℕ) {c : ℕ} → c ≡ first_of (1 if a ∷ 11 if b ∷ []) → 0 < c → c ≡ first_of (1 if a ∷ 11 if b ∷ l)
decides true b l e h = e
decides false true l e h = e
decides false false l e h = absurd (omega (arith, e, h))

passes : (a b : Bool) (l : List ℕ) → 0 ≡ first_of (1 if a ∷ 11 if b ∷ []) → first_of (1 if a ∷ 11 if b ∷ l) ≡ first_of l
passes true b l e = absurd (omega (arith, e))
passes false true l e = absurd (omega (arith, e))
passes false false l e = refl

abbrev one : List ℕ → ℕ → ℕ → ℕ → ℕ
one s at least most = first_of (1 if short (at + 2) s ∷ 11 if outside least most (two_bytes (drop at s)) ∷ [])

module _ (s : List ℕ) where
  abbrev after_limit : List ℕ
  after_limit = 1 if short 12 s ∷ []

  abbrev after_ratio : List ℕ
  after_ratio = 1 if short 8 s ∷ 11 if outside 1 most_iterations (two_bytes (drop 6 s)) ∷ after_limit

  abbrev after_weight : List ℕ
  after_weight = 1 if short 6 s ∷ 11 if outside 0 1023 (two_bytes (drop 4 s)) ∷ after_ratio

  module _ (long : 2 ≤ length s) (mark : two_bytes s ≡ 0x4C53) where
    marked : judge_settings s ≡ first_of (1 if short 4 s ∷ 11 if outside 1 65535 (two_bytes (drop 2 s)) ∷ after_weight)
    unfolding judge_settings_up_to
    marked = rw (le-ltb (length s) 2 long, mark, le-ltb (two_bytes (drop 4 s)) 0 (omega arith)) refl

    pub weight_decides : {c : ℕ} → c ≡ one s 2 1 65535 → 0 < c → c ≡ judge_settings s
    weight_decides e h = decides _ _ after_weight e h ∙ sym marked

    module _ (weight : 0 ≡ one s 2 1 65535) where
      weighed : judge_settings s ≡ first_of after_weight
      weighed = marked ∙ passes _ _ after_weight weight

      pub ratio_decides : {c : ℕ} → c ≡ one s 4 0 1023 → 0 < c → c ≡ judge_settings s
      ratio_decides e h = decides _ _ after_ratio e h ∙ sym weighed

      module _ (ratio : 0 ≡ one s 4 0 1023) where
        limited : judge_settings s ≡ first_of after_ratio
        limited = weighed ∙ passes _ _ after_ratio ratio

        pub limit_decides : {c : ℕ} → c ≡ one s 6 1 most_iterations → 0 < c → c ≡ judge_settings s
        limit_decides e h = decides _ _ after_limit e h ∙ sym limited

        module _ (limit : 0 ≡ one s 6 1 most_iterations) where
          left : judge_settings s ≡ first_of after_limit
          left = limited ∙ passes _ _ after_limit limit

          pub cut : length s < 12 → 1 ≡ judge_settings s
          cut h = sym (left ∙ rw (lt-ltb (length s) 12 h) refl)

          pub whole : 12 ≤ length s → 0 ≡ judge_settings s
          whole h = sym (left ∙ rw (le-ltb (length s) 12 h) refl)
