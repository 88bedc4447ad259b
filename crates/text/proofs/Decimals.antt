-- Decimal digits: the last one and those before it, and how many there are. Assumes nothing.
use Rattle.integers.proofs.Prelude.{◌≡◌, refl, ap, ◌∙◌, Bool, true, false, cond, List, [], ◌∷◌, ◌++◌, ℕ, zero, suc, ◌+◌, ◌/◌, ◌%◌, ◌^◌, ◌≤◌, ◌<◌, arith}
use Rattle.integers.proofs.Prelude.{ltb-false, lt-ltb, le-ltb, ltb, length, length-append}
use native.Mathlib.Nat.{div-lt_self, div-lt_iff_lt-mul}
use Rattle.model.specs.Text.{digits, decimal}

-- more room changes nothing
enough : (f g x : ℕ) → x < f → x < g → digits f x ≡ digits g x
enough zero g x h k = absurd (omega arith)
enough (suc f) zero x h k = absurd (omega arith)
enough (suc f) (suc g) x h k = by (ltb x 10) refl (enough f g (x / 10))
  where
    by : (t : Bool) → ltb x 10 ≡ t → (x / 10 < f → x / 10 < g → digits f (x / 10) ≡ digits g (x / 10))
        → cond t [] (digits f (x / 10)) ++ ((48 + x % 10) ∷ []) ≡ cond t [] (digits g (x / 10)) ++ ((48 + x % 10) ∷ [])
    by true e ih = refl
    by false e ih =
        let l = ltb-false x 10 e in
        let less = div-lt_self {n = x} {k = 10} (omega arith) (omega arith) in
        ap (λ (d : List ℕ). d ++ ((48 + x % 10) ∷ [])) (ih (omega arith) (omega arith))

-- the digits before the last
abbrev pub leading : ℕ → List ℕ
leading x = cond (ltb x 10) [] (decimal (x / 10))

pub leading_none : (x : ℕ) → x < 10 → leading x ≡ []
leading_none x h = rw (lt-ltb x 10 h)

pub leading_more : (x : ℕ) → 10 ≤ x → leading x ≡ decimal (x / 10)
leading_more x h = rw (le-ltb x 10 h)

pub decimal_is : (x : ℕ) → decimal x ≡ leading x ++ ((48 + x % 10) ∷ [])
unfolding decimal
decimal_is x = by (ltb x 10) refl
  where
    by : (t : Bool) → ltb x 10 ≡ t → cond t [] (digits x (x / 10)) ++ ((48 + x % 10) ∷ []) ≡ cond t [] (digits (suc (x / 10)) (x / 10)) ++ ((48 + x % 10) ∷ [])
    by true e = refl
    by false e =
        let more = ltb-false x 10 e in
        rw (enough x (suc (x / 10)) (x / 10) (div-lt_self {n = x} {k = 10} (omega arith) (omega arith)) (omega arith))

pub decimal_length : (x : ℕ) → length (decimal x) ≡ length (leading x) + 1
decimal_length x = ap length (decimal_is x) ∙ length-append (leading x) ((48 + x % 10) ∷ [])

few : (f d x : ℕ) → x < 10 ^ suc d → length (digits f x) ≤ suc d
few zero d x h = omega arith
few (suc f) d x h = by (ltb x 10) refl d h (λ d. few f d (x / 10))
  where
    by : (t : Bool) → ltb x 10 ≡ t → (d : ℕ) → x < 10 ^ suc d → ((d : ℕ) → x / 10 < 10 ^ suc d → length (digits f (x / 10)) ≤ suc d)
        → length (cond t [] (digits f (x / 10)) ++ ((48 + x % 10) ∷ [])) ≤ suc d
    by true e d h ih = omega arith
    by false e zero h ih = absurd (omega (arith, ltb-false x 10 e))
    by false e (suc d) h ih =
        let less = (div-lt_iff_lt-mul {k = 10} {x = x} {y = 10 ^ suc d} (omega arith)).1 (omega arith) in
        omega (arith, length-append (digits f (x / 10)) ((48 + x % 10) ∷ []), ih d less)

-- a number of 64 bits has at most 20
pub decimal_few : (x : ℕ) → x < 2 ^ 64 → length (decimal x) ≤ 20
unfolding decimal
decimal_few x h = few (suc x) 19 x (omega arith)
