-- Two tests together, a test that cannot pass, and a test of two numbers. Assumes nothing.
use Rattle.integers.proofs.Prelude.{◌≡◌, refl, sym, subst, ◌∙◌, Bool, true, false, ◌&&◌, ℕ, T, eqb, eqb-true, eq-eqb}

pub and_left : (s t : Bool) → (s && t) ≡ true → s ≡ true
and_left true t h = refl
and_left false t h = h

pub and_right : (s t : Bool) → (s && t) ≡ true → t ≡ true
and_right true t h = h
and_right false t h = cc

pub and_both : (s t : Bool) → s ≡ true → t ≡ true → (s && t) ≡ true
and_both s t h k = rw (h, k)

pub and_false : (s t : Bool) → (s && t) ≡ false → t ≡ true → s ≡ false
and_false true t h e = sym e ∙ h
and_false false t h e = refl

pub fails : (t : Bool) → (t ≡ true → ⊥) → t ≡ false
fails true h = absurd (h refl)
fails false h = refl

-- two tests that pass together
pub same_test : (s t : Bool) → (s ≡ true → t ≡ true) → (t ≡ true → s ≡ true) → s ≡ t
same_test true t h k = sym (h refl)
same_test false t h k = sym (fails t (λ e. subst T (sym (k e)) tt))

pub eqb_sym : (a b : ℕ) → eqb a b ≡ eqb b a
eqb_sym a b = same_test (eqb a b) (eqb b a) (λ e. eq-eqb b a (sym (eqb-true a b e))) (λ e. eq-eqb a b (sym (eqb-true b a e)))
