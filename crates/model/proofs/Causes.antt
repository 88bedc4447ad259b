-- Lists of causes: the first that holds, and what the number 0 says. Assumes nothing.
use Rattle.integers.proofs.Prelude.{◌≡◌, refl, ap₂, subst, ◌∙◌, Bool, true, false, ◌||◌, List, [], ◌∷◌, ◌++◌, ℕ, zero, suc, ◌≤◌, arith, ltb-false, le-ltb, T, ltb}
use mathlib.Core.Logic.{◌↔◌}
use Rattle.lists.specs.Entries.{Each}
use Rattle.model.specs.declared.Settings.{Settings}
use Rattle.model.specs.Limits.{most_weight, most_ratio, most_iterations}
use Rattle.model.specs.Causes.{◌if◌, first_of, outside, accepted}
use Rattle.model.specs.Calls.{InRange, out_of_range}

-- the last cause decides alone
pub only : (c : ℕ) → first_of (c ∷ []) ≡ c
only zero = refl
only (suc c) = refl

-- the first cause, where it holds
pub refused : (c : ℕ) (l : List ℕ) → (c ≡ 0 → ⊥) → first_of (c ∷ l) ≡ c
refused zero l h = absurd (h refl)
refused (suc c) l h = refl

-- of four causes, each of whose tests agrees with another
abbrev pub of_four : ℕ → ℕ → ℕ → ℕ → Bool → Bool → Bool → Bool → ℕ
of_four a b c d s t u v = first_of (a if s ∷ b if t ∷ c if u ∷ d if v ∷ [])

pub by_tests : (a b c d : ℕ) (s t u v : Bool) {s' t' u' v' : Bool} → s' ≡ s → t' ≡ t → u' ≡ u → v' ≡ v → of_four a b c d s' t' u' v' ≡ of_four a b c d s t u v
by_tests a b c d s t u v {u' = u'} {v' = v'} p q r w =
    ap₂ (λ (s t : Bool). of_four a b c d s t u' v') p q ∙ ap₂ (λ (u v : Bool). of_four a b c d s t u v) r w

-- a cause 0 in second place
pub first_skip : (a : ℕ) (l : List ℕ) → first_of (a ∷ 0 ∷ l) ≡ first_of (a ∷ l)
first_skip zero l = refl
first_skip (suc n) l = refl

-- and in third place
pub second_skip : (a b : ℕ) (l : List ℕ) → first_of (a ∷ b ∷ 0 ∷ l) ≡ first_of (a ∷ b ∷ l)
second_skip zero b l = first_skip b l
second_skip (suc n) b l = refl

-- the first cause of a list may be found first, and then stand for the list
pub first_in : (l m : List ℕ) → first_of (first_of l ∷ m) ≡ first_of (l ++ m)
first_in [] m = refl
first_in (zero ∷ l) m = first_in l m
first_in (suc c ∷ l) m = refl

-- the same at a list's end
pub first_end : (l m : List ℕ) → first_of (l ++ (first_of m ∷ [])) ≡ first_of (l ++ m)
first_end [] m = only (first_of m)
first_end (zero ∷ l) m = first_end l m
first_end (suc c ∷ l) m = refl

-- of two lists joined: the second decides where no cause of the first holds
pub first_joined : (l m : List ℕ) → accepted (first_of l) (first_of m) (first_of l) ≡ first_of (l ++ m)
first_joined [] m = refl
first_joined (zero ∷ l) m = first_joined l m
first_joined (suc c ∷ l) m = refl

-- and none of both holds where none of each does
pub none_joined : (l m : List ℕ) → (first_of (l ++ m) ≡ 0) ↔ ((first_of l ≡ 0) × (first_of m ≡ 0))
none_joined [] m = (λ h. (refl, h), λ h. h.1)
none_joined (zero ∷ l) m = none_joined l m
none_joined (suc c ∷ l) m = (λ h. absurd (omega arith), λ h. absurd (omega (arith, h.0)))

-- what is not accepted stays
pub stays : {A : Type 0} (c : ℕ) (x y : A) → (c ≡ 0 → ⊥) → accepted c x y ≡ y
stays zero x y h = absurd (h refl)
stays (suc c) x y h = refl

-- none of the causes holds
abbrev pub Clear : List ℕ → Type 0
Clear l = Each (λ c. c ≡ 0) l

pub clear : (l : List ℕ) → first_of l ≡ 0 → Clear l
clear [] h = tt
clear (zero ∷ l) h = (refl, clear l h)
clear (suc c ∷ l) h = absurd (omega arith)

pub unless : (c : ℕ) (t : Bool) → suc c if t ≡ 0 → t ≡ false
unless c true h = absurd (omega arith)
unless c false h = refl

pub or_false : (s t : Bool) → (s || t) ≡ false → (s ≡ false) × (t ≡ false)
or_false true t h = absurd (subst T h tt)
or_false false t h = (refl, h)

pub within : (low high x : ℕ) → outside low high x ≡ false → (low ≤ x) × (x ≤ high)
within low high x h = let e = or_false (ltb x low) (ltb high x) h in (ltb-false x low e.0, ltb-false high x e.1)

pub inside : (low high x : ℕ) → low ≤ x → x ≤ high → outside low high x ≡ false
inside low high x h k = rw (le-ltb x low h, le-ltb high x k)

-- the settings that are accepted
pub not_out_of_range : (o : Settings) → (out_of_range o ≡ false) ↔ InRange o
not_out_of_range o = (
  λ h.
      let a = or_false (outside 1 most_weight o.weight) _ h in
      let b = or_false (ltb most_ratio o.ratio) _ a.1 in
      record { weight = within 1 most_weight o.weight a.0; ratio = ltb-false most_ratio o.ratio b.0; limit = within 1 most_iterations o.limit b.1 },
  λ r.
      rw (
        inside 1 most_weight o.weight r.weight.0 r.weight.1,
        le-ltb most_ratio o.ratio r.ratio,
        inside 1 most_iterations o.limit r.limit.0 r.limit.1,
      ),
)
