-- Causes and their numbers. Assumes nothing.
use Rattle.integers.proofs.Prelude.{◌≡◌, refl, sym, ap, ◌∙◌, Bool, true, false, not, not-false, eqb-true, ℕ, ◌<◌, eqb, arith}
use mathlib.Core.Logic.{◌⊎◌, inl, inr}
use denote.Enum.Bare.{sameb}
use Rattle.model.specs.contracts.Cause.{the_type}
use Rattle.model.specs.declared.Cause.{Cause}
use Rattle.model.specs.declared.Cause.TheVariants.{Cut, Mark, Size, Degree, Index, Order, Triples, Uncovered, Trailing, Room}
use Rattle.model.specs.declared.Cause.TheVariants.{Setting, Lengths, Cost, Sample, Entry, Text, Places, Long, Frames}
use Rattle.model.specs.Causes.{number}
use Rattle.model.proofs.Told.{determined}

pub refusing : (c : Cause) → number c ≡ 0 → ⊥
refusing c z = omega (arith, z, (determined.refuses c).0)

-- the cause of a record that is cut is the one with the number 1
pub cut_alone : (c : Cause) → sameb the_type c Cut ≡ eqb (number c) 1
cut_alone Cut = refl
cut_alone Mark = refl
cut_alone Size = refl
cut_alone Degree = refl
cut_alone Index = refl
cut_alone Order = refl
cut_alone Triples = refl
cut_alone Uncovered = refl
cut_alone Trailing = refl
cut_alone Room = refl
cut_alone Setting = refl
cut_alone Lengths = refl
cut_alone Cost = refl
cut_alone Sample = refl
cut_alone Entry = refl
cut_alone Text = refl
cut_alone Places = refl
cut_alone Long = refl
cut_alone Frames = refl

module _ (c : Cause) (t : Bool) (told : t ≡ not (sameb the_type c Cut)) where
  pub cut : t ≡ false → number c ≡ 1
  cut h = eqb-true (number c) 1 (sym (cut_alone c) ∙ not-false (sameb the_type c Cut) (sym told ∙ h))

  pub cut_short : (came : ℕ) → (t ≡ true) ⊎ ((t ≡ false) × (came < 3)) → number c ≡ 1 → came < 3
  cut_short came (inl h) one = let e : true ≡ false = sym h ∙ (told ∙ ap not (cut_alone c ∙ ap (λ n. eqb n 1) one)) in absurd (grind (arith, e))
  cut_short came (inr h) one = h.1
