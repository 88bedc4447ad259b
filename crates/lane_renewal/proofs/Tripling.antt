-- The two ways to say what triples a walk goes through. Assumes nothing.
use Rattle.integers.proofs.Prelude.{◌≡◌, List, ℕ, ◌+◌, ◌*◌, ◌<◌, arith, dec_lt, length}
use mathlib.Core.Logic.{◌⊎◌, inl, inr}
use Rattle.model.specs.Splitting.{blank, member}
use Rattle.lanes.specs.declared.Plan.{Plan}
use Rattle.lane_triples.specs.Walk.{Tripled}
use Rattle.lane_renewal.specs.Tripling.{IsTripled}

module _ {p : Plan} {ts counts : List ℕ} where
  pub tripled : IsTripled p ts counts → Tripled p ts counts
  tripled g = record {
    long = g.long;
    named = record { few = g.few; first = g.first; second = g.second; third = λ t h. by t h (dec_lt (member ts t 2) p.variables) };
    counted = g.counted;
    auxiliaries = g.auxiliaries;
  }
    where
      by : (t : ℕ) → 3 * t + 2 < length ts → Dec (member ts t 2 < p.variables) → (member ts t 2 < p.variables) ⊎ (member ts t 2 ≡ blank)
      by t h (yes l) = inl l
      by t h (no l) = inr (is (dec_lt (member ts t 2) blank) (dec_lt blank (member ts t 2)))
        where
          is : Dec (member ts t 2 < blank) → Dec (blank < member ts t 2) → member ts t 2 ≡ blank
          is (yes a) _ = absurd (l (g.third t h (λ e. omega arith)))
          is _ (yes a) = absurd (l (g.third t h (λ e. omega arith)))
          is (no a) (no b) = omega arith

  pub is_tripled : Tripled p ts counts → IsTripled p ts counts
  is_tripled g = record {
    long = g.long;
    few = g.named.few;
    first = g.named.first;
    second = g.named.second;
    third = λ t h n. by t n (g.named.third t h);
    counted = g.counted;
    auxiliaries = g.auxiliaries;
  }
    where
      by : (t : ℕ) → (member ts t 2 ≡ blank → ⊥) → (member ts t 2 < p.variables) ⊎ (member ts t 2 ≡ blank) → member ts t 2 < p.variables
      by t n (inl l) = l
      by t n (inr e) = absurd (n e)
