-- Totals of lanes, as loops over lanes see them. Assumes nothing.
use Rattle.integers.proofs.Prelude.{◌≡◌, refl, ◌∙◌, List, ℕ, ◌+◌, ◌≤◌, ◌<◌, arith, dec_lt, length, get_or, set, length-set}
use lib.Seq.{get_or-set_same, get_or-set_other}

-- those of the lanes from..l have grown by f, and the others are as they were
pub record Reached (f : ℕ → ℕ) (from : ℕ) (old new : List ℕ) (l : ℕ) : Type 0 where
  pub long : length new ≡ length old
  pub done : (k : ℕ) → from ≤ k → k < l → get_or new k 0 ≡ get_or old k 0 + f k
  pub left : (k : ℕ) → l ≤ k → get_or new k 0 ≡ get_or old k 0

module _ (f : ℕ → ℕ) (from : ℕ) (old : List ℕ) where
  pub reached_none : Reached f from old old from
  reached_none = record { long = refl; done = λ k h m. absurd (omega arith); left = λ k _. refl }

  pub reached_next : {new : List ℕ} {l : ℕ} (x : ℕ) → l < length old → x ≡ get_or new l 0 + f l → Reached f from old new l → Reached f from old (set new l x) (l + 1)
  reached_next {new} {l} x h e r = record {
    long = length-set new l x ∙ r.long;
    done = λ k a b. by k a (dec_lt k l) b;
    left = λ k a. get_or-set_other new l k x 0 (λ p. omega arith) ∙ r.left k (omega arith);
  }
    where
      by : (k : ℕ) → from ≤ k → Dec (k < l) → k < l + 1 → get_or (set new l x) k 0 ≡ get_or old k 0 + f k
      by k a (yes m) b = get_or-set_other new l k x 0 (λ p. omega arith) ∙ r.done k a m
      by k a (no m) b = let p : k ≡ l = omega arith in rw (p, get_or-set_same new l x 0 (omega (arith, r.long))) (omega (arith, e, r.left l (omega arith)))
