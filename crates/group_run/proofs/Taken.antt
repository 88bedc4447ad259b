-- Frames that are taken out of their lanes, one after the other. Assumes nothing.
use Rattle.integers.proofs.Prelude.{◌≡◌, refl, ◌∙◌, true, false, cond, List, ℕ, ◌+◌, ◌≤◌, ◌<◌, arith, eqb, eq-eqb, ne_eqb, ℤ, length}
use Rattle.lists.proofs.Entries.{below_next}
use Rattle.lanes.specs.declared.Plan.{Plan}
use Rattle.lanes.specs.Lanes.{lane_state}
use Rattle.group_step.specs.declared.Stage.{Stage}
use Rattle.group_step.specs.Frames.{going, part_state}

module _ (p : Plan) (i : ℕ) (w : List ℤ) (stages : List Stage) (S₀ c₀ s₀ : List ℤ) where
  -- the lists, which were these at first, when the first n frames are out where they run
  pub record Taken (S c s : List ℤ) (n : ℕ) : Type 0 where
    pub out : (f : ℕ) → f < n → part_state p S c s f ≡ cond (going stages f) (lane_state p i w f) (part_state p S₀ c₀ s₀ f)
    pub left : (f : ℕ) → n ≤ f → part_state p S c s f ≡ part_state p S₀ c₀ s₀ f

  -- the next does not run
  pub taken_none : {S c s : List ℤ} {n : ℕ} → going stages n ≡ false → Taken S c s n → Taken S c s (n + 1)
  taken_none {n = n} r t = record {
    out = below_next (λ f. _) n t.out (t.left n (omega arith) ∙ rw r refl);
    left = λ f h. t.left f (omega arith);
  }

  -- it runs, and is taken out
  module _ {S c s : List ℤ} {n : ℕ} (r : going stages n ≡ true) (t : Taken S c s n) (S' c' s' : List ℤ)
      (own : (f : ℕ) → part_state p S' c' s' f ≡ cond (eqb f n) (lane_state p i w n) (part_state p S c s f)) where
    other : (f : ℕ) → (f ≡ n → ⊥) → part_state p S' c' s' f ≡ part_state p S c s f
    other f h = own f ∙ rw (ne_eqb f n h) refl

    pub taken_next : Taken S' c' s' (n + 1)
    taken_next = record {
      out = below_next (λ f. part_state p S' c' s' f ≡ cond (going stages f) (lane_state p i w f) (part_state p S₀ c₀ s₀ f)) n
          (λ f h. other f (λ e. omega arith) ∙ t.out f h) (own n ∙ rw (eq-eqb n n refl, r) refl);
      left = λ f h. other f (λ e. omega arith) ∙ t.left f (omega arith);
    }
