-- Lanes that get their frames' costs. Assumes nothing.
use Rattle.integers.proofs.Prelude.{◌≡◌, refl, sym, ap, subst, ◌∙◌, Bool, true, false, List, ℕ, ◌+◌, ◌≤◌, ◌<◌, arith, dec_lt, eqb, eqb-true, eqb-false}
use Rattle.integers.proofs.Prelude.{lt-ltb, le-ltb, T, ℤ, pos, ◌*ℤ◌, length, get_or-eq_default}
use lib.IntN.{*ℤ-zero}
use Rattle.lists.specs.Tabulated.{part}
use Rattle.lists.proofs.Entries.{below_next}
use Rattle.model.specs.Iteration.{at}
use Rattle.lanes.specs.declared.Plan.{Plan}
use Rattle.lanes.specs.Lanes.{in_lane, weighed_at, lane_weighed, Fits}
use Rattle.lane_step.specs.Step.{Weighed}
use Rattle.group_step.specs.declared.Stage.{Stage}
use Rattle.group_step.specs.Frames.{going}
use Rattle.group_run.specs.Course.{Put}

module _ (p : Plan) (W : ℕ) (costs : List ℤ) (stages : List Stage) where
  -- a frame has no more costs than its lane has entries for them, and past these W × L is 0
  weighed_all : (own w : List ℤ) (l : ℕ) → length own ≤ p.bits
      → ((b : ℕ) → b < p.bits → in_lane p.lanes w l (weighed_at p + b) ≡ pos W *ℤ at own b) → Weighed p W own w l
  weighed_all own w l long h v = by (dec_lt v p.bits)
    where
      by : Dec (v < p.bits) → lane_weighed p w l v ≡ pos W *ℤ at own v
      by (yes less) = rw (lt-ltb v p.bits less) (h v less)
      by (no more) =
          let none : at own v ≡ pos 0 = get_or-eq_default own (pos 0) (omega arith) in
          rw (le-ltb v p.bits (omega arith), none) (sym (*ℤ-zero (pos W)))

  -- ---- one frame more
  module _ (n : ℕ) {w w₁ : List ℤ} (put : Put p W costs stages n w w₁) where
    -- it does not run
    pub put_none : going stages n ≡ false → Put p W costs stages (n + 1) w w₁
    put_none r = record {
      fits = put.fits;
      weighed = below_next (λ f. going stages f ≡ true → Weighed p W (part p.bits f costs) w₁ f) n put.weighed
          (λ t. absurd (subst T (sym t ∙ r) tt));
      before = put.before;
      others = put.others;
    }

    -- it runs, and its lane gets its costs
    module _ (room : n < p.lanes) (r : going stages n ≡ true) (long : length (part p.bits n costs) ≡ p.bits) (w₂ : List ℤ) (fits : Fits p w₂)
        (here : (b : ℕ) → b < p.bits → in_lane p.lanes w₂ n (weighed_at p + b) ≡ pos W *ℤ at (part p.bits n costs) b)
        (front : (j : ℕ) → j < weighed_at p → in_lane p.lanes w₂ n j ≡ in_lane p.lanes w₁ n j)
        (other : (m j : ℕ) → m < p.lanes → (m ≡ n → ⊥) → in_lane p.lanes w₂ m j ≡ in_lane p.lanes w₁ m j) where
      kept : (l j : ℕ) → l < p.lanes → j < weighed_at p → in_lane p.lanes w₂ l j ≡ in_lane p.lanes w₁ l j
      kept l j h k = by (eqb l n) refl
        where
          by : (t : Bool) → eqb l n ≡ t → in_lane p.lanes w₂ l j ≡ in_lane p.lanes w₁ l j
          by true e = let is = eqb-true l n e in rw is (front j k)
          by false e = other l j h (eqb-false l n e)

      -- a frame before it
      earlier : (f : ℕ) → f < n → going stages f ≡ true → Weighed p W (part p.bits f costs) w₂ f
      earlier f h t v = rw (other f (weighed_at p + v) (omega arith) (λ e. omega arith)) (put.weighed f h t v)

      pub put_next : Put p W costs stages (n + 1) w w₂
      put_next = record {
        fits = fits;
        weighed = below_next (λ f. going stages f ≡ true → Weighed p W (part p.bits f costs) w₂ f) n earlier
            (λ _. weighed_all (part p.bits n costs) w₂ n (omega (arith, long)) here);
        before = λ l j h k. kept l j h k ∙ put.before l j h k;
        others = λ l j h t. other l j h (λ e. subst T (sym r ∙ ap (going stages) (sym e) ∙ t) tt) ∙ put.others l j h t;
      }
