-- Group steps, one after the other: what has been done and what remains of each frame is the whole. Assumes nothing.
use Rattle.integers.proofs.Prelude.{◌≡◌, refl, sym, ap, subst, ◌∙◌, Bool, true, false, cond, List, ℕ, suc, ◌+◌, ◌-◌, ◌*◌, ◌≤◌, ◌<◌, arith, add-one, T, eqb, ℤ, get_or}
use Rattle.lists.specs.Tabulated.{part}
use Rattle.quotient.specs.Quotient.{quotient}
use Rattle.model.specs.declared.Settings.{Settings}
use Rattle.model.specs.Code.{Code}
use Rattle.model.specs.Iteration.{State}
use Rattle.model.specs.Run.{run_from}
use Rattle.model.specs.Bounds.{RowsWithin}
use Rattle.model.specs.Group.{Frame, onward, end_of}
use Rattle.model.specs.GroupClaims.{Going}
use Rattle.model.proofs.GroupSteps.{steps_are_runs}
use Rattle.lanes.specs.declared.Plan.{Plan}
use Rattle.lanes.specs.Lanes.{Fits, lane_weighed, lane_state}
use Rattle.lane_step.specs.Step.{system_for, Weighed, Summed, Small}
use Rattle.group_step.specs.declared.Stage.{Stage}
use Rattle.group_step.specs.Frames.{going, iterations, stop_of, part_state, ended_in, frame_now}
use Rattle.group_step.specs.declared.Stage.TheVariants as stage
use Rattle.run.proofs.Remains.{any}
use Rattle.group_run.specs.Course.{end_from, InLanes}
use Rattle.group_run.proofs.Parts.{Parts}

module _ (p : Plan) (o : Settings) (ts counts : List ℕ) (F : ℕ) where
  abbrev pub frame : ℕ → ℕ → List ℤ → Parts → ℕ → Frame
  frame i k w x f = frame_now p i k w x.stages x.sums x.values x.rows f

  -- the lanes and the lists, which were w₀ and x₀ at first, when k iterations are done and list i has the sums for one more
  pub record Stepped (w₀ : List ℤ) (x₀ : Parts) (w : List ℤ) (x : Parts) (i k : ℕ) : Type 0 where
    pub two : i ≤ 1
    pub few : k ≤ o.limit
    pub first : k ≡ 0 → x.stages ≡ x₀.stages
    pub lanes : InLanes p o ts counts i k x.stages w
    pub ran : (f : ℕ) → going x.stages f ≡ true → going x₀.stages f ≡ true
    pub kept : (l v : ℕ) → l < p.lanes → lane_weighed p w l v ≡ lane_weighed p w₀ l v
    pub rest : (f : ℕ) → f < F → (c : Code) (costs : List ℤ) → (going x₀.stages f ≡ true → Weighed p o.weight costs w₀ f)
        → end_of (system_for c p ts) o costs (frame (1 - i) k w x f) ≡ end_of (system_for c p ts) o costs (frame 1 0 w₀ x₀ f)

  -- one step more, to w' and y
  module _ {w₀ w : List ℤ} {x₀ x : Parts} {i k : ℕ} (w' : List ℤ) (y : Parts) (room : F ≤ p.lanes) (to_come : k < o.limit) (r : Stepped w₀ x₀ w x i k) (fits : Fits p w') (below : (f : ℕ) → going y.stages f ≡ true → f < F)
      (next : (f : ℕ) → f < F → (c : Code) (costs : List ℤ) → (going x.stages f ≡ true → Weighed p o.weight costs w f)
      → frame i (suc k) w' y f ≡ onward (system_for c p ts) o costs (frame (1 - i) k w x f))
      (small : (l : ℕ) → l < p.lanes → Small p counts (suc k) w' l)
      (same : (l v : ℕ) → l < p.lanes → lane_weighed p w' l v ≡ lane_weighed p w l v)
      (on : (f : ℕ) → going y.stages f ≡ true → (going x.stages f ≡ true) × Summed p ts (1 - i) w' f) where
    -- where a frame runs there is an iteration to come: before the step,
    goes : (f : ℕ) → Going o (frame (1 - i) k w x f)
    goes f = by (going x.stages f) refl
      where
        by : (t : Bool) → going x.stages f ≡ t → Going o (frame (1 - i) k w x f)
        by true e = rw e (λ _. r.lanes.more f e)
        by false e = rw e (λ h. absurd (subst T (sym h) tt))

    -- and after it
    more : (f : ℕ) → going y.stages f ≡ true → suc k < o.limit
    more f h =
        let own = r.lanes.weighed f (on f h).0 in
        let g = system_for any p ts in
        let going : Going o (frame i (suc k) w' y f)
        = subst (Going o) (sym (next f (below f h) any own.0 (λ _. own.1))) ((steps_are_runs g o own.0).going (frame (1 - i) k w x f)) in
        (rw h at going) refl

    weighed : (f : ℕ) → going y.stages f ≡ true → (costs : List ℤ) × Weighed p o.weight costs w' f
    weighed f h =
        let own = r.lanes.weighed f (on f h).0 in
        let less = below f h in
        (own.0, λ v. same f v (omega arith) ∙ own.1 v)

    rest : (f : ℕ) → f < F → (c : Code) (costs : List ℤ) → (going x₀.stages f ≡ true → Weighed p o.weight costs w₀ f)
        → end_of (system_for c p ts) o costs (frame i (suc k) w' y f) ≡ end_of (system_for c p ts) o costs (frame 1 0 w₀ x₀ f)
    rest f h c costs own =
        let g = system_for c p ts in
        ap (end_of g o costs) (next f h c costs (λ t v. r.kept f v (omega arith) ∙ own (r.ran f t) v))
        ∙ (steps_are_runs g o costs).keeps (frame (1 - i) k w x f) (goes f)
        ∙ r.rest f h c costs own

    pub stepped_next : Stepped w₀ x₀ w' y (1 - i) (k + 1)
    stepped_next =
        let back : 1 - (1 - i) ≡ i = omega (arith, r.two) in
        rw (add-one k) (record {
          two = omega arith;
          few = omega arith;
          first = λ e. absurd (omega arith);
          lanes = record { fits = fits; small = small; more = more; summed = λ f h. (on f h).1; weighed = weighed };
          ran = λ f h. r.ran f (on f h).0;
          kept = λ l v h. same l v h ∙ r.kept l v h;
          rest = rw back rest;
        })

  -- the frames that still run are in their parts of the lists, which are y's then: no frame ends in another way
  module _ {w₀ w : List ℤ} {x₀ x : Parts} {i k : ℕ} (r : Stepped w₀ x₀ w x i k) (some : eqb k 0 ≡ false) (S c s : List ℤ)
      (taken : (f : ℕ) → f < F → part_state p S c s f ≡ cond (going x.stages f) (lane_state p (1 - i) w f) (part_state p x.sums x.values x.rows f)) where
    pub rows_done : (f : ℕ) → f < F → f < p.lanes → going x.stages f ≡ true → RowsWithin k (part (4 * p.triples) f s)
    rows_done f h l e = subst (RowsWithin k) (sym (ap (λ (a : State). a.rows) (rw e at (taken f h)))) (r.lanes.small f l).rows

    out : (f : ℕ) → f < F → (code : Code) (costs : List ℤ)
        → end_from p o code ts costs k (going x.stages f) (ended_in p x.stages S c s f) ≡ end_of (system_for code p ts) o costs (frame (1 - i) k w x f)
    out f h code costs = by (going x.stages f) refl (taken f h)
      where
        by : (t : Bool) → going x.stages f ≡ t → part_state p S c s f ≡ cond t (lane_state p (1 - i) w f) (part_state p x.sums x.values x.rows f)
            → end_from p o code ts costs k t (ended_in p x.stages S c s f) ≡ end_of (system_for code p ts) o costs (frame (1 - i) k w x f)
        by true e a = rw (e, some) (ap (run_from quotient (system_for code p ts) o costs (o.limit - k) k) a)
        by false e a = rw e (ap (λ (a : State). record { k = iterations (get_or x.stages f stage.Idle); settled = stop_of (get_or x.stages f stage.Idle); last = a }) a)

    pub taken_out : (f : ℕ) → f < F → (code : Code) (costs : List ℤ) → (going x₀.stages f ≡ true → Weighed p o.weight costs w₀ f)
        → end_from p o code ts costs k (going x.stages f) (ended_in p x.stages S c s f) ≡ end_of (system_for code p ts) o costs (frame 1 0 w₀ x₀ f)
    taken_out f h code costs own = out f h code costs ∙ r.rest f h code costs own
