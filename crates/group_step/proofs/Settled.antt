-- What becomes of the frames when one of them may have stopped. Assumes nothing.
use Rattle.integers.proofs.Prelude.{◌≡◌, refl, sym, ap, subst, ◌∙◌, T, Bool, true, false, cond, ◌&&◌, ◌||◌, List, [], ◌∷◌, ℕ, suc, ◌+◌, ◌-◌, ◌<◌, arith, dec_lt, eqb, eqb-true, eqb-false, eq-eqb, ne_eqb, ltb, lt-ltb, le-ltb, ℤ}
use Rattle.integers.proofs.Prelude.{add-one, leb, le-leb, leb-true, length, get_or, set, take}
use lib.Seq.{get_or-set_same, get_or-set_other}
use Rattle.std.proofs.Math.ListN.{get_or-map}
use Rattle.std.proofs.Math.Seq.{take-suc, take-suc-set}
use Rattle.std.proofs.lemmas.List.{map-append, map-set, length-map}
use Rattle.quotient.specs.Quotient.{quotient}
use Rattle.model.specs.declared.Settings.{Settings}
use Rattle.model.specs.Causes.{◌if◌}
use Rattle.model.specs.Iteration.{iterate}
use Rattle.model.specs.Splitting.{System}
use Rattle.model.specs.Run.{stop}
use Rattle.model.specs.Group.{Frame, onward}
use Rattle.lanes.specs.declared.Plan.{Plan}
use Rattle.lanes.specs.Lanes.{lane_state}
use Rattle.group_step.specs.declared.Stage.{Stage}
use Rattle.group_step.specs.declared.Stage.TheVariants as stage
use Rattle.group_step.specs.Frames.{is_running, marks, going, part_state, frame_now, stopped_by}

-- at f one thing holds, and elsewhere nothing has changed
at_one : {A : Type 0} (f : ℕ) (x y z : ℕ → A) → x f ≡ y f → ((g : ℕ) → (g ≡ f → ⊥) → x g ≡ z g) → (g : ℕ) → x g ≡ cond (eqb g f) (y g) (z g)
at_one {A = A} f x y z here there g = by (eqb g f) refl
  where
    by : (b : Bool) → eqb g f ≡ b → x g ≡ cond b (y g) (z g)
    by true e = subst (λ (j : ℕ). x j ≡ y j) (sym (eqb-true g f e)) here
    by false e = there g (eqb-false g f e)

-- ---- a stage that is stored
pub marks_set : (l : List Stage) (f : ℕ) (x : Stage) → marks (set l f x) ≡ set (marks l) f (is_running x)
marks_set l f x = map-set is_running l f x

pub length_marks : (l : List Stage) → length (marks l) ≡ length l
length_marks l = length-map l is_running

module _ (l : List Stage) (f : ℕ) (x : Stage) where
  pub going_here : f < length l → going (set l f x) f ≡ is_running x
  going_here h = rw (marks_set l f x) (get_or-set_same (marks l) f (is_running x) false (omega (arith, length_marks l)))

  pub going_there : (g : ℕ) → (g ≡ f → ⊥) → going (set l f x) g ≡ going l g
  going_there g d = rw (marks_set l f x) (get_or-set_other (marks l) f g (is_running x) false d)

  -- where it does not run, no other frame runs than before
  pub still : f < length l → is_running x ≡ false → (g : ℕ) → going (set l f x) g ≡ true → going l g ≡ true
  still h e g r = by (eqb g f) refl
    where
      by : (b : Bool) → eqb g f ≡ b → going l g ≡ true
      by true q = absurd (subst T (sym r ∙ ap (going (set l f x)) (eqb-true g f q) ∙ going_here h ∙ e) tt)
      by false q = sym (going_there g (eqb-false g f q)) ∙ r

module _ (p : Plan) (o : Settings) (i k : ℕ) (w : List ℤ) (l : List Stage) (S c s : List ℤ) (f : ℕ) (σ : ℕ → ℕ) where
  abbrev before : ℕ → Frame
  before g = frame_now p i k w l S c s g

  -- a frame that does not run stays
  pub rests : going l f ≡ false → (g : ℕ) → before g ≡ cond (eqb g f) (stopped_by o (σ g) (before g)) (before g)
  rests h = at_one f before (λ g. stopped_by o (σ g) (before g)) before (rw h refl) (λ g _. refl)

  -- as does one that runs and is not stopped
  pub goes : going l f ≡ true → σ f ≡ 0 → k < o.limit → (g : ℕ) → before g ≡ cond (eqb g f) (stopped_by o (σ g) (before g)) (before g)
  goes h z m = at_one f before (λ g. stopped_by o (σ g) (before g)) before (rw (h, z, lt-ltb k o.limit m) refl) (λ g _. refl)

  -- one that is stopped is in its parts
  module _ (p' : Plan) (l' : List Stage) (S' c' s' : List ℤ) (settled : Bool) (same : p' ≡ p) (stored : l' ≡ set l f (stage.Ended (record { k = k; settled = settled }))) (is : σ f ≡ (1 if settled)) (inside : f < length l)
      (parts : (g : ℕ) → part_state p' S' c' s' g ≡ cond (eqb g f) (lane_state p i w f) (part_state p S c s g)) where
    abbrev after : ℕ → Frame
    after g = frame_now p' i k w l' S' c' s' g

    here : part_state p' S' c' s' f ≡ lane_state p i w f
    here = parts f ∙ rw (eq-eqb f f refl) refl

    there : (g : ℕ) → (g ≡ f → ⊥) → part_state p' S' c' s' g ≡ part_state p S c s g
    there g d = parts g ∙ rw (ne_eqb g f d) refl

    own : get_or l' f stage.Idle ≡ stage.Ended (record { k = k; settled = settled })
    own = rw stored (get_or-set_same l f (stage.Ended (record { k = k; settled = settled })) stage.Idle inside)

    other : (g : ℕ) → (g ≡ f → ⊥) → get_or l' g stage.Idle ≡ get_or l g stage.Idle
    other g d = rw stored (get_or-set_other l f g (stage.Ended (record { k = k; settled = settled })) stage.Idle d)

    stops : going l' f ≡ false
    stops = rw stored (going_here l f (stage.Ended (record { k = k; settled = settled })) inside)

    goes_as : (g : ℕ) → (g ≡ f → ⊥) → going l' g ≡ going l g
    goes_as g d = rw stored (going_there l f (stage.Ended (record { k = k; settled = settled })) g d)

    pub stopped : going l f ≡ true → (eqb (σ f) 0 && ltb k o.limit) ≡ false → (g : ℕ) → after g ≡ cond (eqb g f) (stopped_by o (σ g) (before g)) (before g)
    stopped h e =
        at_one f after (λ g. stopped_by o (σ g) (before g)) before
        (rw (stops, own, here, h, e, is) refl)
        (λ g d. rw (goes_as g d, other g d, there g d, same) refl)

-- a stage, and its mark
pub goes_by : (l : List Stage) (f : ℕ) → going l f ≡ is_running (get_or l f stage.Idle)
goes_by l f = get_or-map is_running l f stage.Idle

-- where it does, or the limit is reached, the frame does not run on
pub runs_out : (b : Bool) (k K : ℕ) → (b || leb K k) ≡ true → (eqb (1 if b) 0 && ltb k K) ≡ false
runs_out true k K e = refl
runs_out false k K e = le-ltb k K (leb-true K k e)

pub runs_on : (b : Bool) (k K : ℕ) → (b || leb K k) ≡ false → ((1 if b) ≡ 0) × (k < K)
runs_on true k K e = absurd (subst T e tt)
runs_on false k K e = (refl, by (dec_lt k K))
  where
    by : Dec (k < K) → k < K
    by (yes h) = h
    by (no h) = absurd (subst T (sym (le-leb K k (omega arith)) ∙ e) tt)

-- the marks of the frames so far, and one more
pub marks_next : (running : List Bool) (l : List Stage) (f : ℕ) → f < length running → f < length l → take f running ≡ marks (take f l)
    → take (f + 1) (set running f (is_running (get_or l f stage.Idle))) ≡ marks (take (f + 1) l)
marks_next running l f h g e = rw (add-one f, take-suc-set running f (is_running (get_or l f stage.Idle)) h, take-suc l f stage.Idle g, e) (sym (map-append is_running (take f l) (get_or l f stage.Idle ∷ [])))

-- ---- one frame after the other
-- those below f were settled, from what they were
abbrev pub SettledTo : Settings → (ℕ → ℕ) → (ℕ → Frame) → (ℕ → Frame) → ℕ → Type 0
SettledTo o σ x₀ x f = (g : ℕ) → x g ≡ cond (ltb g f) (stopped_by o (σ g) (x₀ g)) (x₀ g)

pub settled_none : (o : Settings) (σ : ℕ → ℕ) (x : ℕ → Frame) → SettledTo o σ x x 0
settled_none o σ x g = rw (le-ltb g 0 (omega arith)) refl

pub settled_next : (o : Settings) (σ : ℕ → ℕ) (x₀ x y : ℕ → Frame) (f : ℕ) → SettledTo o σ x₀ x f
    → ((g : ℕ) → y g ≡ cond (eqb g f) (stopped_by o (σ g) (x g)) (x g)) → SettledTo o σ x₀ y (f + 1)
settled_next o σ x₀ x y f h e g = by (dec_lt g f) (dec_lt f g)
  where
    by : Dec (g < f) → Dec (f < g) → y g ≡ cond (ltb g (f + 1)) (stopped_by o (σ g) (x₀ g)) (x₀ g)
    by (yes l) _ = e g ∙ rw (ne_eqb g f (λ q. absurd (omega arith)), lt-ltb g (f + 1) (omega arith)) (h g ∙ rw (lt-ltb g f l) refl)
    by (no l) (yes m) = e g ∙ rw (ne_eqb g f (λ q. absurd (omega arith)), le-ltb g (f + 1) (omega arith)) (h g ∙ rw (le-ltb g f (omega arith)) refl)
    by (no l) (no m) =
        let same : g ≡ f = omega arith in
        let kept : x g ≡ x₀ g = h g ∙ rw (le-ltb g f (omega arith)) refl in
        e g ∙ rw (eq-eqb g f same, lt-ltb g (f + 1) (omega arith)) (ap (stopped_by o (σ g)) kept)

-- ---- a group step, of one frame: where it runs its lane has gone one iteration on, with the sums in the other list
pub steps_on : (g : System) (o : Settings) (costs : List ℤ) (p : Plan) (i k : ℕ) (w w' : List ℤ) (l : List Stage) (S c s : List ℤ) (f x : ℕ)
    → (going l f ≡ true → (lane_state p i w' f ≡ iterate quotient g o costs (lane_state p (1 - i) w f)) × (x ≡ stop g o (lane_state p (1 - i) w f) (lane_state p i w' f)))
    → stopped_by o x (frame_now p i (suc k) w' l S c s f) ≡ onward g o costs (frame_now p (1 - i) k w l S c s f)
unfolding onward
steps_on g o costs p i k w w' l S c s f x h = by (going l f) refl
  where
    by : (b : Bool) → going l f ≡ b → stopped_by o x (frame_now p i (suc k) w' l S c s f) ≡ onward g o costs (frame_now p (1 - i) k w l S c s f)
    by false e = rw e refl
    by true e = let q = h e in rw (e, q.1 ∙ ap (stop g o (lane_state p (1 - i) w f)) q.0, q.0) refl

-- a frame that runs afterwards has run before
pub ran : (o : Settings) (p : Plan) (i k : ℕ) (w : List ℤ) (l : List Stage) (S c s : List ℤ) (p' : Plan) (l' : List Stage) (S' c' s' : List ℤ) (f x : ℕ)
    → frame_now p' i k w l' S' c' s' f ≡ stopped_by o x (frame_now p i k w l S c s f) → going l' f ≡ true → going l f ≡ true
ran o p i k w l S c s p' l' S' c' s' f x e h = by (going l f) refl
  where
    by : (b : Bool) → going l f ≡ b → b ≡ true
    by true _ = refl
    by false q = let r : true ≡ false = ap (λ (y : Frame). y.running) (rw (h, q) at e) in sym r
