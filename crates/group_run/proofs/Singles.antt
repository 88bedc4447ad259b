-- Frames that go on by themselves, one after the other. Assumes nothing.
use Rattle.integers.proofs.Prelude.{◌≡◌, refl, sym, ap, subst, ◌∙◌, Bool, true, false, cond, List, ℕ, ◌+◌, ◌≤◌, ◌<◌, arith, T, eqb, eqb-true, eq-eqb, ℤ, length}
use Rattle.lists.specs.Tabulated.{part}
use Rattle.lists.proofs.Entries.{below_next}
use Rattle.model.specs.declared.Settings.{Settings}
use Rattle.model.specs.Code.{Code}
use Rattle.model.specs.Run.{Ended}
use Rattle.model.specs.Bounds.{RowsWithin}
use Rattle.lanes.specs.declared.Plan.{Plan}
use Rattle.group_step.specs.declared.Stage.{Stage}
use Rattle.group_step.specs.Frames.{going, ended_in}
use Rattle.run.proofs.Remains.{any}
use Rattle.group_run.specs.Given.{Given}
use Rattle.group_run.specs.Course.{end_from, ends, RowsDone}
use Rattle.group_run.proofs.Givens.{given_still}
use Rattle.group_run.proofs.Parts.{Parts}

-- j iterations being done of those that run
module _ (p : Plan) (o : Settings) (ts counts : List ℕ) (costs : List ℤ) (F j : ℕ) where
  abbrev pub ended : Parts → ℕ → Ended
  ended x f = ended_in p x.stages x.sums x.values x.rows f

  abbrev pub ends_in : Parts → Code → ℕ → Ended
  ends_in x c f = ends p o c ts costs j x.stages x.sums x.values x.rows f

  -- the lists, which were x₀ at first, when the first n frames are done
  pub record Done (x₀ x : Parts) (n : ℕ) : Type 0 where
    pub given : Given p F o ts counts costs x.stages
    pub within : RowsDone p j x.stages x.rows
    pub none : (f : ℕ) → f < n → going x.stages f ≡ false
    pub same : (f : ℕ) → f < F → (c : Code) → ends_in x c f ≡ ends_in x₀ c f

  -- the next does not run
  pub done_none : {x₀ x : Parts} {n : ℕ} → n < F → going x.stages n ≡ false → Done x₀ x n → Done x₀ x (n + 1)
  done_none {x = x} {n = n} h r d = record {
    given = d.given;
    within = d.within;
    none = below_next (λ f. going x.stages f ≡ false) n d.none r;
    same = d.same;
  }

  -- it runs, and then the lists are y
  module _ {x₀ x : Parts} {n : ℕ} (h : n < F) (r : going x.stages n ≡ true) (d : Done x₀ x n) (y : Parts)
      (end : (f : ℕ) (c : Code) → ended y f ≡ cond (eqb f n) (end_from p o c ts (part p.bits n costs) j true (ended x n)) (ended x f))
      (stop : (f : ℕ) → going y.stages f ≡ cond (eqb f n) false (going x.stages f)) where
    -- what the other frames have stays
    other : (f : ℕ) → eqb f n ≡ false → (ended y f ≡ ended x f) × (going y.stages f ≡ going x.stages f)
    other f e = (end f any ∙ rw e refl, stop f ∙ rw e refl)

    last : going y.stages n ≡ false
    last = stop n ∙ rw (eq-eqb n n refl) refl

    -- one that still runs is another
    still : (f : ℕ) → going y.stages f ≡ true → eqb f n ≡ false
    still f t = by (eqb f n) refl
      where
        by : (b : Bool) → eqb f n ≡ b → b ≡ false
        by true e = absurd (subst T (sym t ∙ ap (going y.stages) (eqb-true f n e) ∙ last) tt)
        by false e = refl

    fewer : (f : ℕ) → going y.stages f ≡ true → going x.stages f ≡ true
    fewer f t = sym (other f (still f t)).1 ∙ t

    stopped : (f : ℕ) → f < n → going y.stages f ≡ false
    stopped f l = stop f ∙ by (eqb f n)
      where
        by : (b : Bool) → cond b false (going x.stages f) ≡ false
        by true = refl
        by false = d.none f l

    within : RowsDone p j y.stages y.rows
    within f t e =
        subst (RowsWithin j) (sym (ap (λ (z : Ended). z.last.rows) (other f (still f t)).0)) (d.within f (fewer f t) e)

    -- no frame ends in another way
    as_before : (f : ℕ) (c : Code) → ends_in y c f ≡ ends_in x c f
    as_before f c = by (eqb f n) refl
      where
        by : (b : Bool) → eqb f n ≡ b → ends_in y c f ≡ ends_in x c f
        by true e = let is = eqb-true f n e in rw (is, last, r) (end n c ∙ rw (eq-eqb n n refl) refl)
        by false e =
            let same = other f e in
            ap (λ (b : Bool). end_from p o c ts (part p.bits f costs) j b (ended y f)) same.1
            ∙ ap (end_from p o c ts (part p.bits f costs) j (going x.stages f)) same.0

    pub done_next : Done x₀ y (n + 1)
    done_next = record {
      given = given_still y.stages fewer d.given;
      within = within;
      none = below_next (λ f. going y.stages f ≡ false) n stopped last;
      same = λ f l c. as_before f c ∙ d.same f l c;
    }

  -- all of them
  pub done_all : {x₀ x : Parts} {n : ℕ} → F ≤ n → Done x₀ x n → (f : ℕ) → f < F → (c : Code) → ended x f ≡ ends_in x₀ c f
  done_all k d f h c = rw (d.none f (omega arith)) at (d.same f h c)
