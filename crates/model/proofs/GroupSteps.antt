-- Document 02, L7: group steps take a frame through its run. Assumes nothing.
use Rattle.integers.proofs.Prelude.{◌≡◌, refl, sym, ap, subst, ◌∙◌, Bool, true, false, cond, ◌&&◌, List, ℕ, zero, suc, ◌+◌, ◌-◌, ◌≤◌, ◌<◌, arith, ne_eqb, eqb}
use Rattle.integers.proofs.Prelude.{ltb, ltb-true, ltb-false, ℤ, T}
use Rattle.lists.proofs.Tests.{and_right}
use Rattle.quotient.specs.Quotient.{quotient}
use Rattle.model.specs.declared.Settings.{Settings}
use Rattle.model.specs.Splitting.{System}
use Rattle.model.specs.Iteration.{State, iterate}
use Rattle.model.specs.Run.{stop, start, Ended, run_from, run}
use Rattle.model.specs.Group.{Frame, begun, onward, steps, end_of}
use Rattle.model.specs.GroupClaims.{Going, StepsAreRuns}
use Rattle.model.proofs.Runs.{stops, goes_on}

module _ (g : System) (o : Settings) (costs : List ℤ) where
  abbrev next : State → State
  next a = iterate quotient g o costs a

  -- a frame that runs, with k iterations done, and one that has stopped
  abbrev pub runs : ℕ → ℕ → State → Frame
  runs k s a = record { running = true; sofar = record { k = k; settled = s; last = a } }

  abbrev pub stopped : Ended → Frame
  stopped e = record { running = false; sofar = e }

  -- ---- one step
  pub onward_stopped : (x : Frame) → x.running ≡ false → onward g o costs x ≡ x
  unfolding onward
  onward_stopped x h = rw h

  -- of a frame that runs: this iteration stops it, or is the last, or neither
  pub onward_runs : (k s : ℕ) (a : State) (n : ℕ) → stop g o a (next a) ≡ n
      → onward g o costs (runs k s a) ≡ record { running = eqb n 0 && ltb (suc k) o.limit; sofar = record { k = suc k; settled = n; last = next a } }
  unfolding onward
  onward_runs k s a n e = rw e

  -- ---- what remains is the whole
  abbrev rest : ℕ → State → Ended
  rest k a = run_from quotient g o costs (o.limit - k) k a

  one_more : (k : ℕ) (a : State) → k < o.limit → rest k a ≡ run_from quotient g o costs (suc (o.limit - suc k)) k a
  one_more k a h = ap (λ (more : ℕ). run_from quotient g o costs more k a) (omega arith)

  keeps_running : (k s : ℕ) (a : State) → k < o.limit → end_of g o costs (onward g o costs (runs k s a)) ≡ rest k a
  unfolding run_from
  keeps_running k s a h = by (stop g o a (next a)) refl
    where
      more : ℕ
      more = o.limit - suc k

      by : (n : ℕ) → stop g o a (next a) ≡ n → end_of g o costs (onward g o costs (runs k s a)) ≡ rest k a
      by (suc n) e =
          ap (end_of g o costs) (onward_runs k s a (suc n) e) ∙ rw (ne_eqb (suc n) 0 (λ q. omega arith)) (sym (one_more k a h ∙ stops quotient g o costs more k a n e))
      by zero e = ap (end_of g o costs) (onward_runs k s a 0 e) ∙ further (ltb (suc k) o.limit) refl
        where
          further : (t : Bool) → ltb (suc k) o.limit ≡ t → cond t (rest (suc k) (next a)) (record { k = suc k; settled = 0; last = next a }) ≡ rest k a
          further true l = sym (one_more k a h ∙ goes_on quotient g o costs more k a e)
          further false l =
              let none : more ≡ 0 = omega (arith, ltb-false (suc k) o.limit l) in
              sym (one_more k a h ∙ goes_on quotient g o costs more k a e ∙ ap (λ (m : ℕ). run_from quotient g o costs m (suc k) (next a)) none)

  keeps : (x : Frame) → Going o x → end_of g o costs (onward g o costs x) ≡ end_of g o costs x
  keeps x h = by x.running refl
    where
      by : (t : Bool) → x.running ≡ t → end_of g o costs (onward g o costs x) ≡ end_of g o costs x
      by true e =
          let is : x ≡ runs x.sofar.k x.sofar.settled x.sofar.last = ap (λ (t : Bool). record { running = t; sofar = x.sofar }) e in
          ap (λ (y : Frame). end_of g o costs (onward g o costs y)) is ∙ keeps_running x.sofar.k x.sofar.settled x.sofar.last (h e) ∙ ap (end_of g o costs) (sym is)
      by false e = ap (end_of g o costs) (onward_stopped x e)

  -- a frame that runs on has run, and has an iteration to come
  record RunsOn (x y : Frame) : Type 0 where
    ran : x.running ≡ true
    count : y.sofar.k ≡ suc x.sofar.k
    more : y.sofar.k < o.limit

  runs_on : (x : Frame) → (onward g o costs x).running ≡ true → RunsOn x (onward g o costs x)
  runs_on x r = by x.running refl
    where
      by : (t : Bool) → x.running ≡ t → RunsOn x (onward g o costs x)
      by true e =
          let k = x.sofar.k in
          let a = x.sofar.last in
          let n = stop g o a (next a) in
          let is : onward g o costs x ≡ record { running = eqb n 0 && ltb (suc k) o.limit; sofar = record { k = suc k; settled = n; last = next a } }
          = ap (λ (t : Bool). onward g o costs (record { running = t; sofar = x.sofar })) e ∙ onward_runs k x.sofar.settled a n refl in
          let count : (onward g o costs x).sofar.k ≡ suc k = ap (λ (y : Frame). y.sofar.k) is in
          let passed = and_right (eqb n 0) (ltb (suc k) o.limit) (ap (λ (y : Frame). y.running) (sym is) ∙ r) in
          record { ran = e; count = count; more = omega (arith, count, ltb-true (suc k) o.limit passed) }
      by false e = absurd (subst T (sym r ∙ ap (λ (y : Frame). y.running) (onward_stopped x e) ∙ e) tt)

  -- so after as many steps as there are iterations to come it has ended
  all_steps : (j : ℕ) (x : Frame) → Going o x → (x.running ≡ true → o.limit ≤ x.sofar.k + j) → steps g o costs j x ≡ stopped (end_of g o costs x)
  unfolding steps
  all_steps zero x h enough = by x.running refl
    where
      by : (t : Bool) → x.running ≡ t → x ≡ stopped (end_of g o costs x)
      by true e = absurd (omega (arith, h e, enough e))
      by false e = rw e
  all_steps (suc j) x h enough =
      let y = onward g o costs x in
      all_steps j y (λ r. (runs_on x r).more) (λ r. (let on = runs_on x r in omega (arith, on.count, enough on.ran)))
      ∙ ap stopped (keeps x h)

  still : (j : ℕ) (x : Frame) → x.running ≡ false → steps g o costs j x ≡ x
  unfolding steps
  still zero x h = refl
  still (suc j) x h = ap (steps g o costs j) (onward_stopped x h) ∙ still j x h

  step : (x : Frame) → (onward g o costs x).sofar.last ≡ cond x.running (next x.sofar.last) x.sofar.last
  unfolding onward
  step x = by x.running refl
    where
      by : (t : Bool) → x.running ≡ t → (onward g o costs x).sofar.last ≡ cond x.running (next x.sofar.last) x.sofar.last
      by true e = rw e
      by false e = rw e

  begins : end_of g o costs (begun g) ≡ run quotient g o costs
  begins = ap (λ (more : ℕ). run_from quotient g o costs more 0 (start g)) (omega arith)

  pub steps_are_runs : StepsAreRuns g o costs
  steps_are_runs = record {
    step = step;
    still = still;
    begins = begins;
    going = λ x r. (runs_on x r).more;
    keeps = keeps;
    rest = λ x e h. all_steps (o.limit - x.sofar.k) x (λ _. h) (λ _. omega arith) ∙ rw e;
    ended = λ h. all_steps o.limit (begun g) (λ _. omega arith) (λ _. omega arith) ∙ ap stopped begins;
  }
