-- Which frames run, and how many. Assumes nothing.
use Rattle.integers.proofs.Prelude.{◌≡◌, refl, Bool, true, false, not, ◌&&◌, ◌||◌, List, [], ◌∷◌, ℕ, suc, ◌+◌, ◌<◌, arith, add-one, ltb-true, ltb, length, take}
use Rattle.lists.proofs.Entries.{total_next}
use Rattle.lists.proofs.Tests.{and_left}
use Rattle.model.specs.Causes.{◌if◌}
use Rattle.lane_step.specs.Step.{runs, some_run}
use Rattle.group_run.specs.Course.{count_running, enough_run}

-- one mark more
pub counted_next : (running : List Bool) (f : ℕ) → f < length running → count_running (take (f + 1) running) ≡ count_running (take f running) + (1 if runs running f)
counted_next running f h = rw (add-one f) (total_next (λ x. 1 if x) running f false h)

some_runs : (running : List Bool) → 0 < count_running running → (f : ℕ) × (runs running f ≡ true)
some_runs [] h = absurd (omega arith)
some_runs (false ∷ running) h = let r = some_runs running (omega arith) in (suc r.0, r.1)
some_runs (true ∷ running) h = (0, refl)

-- where enough frames run, one does
more_run : (n : ℕ) (one t : Bool) → ltb 3 n ≡ t → (t || (ltb 2 n && one)) ≡ true → 0 < n
more_run n one true e h = omega (arith, ltb-true 3 n e)
more_run n one false e h = omega (arith, ltb-true 2 n (and_left (ltb 2 n) one h))

pub one_runs : (running : List Bool) → enough_run running ≡ true → (f : ℕ) × (runs running f ≡ true)
one_runs running h = let n = count_running running in some_runs running (more_run n (not (some_run running 0 && some_run running 4)) (ltb 3 n) refl h)
