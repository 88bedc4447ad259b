-- How the frames of a group go on, and how they end. Definitions only.
use Rattle.std.specs.Prelude.{Bool, true, false, not, cond, ◌&&◌, ◌||◌, List, ◌≡◌, ℕ, ◌-◌, ◌*◌, ◌<◌, eqb, ltb, ℤ}
use Rattle.lists.specs.Tabulated.{part}
use Rattle.lists.specs.Entries.{total}
use Rattle.quotient.specs.Quotient.{quotient}
use Rattle.model.specs.declared.Settings.{Settings}
use Rattle.model.specs.Causes.{◌if◌}
use Rattle.model.specs.Code.{Code}
use Rattle.model.specs.Run.{Ended, run_from, run}
use Rattle.model.specs.Bounds.{RowsWithin}
use Rattle.lanes.specs.declared.Plan.{Plan}
use Rattle.lanes.specs.Lanes.{in_lane, weighed_at, Fits}
use Rattle.lane_step.specs.Step.{some_run, system_for, Weighed, Summed, Small}
use Rattle.group_step.specs.declared.Stage.{Stage}
use Rattle.group_step.specs.Frames.{going, ended_in}

-- how many frames run, by their marks
abbrev pub count_running : List Bool → ℕ
count_running running = total (λ x. 1 if x) running

-- whether enough frames run for group steps: four, or three, all in one four
abbrev pub enough_run : List Bool → Bool
enough_run running = let n = count_running running in ltb 3 n || (ltb 2 n && not (some_run running 0 && some_run running 4))

-- how a frame with these costs ends, which runs or has ended as e, d iterations being done: from the start where none is, otherwise from the state that e has
abbrev pub end_from : Plan → Settings → Code → List ℕ → List ℤ → ℕ → Bool → Ended → Ended
end_from p o k ts costs d r e =
    let g = system_for k p ts in
    cond r (cond (eqb d 0) (run quotient g o costs) (run_from quotient g o costs (o.limit - d) d e.last)) e

-- how frame f does, by its stage and its parts of the lists
abbrev pub ends : Plan → Settings → Code → List ℕ → List ℤ → ℕ → List Stage → List ℤ → List ℤ → List ℤ → ℕ → Ended
ends p o k ts costs d stages S c s f = end_from p o k ts (part p.bits f costs) d (going stages f) (ended_in p stages S c s f)

-- the rows of the frames that run are such as d iterations reach, where some are done
abbrev pub RowsDone : Plan → ℕ → List Stage → List ℤ → Type 0
RowsDone p d stages s = (f : ℕ) → going stages f ≡ true → eqb d 0 ≡ false → RowsWithin d (part (4 * p.triples) f s)

-- lanes that were w and are w': those of the first n frames, where these run, have their costs, and all else is as it was
pub record Put (p : Plan) (W : ℕ) (costs : List ℤ) (stages : List Stage) (n : ℕ) (w w' : List ℤ) : Type 0 where
  pub fits : Fits p w'
  pub weighed : (f : ℕ) → f < n → going stages f ≡ true → Weighed p W (part p.bits f costs) w' f
  pub before : (l j : ℕ) → l < p.lanes → j < weighed_at p → in_lane p.lanes w' l j ≡ in_lane p.lanes w l j
  pub others : (l j : ℕ) → l < p.lanes → going stages l ≡ false → in_lane p.lanes w' l j ≡ in_lane p.lanes w l j

-- the frames that run are in their lanes, k iterations being done, and list i has the sums for one more
pub record InLanes (p : Plan) (o : Settings) (ts counts : List ℕ) (i k : ℕ) (stages : List Stage) (w : List ℤ) : Type 0 where
  pub fits : Fits p w
  pub small : (l : ℕ) → l < p.lanes → Small p counts k w l
  pub more : (f : ℕ) → going stages f ≡ true → k < o.limit
  pub summed : (f : ℕ) → going stages f ≡ true → Summed p ts i w f
  pub weighed : (f : ℕ) → going stages f ≡ true → (costs : List ℤ) × Weighed p o.weight costs w f
