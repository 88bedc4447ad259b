-- What the frames of a group hold while they run: in lanes those that run, in their parts of the lists those that do not. Definitions only.
use Rattle.std.specs.Prelude.{Bool, true, false, cond, ◌&&◌, List, map, ◌≡◌, ℕ, ◌*◌, ◌<◌, ltb, eqb, ℤ, length, get_or}
use Rattle.lists.specs.Tabulated.{part}
use Rattle.model.specs.Limits.{most_frames}
use Rattle.model.specs.declared.Settings.{Settings}
use Rattle.model.specs.Causes.{◌if◌}
use Rattle.model.specs.Iteration.{State}
use Rattle.model.specs.Run.{Ended}
use Rattle.model.specs.Group.{Frame}
use Rattle.lanes.specs.declared.Plan.{Plan}
use Rattle.lanes.specs.Lanes.{lane_state}
use Rattle.lane_step.specs.Step.{runs}
use Rattle.group_step.specs.declared.Stage.{Stage}
use Rattle.group_step.specs.declared.Stage.TheVariants as stage

-- ---- the stage of a frame: whether it runs; where it has ended, after how many iterations, and settled or not, 1 or 0
abbrev pub is_running : Stage → Bool
is_running stage.Idle = false
is_running stage.Running = true
is_running (stage.Ended e) = false

abbrev pub iterations : Stage → ℕ
iterations stage.Idle = 0
iterations stage.Running = 0
iterations (stage.Ended e) = e.k

abbrev pub stop_of : Stage → ℕ
stop_of stage.Idle = 0
stop_of stage.Running = 0
stop_of (stage.Ended e) = 1 if e.settled

-- those of all frames: which run, and whether frame f does
abbrev pub marks : List Stage → List Bool
marks = map is_running

abbrev pub going : List Stage → ℕ → Bool
going stages f = runs (marks stages) f

-- what frame f has in its parts of S, c and s
abbrev pub part_state : Plan → List ℤ → List ℤ → List ℤ → ℕ → State
part_state p S c s f = record { sums = part p.variables f S; values = part p.variables f c; rows = part (4 * p.triples) f s }

-- how it ended, where it has stopped
abbrev pub ended_in : Plan → List Stage → List ℤ → List ℤ → List ℤ → ℕ → Ended
ended_in p stages S c s f =
    let own = get_or stages f stage.Idle in
    record { k = iterations own; settled = stop_of own; last = part_state p S c s f }

-- frame f, k iterations being done in lanes, where list i has the sums of the last one
abbrev pub frame_now : Plan → ℕ → ℕ → List ℤ → List Stage → List ℤ → List ℤ → List ℤ → ℕ → Frame
frame_now p i k w stages S c s f =
    cond (going stages f)
    (record { running = true; sofar = record { k = k; settled = 0; last = lane_state p i w f } })
    (record { running = false; sofar = ended_in p stages S c s f })

-- lists of exactly F frames: V sums and values and 4T rows each
pub record Held (p : Plan) (F : ℕ) (S c s : List ℤ) : Type 0 where
  pub sums_long : length S ≡ F * p.variables
  pub values_long : length c ≡ F * p.variables
  pub rows_long : length s ≡ F * (4 * p.triples)

-- the stages of eight frames, of which only the F frames of the group run
pub record Marks (F : ℕ) (stages : List Stage) : Type 0 where
  pub long : length stages ≡ most_frames
  pub below : (f : ℕ) → going stages f ≡ true → f < F

-- what becomes of a frame after an iteration that stops it or not, by the number s
abbrev pub stopped_by : Settings → ℕ → Frame → Frame
stopped_by o s x =
    cond x.running
    (record {
      running = eqb s 0 && ltb x.sofar.k o.limit;
      sofar = record { k = x.sofar.k; settled = s; last = x.sofar.last };
    })
    x
