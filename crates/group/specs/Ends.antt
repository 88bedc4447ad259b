-- How the frames of a group ended, and what is told of them. Definitions only.
use Rattle.std.specs.Prelude.{cond, false, List, ◌≡◌, ℕ, ◌*◌, ◌≤◌, ◌<◌, eqb, ℤ, length, drop}
use Rattle.lists.specs.Tabulated.{written, part}
use Rattle.lists.specs.Entries.{some}
use Rattle.quotient.specs.Quotient.{quotient}
use Rattle.model.specs.declared.Settings.{Settings}
use Rattle.model.specs.Causes.{accepted}
use Rattle.model.specs.Code.{Code, triples, variables}
use Rattle.model.specs.Sound.{Sound}
use Rattle.model.specs.Splitting.{system_of}
use Rattle.model.specs.Iteration.{State}
use Rattle.model.specs.Run.{Ended, run}
use Rattle.model.specs.Words.{word_of, outcome}
use Rattle.model.specs.Calls.{out_of_range, forbidden, Lists, Answer}
use Rattle.model.specs.DecoderClaims.{Small}
use Rattle.model.specs.Limits.{most_frames}
use Rattle.model.specs.Group.{lanes, HasGroupRoom, alone}
use Rattle.lanes.specs.declared.Plan.{Plan}
use Rattle.group_step.specs.declared.Stage.{Stage}
use Rattle.group_step.specs.declared.Stage.TheVariants.{Idle, Running}
use Rattle.group_step.specs.Frames.{part_state, ended_in}

-- the lanes of F frames of the code k
abbrev pub plan_of : Code → ℕ → Plan
plan_of k F = record { lanes = lanes F; triples = triples k; variables = variables k; bits = k.bits }

-- a frame with these costs runs, but not with a false one
abbrev pub stage_for : List ℤ → Stage
stage_for costs = cond (some forbidden costs) Idle Running

-- F frames of the sound code k that no cause refuses
pub record AcceptedGroup (k : Code) (o : Settings) (F : ℕ) (costs : List ℤ) (l : Lists) (work : List ℤ) : Type 0 where
  pub sound : Sound k
  pub settings : out_of_range o ≡ false
  pub least : 1 ≤ F
  pub frames : F ≤ most_frames
  pub lengths : length costs ≡ F * k.bits
  pub room : HasGroupRoom k F l work

-- how a frame ended that held a: by its run, or, where a cost is false, with no iteration
abbrev pub end_given : Code → Settings → List ℤ → State → Ended
end_given k o costs a = cond (some forbidden costs) (record { k = 0; settled = 0; last = a }) (run quotient (system_of k) o costs)

-- F frames were run in lists that were S, c and s and are now S', c' and s'
pub record Ran (k : Code) (o : Settings) (F : ℕ) (costs : List ℤ) (stages : List Stage) (S c s S' c' s' : List ℤ) : Type 0 where
  pub ended : (f : ℕ) → f < F → ended_in (plan_of k F) stages S' c' s' f ≡ end_given k o (part k.bits f costs) (part_state (plan_of k F) S c s f)
  pub small : (f : ℕ) → f < F → some forbidden (part k.bits f costs) ≡ false → Small (part k.bits f costs)
  -- what lies behind the frames stays
  pub sums : drop (F * variables k) S' ≡ drop (F * variables k) S
  pub values : drop (F * variables k) c' ≡ drop (F * variables k) c
  pub rows : drop (F * (4 * triples k)) s' ≡ drop (F * (4 * triples k)) s

-- what is told of a frame after n iterations, its last values being c: 13 where there was none
abbrev pub answer_of : Code → ℕ → ℕ → List ℤ → Answer
answer_of k n settled c = cond (eqb n 0) (alone 13) (record { number = (outcome k c).number; place = (outcome k c).place; k = n; settled = settled })

-- and its word, which was w
abbrev pub word_left : Code → ℕ → List ℤ → List ℕ → List ℕ
word_left k n c w = cond (eqb n 0) w (accepted (outcome k c).number (written (word_of k c) w) w)
