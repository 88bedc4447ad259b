-- The frames of a group with the lists that are lent for them. Definitions only.
use Rattle.std.specs.Prelude.{List, ◌≡◌, ℕ, ℤ}
use Rattle.model.specs.Iteration.{State}
use Rattle.model.specs.Run.{Ended}
use Rattle.model.specs.Group.{Frame}
use Rattle.group_step.specs.declared.Frames.{Frames}
use Rattle.group_step.specs.Frames.{part_state, ended_in, frame_now}

-- what frame f has in its parts, how it ended, and what it holds
abbrev pub part_in : Frames → ℕ → State
part_in x f = part_state x.walk.plan x.sums.now x.values.now x.rows.now f

abbrev pub end_in : Frames → ℕ → Ended
end_in x f = ended_in x.walk.plan x.stages x.sums.now x.values.now x.rows.now f

abbrev pub frame_in : ℕ → ℕ → List ℤ → Frames → ℕ → Frame
frame_in i k w x f = frame_now x.walk.plan i k w x.stages x.sums.now x.values.now x.rows.now f

-- the same frames of the same code, in the same lists
pub record Kept (old new : Frames) : Type 0 where
  pub walk : new.walk ≡ old.walk
  pub count : new.count ≡ old.count
  pub sums : new.sums.ghost_name ≡ old.sums.ghost_name
  pub values : new.values.ghost_name ≡ old.values.ghost_name
  pub rows : new.rows.ghost_name ≡ old.rows.ghost_name
