-- What a group runs with. Definitions only.
use Rattle.std.specs.Prelude.{true, List, ◌≡◌, ℕ, ◌*◌, ◌≤◌, ◌<◌, ℤ, length}
use Rattle.lists.specs.Tabulated.{tab, part}
use Rattle.model.specs.Limits.{most_frames, most_triples, most_variables, most_iterations}
use Rattle.model.specs.declared.Settings.{Settings}
use Rattle.model.specs.Splitting.{Members}
use Rattle.model.specs.Iteration.{occurrences}
use Rattle.model.specs.Bounds.{Ready}
use Rattle.lanes.specs.declared.Plan.{Plan}
use Rattle.group_step.specs.declared.Stage.{Stage}
use Rattle.group_step.specs.Frames.{going}

-- the triples of a code with the plan's sizes, their counts, and the costs of F frames, of which those that run have no false one
pub record Given (p : Plan) (F : ℕ) (o : Settings) (ts counts : List ℕ) (costs : List ℤ) (stages : List Stage) : Type 0 where
  pub frames : F ≤ most_frames
  pub lanes : F ≤ p.lanes
  pub triples : p.triples ≤ most_triples
  pub variables : p.variables ≤ most_variables
  pub bits : p.bits ≤ p.variables
  pub members : 3 * p.triples ≡ length ts
  pub below : Members ts p.variables
  pub counted : counts ≡ tab p.variables (occurrences ts p.triples)
  pub auxiliaries : (v : ℕ) → p.bits ≤ v → v < p.variables → occurrences ts p.triples v ≡ 2
  pub costs_long : length costs ≡ F * p.bits
  pub limit : (1 ≤ o.limit) × (o.limit ≤ most_iterations)
  pub ready : (f : ℕ) → f < F → going stages f ≡ true → Ready p.variables ts p.triples o (part p.bits f costs)
