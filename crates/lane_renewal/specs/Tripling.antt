-- The triples that a walk goes through, as facts of which there is one proof. Definitions only.
use Rattle.std.specs.Prelude.{◌≡◌, List, ℕ, ◌+◌, ◌*◌, ◌≤◌, ◌<◌, length, get_or}
use Rattle.lists.specs.Tabulated.{tab}
use Rattle.model.specs.Splitting.{blank, member}
use Rattle.model.specs.Iteration.{occurrences}
use Rattle.lanes.specs.declared.Plan.{Plan}
use Rattle.lanes.specs.Lanes.{most_narrow}

-- `Tripled`, where a third place is a variable unless it has the blank
pub record IsTripled (p : Plan) (ts counts : List ℕ) : Type 0 where
  pub long : length ts ≡ 3 * p.triples
  pub few : p.variables ≤ blank
  pub first : (t : ℕ) → 3 * t + 2 < length ts → member ts t 0 < p.variables
  pub second : (t : ℕ) → 3 * t + 2 < length ts → member ts t 1 < p.variables
  pub third : (t : ℕ) → 3 * t + 2 < length ts → (member ts t 2 ≡ blank → ⊥) → member ts t 2 < p.variables
  pub counted : counts ≡ tab p.variables (occurrences ts p.triples)
  pub auxiliaries : (v : ℕ) → p.bits ≤ v → v < p.variables → get_or counts v 0 ≤ most_narrow
