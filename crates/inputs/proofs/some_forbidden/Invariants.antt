-- What was found among the costs before this one, or is still to be found, decides; where nothing was found, those are small.
use Rattle.lists.proofs.Entries.{Found}
use Rattle.model.specs.Calls.{forbidden}
use Rattle.inputs.proofs.Costs.{SmallBelow}
use Rattle.inputs.proofs.some_forbidden.Given as goal

abbrev pub invariant-loop-cost : goal.invariant-loop-cost
invariant-loop-cost l = Found forbidden l.costs l.found l.cost-index × SmallBelow l.costs l.found l.cost-index
