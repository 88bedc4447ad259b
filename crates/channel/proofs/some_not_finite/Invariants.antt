-- What was found among the samples before this one, or is still to be found, decides.
use Rattle.integers.proofs.Prelude.{not}
use Rattle.lists.proofs.Entries.{Found}
use Rattle.model.specs.Channel.{finite}
use Rattle.channel.proofs.some_not_finite.Given as goal

abbrev pub invariant-loop-x : goal.invariant-loop-x
invariant-loop-x l = Found (λ x. not (finite x)) l.samples l.found l.x-index
