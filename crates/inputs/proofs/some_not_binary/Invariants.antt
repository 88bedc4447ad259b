-- What was found among the bits before this one, or is still to be found, decides.
use Rattle.lists.proofs.Entries.{Found}
use Rattle.model.specs.Calls.{not_binary}
use Rattle.inputs.proofs.some_not_binary.Given as goal

abbrev pub invariant-loop-bit : goal.invariant-loop-bit
invariant-loop-bit l = Found not_binary l.word l.found l.bit-index
