-- `write_message` meets its contract: the message of the columns so far. Assumes nothing.
use Rattle.reduction.proofs.Messages.{Begun}
use Rattle.reduction.proofs.Reduction.write_message.Given as goal

abbrev pub invariant-loop-j : goal.invariant-loop-j
invariant-loop-j l = Begun l.self-inside.rows.now l.word l.initial.message l.j l.count l.message
