-- `write_word` meets its contract: the entries from column j on are the word of what is left of the message. Assumes nothing.
use Rattle.reduction.proofs.Words.{Ended}
use Rattle.reduction.proofs.Reduction.write_word.Given as goal

abbrev pub invariant-loop-j : goal.invariant-loop-j
invariant-loop-j l = Ended l.self-inside.rows.now l.message l.initial.word l.j l.left l.word
