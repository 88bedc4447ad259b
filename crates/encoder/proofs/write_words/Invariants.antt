-- `encoder::write_words` meets its contract: the words of the frames so far. Assumes nothing.
use Rattle.integers.proofs.Prelude.{◌≡◌}
use Rattle.lists.specs.Tabulated.{written}
use Rattle.model.specs.Encoding.{frames_in}
use Rattle.encoder.proofs.write_words.Given as goal

abbrev pub invariant-loop-f : goal.invariant-loop-f
invariant-loop-f l = l.words ≡ written (frames_in l.reduction l.f l.messages) l.initial.words
