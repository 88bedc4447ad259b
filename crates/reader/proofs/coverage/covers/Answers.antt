use Rattle.integers.proofs.Prelude.{◌∙◌}
use Rattle.reader.proofs.Marks.{all_left, one_less, none_left}
use Rattle.reader.proofs.coverage.covers.Goals as goal

pub loop-check-init : goal.loop-check-init
loop-check-init c = rw c.into_iter-check-iterator.ensures.into_iter_gives (all_left c.args.checks)

pub loop-check-preserved : goal.loop-check-preserved
loop-check-preserved c = one_less c.args.checks _ c.next.new.self _ _ c.mark.ensures (rw c.in-Some.ensures.steps at c.loop-check.invariant)

pub returns : goal.returns
returns c = c.all_marked.ensures ∙ none_left _ _ _ c.requires (rw c.in-None.ensures.steps.0 at c.loop-check.invariant)
