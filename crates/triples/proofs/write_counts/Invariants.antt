-- The counts of the entries so far.
use Rattle.integers.proofs.Prelude.{◌≡◌}
use Rattle.lists.specs.Tabulated.{over}
use Rattle.model.specs.Code.{variables}
use Rattle.triples.proofs.Counting.{hits}
use Rattle.triples.proofs.write_counts.Given as goal

abbrev pub invariant-loop-v : goal.invariant-loop-v
invariant-loop-v l = l.counts ≡ over (variables l.code) (hits l.triples l.v-index) l.fn.counts
