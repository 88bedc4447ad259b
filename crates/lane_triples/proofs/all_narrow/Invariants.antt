-- `lane_triples::all_narrow` meets its contract: what was tested and what is left to test is the whole. Assumes nothing.
use Rattle.integers.proofs.Prelude.{Bool, ℕ, leb}
use Rattle.lists.proofs.Entries.{Passed}
use Rattle.lanes.specs.Lanes.{most_narrow}
use Rattle.lane_triples.proofs.all_narrow.Given as goal

abbrev pub test : ℕ → Bool
test c = leb c most_narrow

abbrev pub invariant-loop-v : goal.invariant-loop-v
invariant-loop-v l = Passed test l.counts l.narrow l.v
