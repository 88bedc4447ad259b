-- `all_marked` meets its contract: what is left to test decides. Assumes nothing.
use Rattle.integers.proofs.Prelude.{◌≡◌, List, ℕ, drop}
use Rattle.lists.specs.Tabulated.{tab}
use Rattle.lists.specs.Entries.{every}
use Rattle.reader.specs.Marks.{marked}
use Rattle.reader.proofs.coverage.all_marked.Given as goal

abbrev pub places : ℕ → List ℕ
places n = tab n (λ b. b)

abbrev pub invariant-loop-b : goal.invariant-loop-b
invariant-loop-b l = every (marked l.seen) (drop l.b (places l.n)) ≡ every (marked l.seen) (places l.n)
