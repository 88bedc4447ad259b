-- `renewal::without_blank` meets its contract: what was tested and what is left to test is the whole. Assumes nothing.
use Rattle.integers.proofs.Prelude.{Bool, not, List, ℕ, ◌-◌, eqb}
use Rattle.lists.specs.Tabulated.{tab}
use Rattle.lists.proofs.Entries.{Passed}
use Rattle.model.specs.Splitting.{blank, member}
use Rattle.renewal.proofs.without_blank.Given as goal

-- all triples, and the test of one
abbrev pub all : ℕ → List ℕ
all T = tab T (λ t. t)

abbrev pub test : List ℕ → ℕ → Bool
test ts t = not (eqb (member ts t 2) blank)

abbrev pub invariant-loop-t : goal.invariant-loop-t
invariant-loop-t l = Passed (test l.triples) (all l.count) l.without l.t

abbrev pub decreases-loop-t : goal.decreases-loop-t
decreases-loop-t l = l.count - l.t
