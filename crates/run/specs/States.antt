-- The state in the lists of a run. Definitions only.
use Rattle.std.specs.Prelude.{List, ℕ, ℤ}
use Rattle.model.specs.Iteration.{State}
use Rattle.layout.specs.Transposed.{straight}

-- of T triples, the rows standing as they do while a run goes
abbrev pub state_in : ℕ → List ℤ → List ℤ → List ℤ → State
state_in T S c s = record { sums = S; values = c; rows = straight T s }
