-- `sides::starts` meets its contract: the columns so far begin where they should. Assumes nothing.
use Rattle.integers.proofs.Prelude.{◌≡◌}
use Rattle.lists.specs.Tabulated.{over}
use Rattle.sides.specs.Columns.{start_of}
use Rattle.sides.proofs.starts.Given as goal

abbrev pub invariant-loop-b : goal.invariant-loop-b
invariant-loop-b l = (l.next ≡ over l.b (start_of l.degrees) l.initial.next) × (l.at ≡ start_of l.degrees l.b)
