-- `sums::give_first` meets its contract: after t triples the sums are those of t triples. Assumes nothing.
use Rattle.integers.proofs.Prelude.{◌%◌, ◌≤◌, length}
use Rattle.layout.specs.Transposed.{straight}
use Rattle.sums.specs.Shares.{Summed}
use Rattle.sums.proofs.give_first.Given as goal

abbrev pub invariant-loop-t : goal.invariant-loop-t
invariant-loop-t l = (l.t ≤ l.count % 4) × Summed l.triples (length l.initial.sums) l.t (straight l.count l.rows) l.sums
