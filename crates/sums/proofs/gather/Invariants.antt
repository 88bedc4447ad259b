-- `sums::gather` meets its contract: after t triples the sums are those of t triples. Assumes nothing.
use Rattle.integers.proofs.Prelude.{◌≡◌, ◌-◌, ◌%◌, ◌≤◌, length}
use Rattle.layout.specs.Transposed.{straight}
use Rattle.sums.specs.Shares.{Summed}
use Rattle.sums.proofs.gather.Given as goal

abbrev pub invariant-loop-t : goal.invariant-loop-t
invariant-loop-t l = (l.count % 4 ≤ l.t) × ((l.count - l.t) % 4 ≡ 0) × (l.t ≤ l.count) × (length l.members ≡ 96) × (length l.shares ≡ 96) × Summed l.triples (length l.initial.sums) l.t (straight l.count l.rows) l.sums

abbrev pub decreases-loop-t : goal.decreases-loop-t
decreases-loop-t l = l.count - l.t
