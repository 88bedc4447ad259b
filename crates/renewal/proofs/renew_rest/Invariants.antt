-- `renewal::renew_rest` meets its contract: what remains at t comes to the same as what remained at first. Assumes nothing.
use Rattle.integers.proofs.Prelude.{◌≡◌, ◌-◌}
use Rattle.layout.specs.Transposed.{Aligned}
use Rattle.renewal.specs.InPlace.{Left, renewed_from}
use Rattle.renewal.proofs.renew_rest.Given as goal

abbrev pub invariant-loop-t : goal.invariant-loop-t
invariant-loop-t l = Aligned l.count l.t × Left l.count l.t l.rows × (renewed_from l.count l.triples l.values l.t l.rows ≡ renewed_from l.count l.triples l.values l.from l.initial.rows)

abbrev pub decreases-loop-t : goal.decreases-loop-t
decreases-loop-t l = l.count - l.t
