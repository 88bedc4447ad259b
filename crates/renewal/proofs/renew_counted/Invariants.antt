-- `renewal::renew_counted` meets its contract: with t triples done the list and the totals will be the same in the end. Assumes nothing.
use Rattle.integers.proofs.Prelude.{◌-◌}
use Rattle.layout.specs.Transposed.{Aligned}
use Rattle.renewal.specs.InPlace.{Renewed}
use Rattle.renewal.proofs.renew_counted.Given as goal

abbrev pub invariant-loop-t : goal.invariant-loop-t
invariant-loop-t l = Aligned l.count l.t × Renewed l.count l.triples l.values l.initial.t l.t l.initial.rows l.rows l.initial.totals.multipliers l.totals.multipliers l.initial.totals.slacks l.totals.slacks

abbrev pub decreases-loop-t : goal.decreases-loop-t
decreases-loop-t l = l.count - l.t
