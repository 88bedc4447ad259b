-- `renewal::renew_first` meets its contract: with t triples done the list and the totals will be the same in the end. Assumes nothing.
use Rattle.integers.proofs.Prelude.{◌-◌, ◌%◌, ◌≤◌}
use Rattle.renewal.specs.InPlace.{Renewed}
use Rattle.renewal.proofs.renew_first.Given as goal

abbrev pub invariant-loop-t : goal.invariant-loop-t
invariant-loop-t l = (l.t ≤ l.count % 4) × Renewed l.count l.triples l.values 0 l.t l.initial.rows l.rows 0 l.totals.multipliers 0 l.totals.slacks

abbrev pub decreases-loop-t : goal.decreases-loop-t
decreases-loop-t l = l.count % 4 - l.t
