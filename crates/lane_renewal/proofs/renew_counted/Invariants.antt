-- `lane_renewal::renew_counted` meets its contract: with t triples done their rows are renewed, and counted. Assumes nothing.
use Rattle.integers.proofs.Prelude.{◌≡◌, ◌-◌, length}
use Rattle.lane_renewal.specs.Counting.{Counted}
use Rattle.lane_renewal.proofs.renew_counted.Given as goal

abbrev pub invariant-loop-t : goal.invariant-loop-t
invariant-loop-t l = (length l.before ≡ 256) × Counted l.walk.plan l.walk.triples.now l.walk.counts.now l.i l.from l.to l.initial.work l.t l.work l.totals

abbrev pub decreases-loop-t : goal.decreases-loop-t
decreases-loop-t l = l.walk.plan.triples - l.t
