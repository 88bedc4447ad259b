-- `lane_renewal::keep` meets its contract: after i turns the first i entries are kept. Assumes nothing.
use Rattle.integers.proofs.Prelude.{◌≡◌, ◌+◌, ◌-◌, ◌≤◌}
use Rattle.lists.specs.Tabulated.{over}
use Rattle.model.specs.Iteration.{at}
use Rattle.lane_renewal.proofs.keep.Given as goal

abbrev pub invariant-loop-i : goal.invariant-loop-i
invariant-loop-i l = (l.i ≤ l.count) × (l.before ≡ over l.i (λ k. at l.work (l.first + k)) l.initial.before)

abbrev pub decreases-loop-i : goal.decreases-loop-i
decreases-loop-i l = l.count - l.i
