-- `layout::straighten` meets its contract: the rows of the triples before t are straight. Assumes nothing.
use Rattle.integers.proofs.Prelude.{◌≡◌, ◌-◌, ◌*◌}
use Rattle.lists.specs.Tabulated.{over}
use Rattle.model.specs.Iteration.{at}
use Rattle.layout.specs.Transposed.{straight, Aligned}
use Rattle.layout.proofs.straighten.Given as goal

abbrev pub invariant-loop-t : goal.invariant-loop-t
invariant-loop-t l = Aligned l.count l.t × (l.rows ≡ over (4 * l.t) (at (straight l.count l.initial.rows)) l.initial.rows)

abbrev pub decreases-loop-t : goal.decreases-loop-t
decreases-loop-t l = l.count - l.t
