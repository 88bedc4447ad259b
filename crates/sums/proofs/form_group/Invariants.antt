-- `sums::form_group` meets its contract: after b fours 4b triples and their shares are in the lists. Assumes nothing.
use Rattle.integers.proofs.Prelude.{◌≡◌, ℕ, ◌-◌, ◌*◌, ◌≤◌, length}
use Rattle.layout.specs.Transposed.{straight}
use Rattle.sums.specs.Shares.{Copied, Shared, InFours}
use Rattle.sums.proofs.form_group.Given as goal

abbrev pub invariant-loop-b : goal.invariant-loop-b
invariant-loop-b l = (l.b ≤ l.n) × (length l.members ≡ 96) × (length l.shares ≡ 96) × Copied l.triples l.t (4 * l.b) l.members × ((T : ℕ) → InFours T l.t (4 * l.n) → Shared (straight T l.rows) l.t (4 * l.b) l.shares)

abbrev pub decreases-loop-b : goal.decreases-loop-b
decreases-loop-b l = l.n - l.b
