-- `lane_values::write_all_bits` meets its contract: the bits below v are done. Assumes nothing.
use Rattle.integers.proofs.Prelude.{◌-◌, ◌*◌, ◌≤◌}
use Rattle.lane_values.specs.Stored.{Stored}
use Rattle.lane_values.specs.Places.{bit_parts, bit_value}
use Rattle.lane_values.proofs.write_all_bits.Given as goal

abbrev pub invariant-loop-v : goal.invariant-loop-v
invariant-loop-v l = (l.v ≤ l.p.bits) × Stored 3 (bit_parts l.p l.i) (bit_value l.p l.counts l.divisors.any l.i l.initial.work) 0 (l.p.lanes * l.v) l.initial.work l.work

abbrev pub decreases-loop-v : goal.decreases-loop-v
decreases-loop-v l = l.p.bits - l.v
