-- `values::write_range` meets its contract: the values below v are written. Assumes nothing.
use Rattle.integers.proofs.Prelude.{◌≡◌, arith, rules, w16}
use Rattle.values.specs.Values.{value_from}
use Rattle.values.proofs.Values.{range_next}
use Rattle.values.proofs.write_range.Goals as goal

pub loop-v-preserved : goal.loop-v-preserved
loop-v-preserved c =
    let a = c.args in
    let f = value_from a.sums.now a.counts.now a.costs.now a.weight a.divisors.now in
    let e : c.divide.result ≡ f c.loop-v.v = search rules in
    (omega arith, omega arith, rw c.loop-v.invariant.2 (range_next w16 a.from c.loop-v.v f a.values.now c.divide.result c.loop-v.invariant.0 (record { sfits = c.divide.type_inv }) e))
