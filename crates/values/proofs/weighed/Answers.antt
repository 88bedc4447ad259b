-- `values::weighed` meets its contract. Assumes nothing.
use Rattle.integers.proofs.Prelude.{ap, ◌∙◌, arith, pos, nat_abs, w64, to_z-of_z}
use Rattle.integers.proofs.Machine.{stored, local, param, literal, plus, times}
use Rattle.model.specs.Limits.{most_weight, most_cost, most_sum}
use Rattle.values.proofs.weighed.Goals as goal

pub returns : goal.returns
returns c =
    let a = c.args in
    let scaled = times (literal (pos 256)) (param w64 a.sum most_sum tt c.requires.1) in
    let weight = local w64 {r = c.from.result} {z = pos a.weight} most_weight c.from.type_inv c.from.ensures c.requires.0 in
    let cost = local w64 {r = c.from-2.result} {z = a.cost} most_cost c.from-2.type_inv (c.from-2.ensures ∙ to_z-of_z c.ranges.cost) c.requires.2 in
    let total = stored (plus (stored scaled w64 tt) (stored (times weight cost) w64 tt)) w64 tt in
    (total.is, omega (arith, ap nat_abs total.is, total.within))
