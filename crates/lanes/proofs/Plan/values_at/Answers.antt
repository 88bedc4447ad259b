-- `lanes::Plan::values_at` meets its contract. Assumes nothing.
use Rattle.integers.proofs.Prelude.{◌*◌, ◌≤◌, arith}
use native.Mathlib.Nat.{mul-le-mul}
use Rattle.model.specs.Limits.{most_triples}
use Rattle.lanes.specs.Lanes.{values_at}
use Rattle.lanes.proofs.Plan.values_at.Goals as goal

pub overflow_mul-result-2 : goal.overflow_mul-result-2
overflow_mul-result-2 c =
    let most : values_at c.args.self ≤ 4 * most_triples = omega (arith, c.requires.1) in
    record { fits = omega (arith, mul-le-mul c.requires.0 most) }
