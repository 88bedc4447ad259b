-- `lanes::Plan::size` meets its contract. Assumes nothing.
use Rattle.integers.proofs.Prelude.{◌+◌, ◌*◌, ◌≤◌, ap, arith}
use native.Mathlib.Nat.{mul-le-mul}
use Rattle.model.specs.Limits.{most_triples, most_variables}
use Rattle.lanes.proofs.Plan.size.Goals as goal

pub overflow_mul-result-4 : goal.overflow_mul-result-4
overflow_mul-result-4 c =
    let p = c.args.self in
    let most : 4 * p.triples + 3 * p.variables + 3 * p.bits ≤ 4 * most_triples + 6 * most_variables = omega (arith, c.requires.1, c.requires.2, c.requires.3) in
    record { fits = omega (arith, mul-le-mul c.requires.0 most) }

pub returns : goal.returns
returns c = let p = c.args.self in ap (◌*◌ p.lanes) (omega arith)
