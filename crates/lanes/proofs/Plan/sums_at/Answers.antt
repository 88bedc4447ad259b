-- `lanes::Plan::sums_at` meets its contract. Assumes nothing.
use Rattle.integers.proofs.Prelude.{◌+◌, ◌*◌, ◌≤◌, arith}
use native.Mathlib.Nat.{mul-le-mul}
use Rattle.model.specs.Limits.{most_triples, most_variables}
use Rattle.lanes.specs.Lanes.{sums_at}
use Rattle.lanes.proofs.Plan.sums_at.Goals as goal
use Rattle.lanes.proofs.Plan.sums_at.Goals.{Start}

-- how far behind the values the sums begin
behind : (s : Start) → s.args.i * (s.args.self.variables + s.args.self.bits) ≤ 2 * (2 * most_variables)
behind s =
    let two : s.args.self.variables + s.args.self.bits ≤ 2 * most_variables = omega (arith, s.requires.2, s.requires.3) in
    mul-le-mul s.requires.4 two

pub overflow_mul-result-2 : goal.overflow_mul-result-2
overflow_mul-result-2 c = record { fits = omega (arith, behind (goal.at.overflow_mul-result-2 c).Start) }

pub overflow_add-result-3 : goal.overflow_add-result-3
overflow_add-result-3 c = record { fits = omega (arith, behind (goal.at.overflow_add-result-3 c).Start, c.requires.1, c.requires.2) }

pub overflow_mul-result-3 : goal.overflow_mul-result-3
overflow_mul-result-3 c =
    let most : sums_at c.args.self c.args.i ≤ 4 * most_triples + 5 * most_variables = omega (arith, behind (goal.at.overflow_mul-result-3 c).Start, c.requires.1, c.requires.2) in
    record { fits = omega (arith, mul-le-mul c.requires.0 most) }
