-- `sums::add` meets its contract. Assumes nothing.
use Rattle.integers.proofs.Prelude.{ap, ◌∙◌, ◌+◌, ◌^◌, ◌<◌, arith, ℤ, pos, ◌+ℤ◌, length, set, w32, w64, to_z, of_z}
use Rattle.integers.proofs.Machine.{Worth, fits, stored, param, read, plus}
use Rattle.lists.proofs.Tabulated.{length_tab, get_or_tab}
use Rattle.model.specs.Iteration.{at}
use Rattle.sums.proofs.Sums.{increased}
use Rattle.sums.proofs.add.Goals as goal
use Rattle.sums.proofs.add.Goals.{Start, After-from}

abbrev old : Start → ℤ
old s = at s.args.sums.now s.args.v

sum : (c : After-from) → Worth (to_z w64 (of_z w64 (old (goal.at.After-from c).Start)) +ℤ to_z w64 (of_z w64 c.from.result)) (old (goal.at.After-from c).Start +ℤ c.args.x) (2 ^ 60 + 2 ^ 31)
sum c = rw c.from.ensures (plus (param w64 (old (goal.at.After-from c).Start) (2 ^ 60) tt c.requires.1) (stored (read w32 c.ranges.x) w64 tt))

pub returns : goal.returns
returns c n f e =
    let v = c.args.v in
    let h : v < n = omega (arith, c.requires.0, ap length e ∙ length_tab n f) in
    ap (set c.args.sums.now v) (stored (sum (goal.at.returns c).After-from) w64 tt).is ∙ rw (e, get_or_tab n f v (pos 0) h) (increased n f v c.args.x h)

pub overflow_add-sums : goal.overflow_add-sums
overflow_add-sums c = fits (sum (goal.at.overflow_add-sums c).After-from) w64 tt
