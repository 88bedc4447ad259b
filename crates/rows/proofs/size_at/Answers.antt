-- `rows::size_at` meets its contract. Assumes nothing.
use Rattle.integers.proofs.Prelude.{ap, ◌∙◌, ◌+◌, ℤ, pos, w32}
use Rattle.integers.proofs.Machine.{param, read_back}
use Rattle.model.specs.Limits.{most_row}
use Rattle.model.specs.Iteration.{at, slack, multiplier}
use Rattle.rows.proofs.size_at.Goals as goal

pub returns : goal.returns
returns c =
    read_back w32 c.size.type_inv (c.size.ensures ∙ ap (λ (z : ℤ). pos (slack z + multiplier z)) (param w32 (at c.args.s c.args.r) most_row tt c.requires.1).is)
