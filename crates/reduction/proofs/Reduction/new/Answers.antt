-- `Reduction::new` meets its contract. Assumes nothing.
use Rattle.integers.proofs.Prelude.{◌∙◌}
use Rattle.reduction.proofs.Table.{length_columns}
use Rattle.reduction.proofs.Reduction.new.Goals as goal

pub returns-clause-width : goal.returns-clause-width
returns-clause-width c = length_columns c.bits-bits.result c.reduce.new.rows ∙ c.bits-bits.ensures.value
