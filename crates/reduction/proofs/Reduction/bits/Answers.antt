-- `Reduction::bits` meets its contract. Assumes nothing.
use Rattle.integers.proofs.Prelude.{sym, ap, ◌∙◌, length}
use Rattle.reduction.proofs.Table.{length_columns}
use Rattle.reduction.proofs.Reduction.bits.Goals as goal

pub returns-clause-value : goal.returns-clause-value
returns-clause-value c = sym (length_columns c.self.inside.bits c.self.inside.rows.now) ∙ ap length c.self.view_is
