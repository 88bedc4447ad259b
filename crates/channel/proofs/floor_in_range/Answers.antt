-- `channel::floor_in_range` meets its contract: the literal 0.0 is the model's zero. Assumes nothing.
use Rattle.integers.proofs.Prelude.{◌∙◌}
use lib.Ieee.{of_bits}
use Rattle.channel.proofs.Finite.{finite_is}
use Rattle.channel.proofs.floor_in_range.Goals as goal

pub returns-then-not-x-clause-value : goal.returns-then-not-x-clause-value
unfolding of_bits
returns-then-not-x-clause-value c = rw c.if-not-x.true (c.is_finite.ensures.value ∙ finite_is c.args.x)
