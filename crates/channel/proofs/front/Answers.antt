-- `channel::front` meets its contract: each return is that of a refused call or of a done one. Assumes nothing.
use Rattle.integers.proofs.Prelude.{arith, rules}
use Rattle.channel.proofs.Calls.{refused, done}
use Rattle.channel.proofs.front.Goals as goal

pub returns-then-not-in_range : goal.returns-then-not-in_range
returns-then-not-in_range c = refused _ _ _ c.in_range.ensures.singles 11 (omega arith) (search rules)

pub returns-then-some_not_finite : goal.returns-then-some_not_finite
returns-then-some_not_finite c = refused _ _ _ c.in_range.ensures.singles 14 (omega arith) (search rules)

pub returns-then-costs-samples : goal.returns-then-costs-samples
returns-then-costs-samples c = refused _ _ _ c.in_range.ensures.singles 10 (omega arith) (search rules)

pub returns : goal.returns
returns c = done _ _ _ c.in_range.ensures.singles _ (search rules) c.fill.ensures
