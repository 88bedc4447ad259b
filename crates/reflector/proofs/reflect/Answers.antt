-- `reflector::reflect` meets its contract: each return is that of a refused call or of a done one. Assumes nothing.
use Rattle.integers.proofs.Prelude.{arith, rules}
use Rattle.reflector.proofs.Calls.{refused, done}
use Rattle.reflector.proofs.reflect.Goals as goal

pub returns-then-word-costs : goal.returns-then-word-costs
returns-then-word-costs c = refused _ _ _ 12 (omega arith) (search rules)

pub returns-then-some_forbidden : goal.returns-then-some_forbidden
returns-then-some_forbidden c = refused _ _ _ 13 (omega arith) (search rules)

pub returns-then-some_not_binary : goal.returns-then-some_not_binary
returns-then-some_not_binary c = refused _ _ _ 15 (omega arith) (search rules)

pub returns-then-reflected-costs : goal.returns-then-reflected-costs
returns-then-reflected-costs c = refused _ _ _ 10 (omega arith) (search rules)

pub returns : goal.returns
returns c = done _ _ _ _ (search rules) (c.some_forbidden.ensures.small c.if-some_forbidden.false) c.fill.ensures
