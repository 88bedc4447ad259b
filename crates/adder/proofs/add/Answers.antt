-- `adder::add` meets its contract: each return is that of a refused call or of a done one. Assumes nothing.
use Rattle.integers.proofs.Prelude.{arith, rules}
use Rattle.adder.proofs.Calls.{refused, done}
use Rattle.adder.proofs.add.Goals as goal
use Rattle.adder.proofs.add.Goals.{then-some_not_binary-via-then-some_not_binary, then-some_not_binary-via-else-some_not_binary+then-some_not_binary-2}

pub returns-then-other-word : goal.returns-then-other-word
returns-then-other-word c = refused _ _ _ 12 (omega arith) (search rules)

pub returns-then-sum-word : goal.returns-then-sum-word
returns-then-sum-word c = refused _ _ _ 10 (omega arith) (search rules)

pub returns : goal.returns
returns c = done _ _ _ _ (search rules) c.fill.ensures

pub returns-then-some_not_binary : goal.returns-then-some_not_binary
returns-then-some_not_binary c = refused _ _ _ 15 (omega arith) (elim c.then-some_not_binary.branch [
  | then-some_not_binary-via-then-some_not_binary w ↦ search rules
  | then-some_not_binary-via-else-some_not_binary+then-some_not_binary-2 w ↦ search rules
])
