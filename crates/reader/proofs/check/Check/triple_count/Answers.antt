use Rattle.integers.proofs.Prelude.{arith}
use Rattle.reader.proofs.Checked.{begun, degree_most}
use Rattle.reader.proofs.check.Check.triple_count.Goals as goal

pub triple_count-requires : goal.triple_count-requires
triple_count-requires c = begun _ c.self.invariant

pub returns-clause-bound : goal.returns-clause-bound
returns-clause-bound c = omega (arith, c.triple_count.ensures.0, degree_most _ c.self.invariant)
