use Rattle.integers.proofs.Prelude.{arith}
use Rattle.reader.proofs.Checked.{begun, degree_most}
use Rattle.reader.proofs.check.Check.turns.Goals as goal

pub turns-requires : goal.turns-requires
turns-requires c = begun _ c.self.invariant

pub returns-clause-bound : goal.returns-clause-bound
returns-clause-bound c = omega (arith, c.turns.ensures.0, degree_most _ c.self.invariant)
