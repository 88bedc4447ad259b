use Rattle.integers.proofs.Prelude.{arith}
use Rattle.reader.proofs.Checked.{begun, degree_least, degree_most}
use Rattle.reader.proofs.check.Check.degree.Goals as goal

pub degree-requires : goal.degree-requires
degree-requires c = begun _ c.self.invariant

pub returns-clause-range : goal.returns-clause-range
returns-clause-range c =
    let e = c.degree.ensures.1 in
    (omega (arith, e, degree_least _ c.self.invariant), omega (arith, e, degree_most _ c.self.invariant))
