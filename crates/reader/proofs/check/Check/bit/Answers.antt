use Rattle.integers.proofs.Prelude.{sym}
use Rattle.model.proofs.Accepted.{length_numbers}
use Rattle.reader.proofs.Checked.{whole, bit_below}
use Rattle.reader.proofs.check.Check.bit.Goals as goal

pub index-requires : goal.index-requires
index-requires c =
    let within = (rw (sym c.self.view_is) at c.requires) in
    (whole _ c.self.invariant, rw (length_numbers _ _) at within)

pub returns-clause-bound : goal.returns-clause-bound
returns-clause-bound c =
    let within = (rw (sym c.self.view_is) at c.requires) in
    rw c.index.ensures.0 (bit_below _ c.self.invariant _ within)
