-- `fours::store` meets its contract. Assumes nothing.
use Rattle.integers.proofs.Prelude.{arith, length-set}
use Rattle.layout.proofs.Entries.{four_stored}
use Rattle.fours.proofs.Lanes.{most}
use Rattle.fours.proofs.store.Goals as goal

pub returns : goal.returns
returns c =
    four_stored c.args.l.now c.args.i c.args.q most tt (λ k. omega (arith, c.requires.2 k))

pub bounds-l-i-2 : goal.bounds-l-i-2
bounds-l-i-2 c = simp length-set (omega arith)

pub bounds-l-i-3 : goal.bounds-l-i-3
bounds-l-i-3 c = simp length-set (omega arith)
