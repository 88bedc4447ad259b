-- `rows::change_at` meets its contract. Assumes nothing.
use Rattle.integers.proofs.Prelude.{◌≡◌, arith, w32}
use Rattle.integers.proofs.Machine.{param}
use Rattle.model.specs.Limits.{most_row}
use Rattle.model.specs.Iteration.{at}
use Rattle.rows.proofs.Signs.{raw}
use Rattle.rows.proofs.change_at.Goals as goal
use Rattle.rows.proofs.change_at.Goals.{Start}

-- what is handed on, as it is read
module _ (s : Start) where
  side : raw s.args.side ≡ s.args.side
  side = (param w32 s.args.side 1 tt (omega (arith, s.requires.1))).is

  old : raw (at s.args.old s.args.r) ≡ at s.args.old s.args.r
  old = (param w32 (at s.args.old s.args.r) most_row tt s.requires.2).is

  new : raw (at s.args.new s.args.r) ≡ at s.args.new s.args.r
  new = (param w32 (at s.args.new s.args.r) most_row tt s.requires.3).is

pub returns : goal.returns
returns c = rw (side (goal.at.returns c).Start, old (goal.at.returns c).Start, new (goal.at.returns c).Start) at c.change.ensures.0

pub change-requires : goal.change-requires
change-requires c = rw (side (goal.at.change-requires c).Start, old (goal.at.change-requires c).Start, new (goal.at.change-requires c).Start) (c.requires.1, c.requires.2, c.requires.3)
