-- `frames::read` meets its contract: what stands before `at` stays. Assumes nothing.
use Rattle.integers.proofs.Prelude.{◌+◌, ◌-◌, arith, rules}
use borrow.Rule.Slice.PartMut.{take_put}
use Rattle.frames.proofs.read.Goals as goal

pub returns : goal.returns
returns c =
    (search rules, take_put c.args.at (c.args.at + c.args.want - c.args.at) c.args.buffer.now c.read_full.new.buf (omega (arith, c.requires)))
