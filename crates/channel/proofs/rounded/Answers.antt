-- `channel::rounded` meets its contract: the shift loses nothing, and its quotient is the limited size. Assumes nothing.
use Rattle.integers.proofs.Prelude.{arith}
use Rattle.channel.proofs.Rounding.{shift_fits, size_is}
use Rattle.channel.proofs.rounded.Goals as goal

pub returns : goal.returns
returns c = rw (c.from-digits.ensures, (shift_fits c.clamp-b.result (omega arith)).0, c.clamp-b.ensures) (size_is c.args.bits)
