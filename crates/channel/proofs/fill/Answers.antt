-- `channel::fill` meets its contract: hard is erasing with a floor of 0. Assumes nothing.
use lib.Ieee.{lt, of_bits}
use Rattle.model.specs.Channel.{in_range}
use Rattle.channel.proofs.Costs.{hard_costs}
use Rattle.channel.proofs.fill.Goals as goal

pub erasing-requires-clause-setting : goal.erasing-requires-clause-setting
unfolding in_range lt of_bits
erasing-requires-clause-setting c = rw c.in-Hard.is at c.requires.setting

pub returns-in-Hard : goal.returns-in-Hard
unfolding of_bits
returns-in-Hard c = rw (c.in-Hard.is, ← hard_costs c.in-Hard.weight) c.erasing.ensures
