-- `channel::some_not_finite` meets its contract: what was found, or is still to be found, decides. Assumes nothing.
use Rattle.integers.proofs.Prelude.{not, get_or}
use lib.Ieee.{nan}
use Rattle.lists.proofs.Entries.{found_next}
use Rattle.model.specs.Channel.{finite}
use Rattle.channel.proofs.Finite.{finite_is}
use Rattle.channel.proofs.some_not_finite.Goals as goal

pub loop-x-preserved : goal.loop-x-preserved
loop-x-preserved c =
    rw (c.is_finite.ensures.value, finite_is (get_or c.args.samples.now c.loop-x.x-index nan))
    (found_next (λ x. not (finite x)) c.args.samples.now c.loop-x.found c.loop-x.x-index nan c.loop-x-test.true c.loop-x.invariant)
