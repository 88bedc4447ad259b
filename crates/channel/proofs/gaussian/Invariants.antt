-- The first i costs are those of the first i samples.
use Rattle.integers.proofs.Prelude.{◌≡◌, get_or}
use lib.Ieee.{nan}
use Rattle.lists.specs.Tabulated.{over}
use Rattle.model.specs.declared.Channel.TheVariants.{Gaussian}
use Rattle.model.specs.Channel.{cost_of}
use Rattle.channel.proofs.gaussian.Given as goal

abbrev pub invariant-loop-i : goal.invariant-loop-i
invariant-loop-i l = l.costs ≡ over l.i (λ k. cost_of (Gaussian l.scale) (get_or l.samples k nan)) l.initial.costs
