-- `channel::gaussian` meets its contract: after i turns the first i costs are those of the first i samples. Assumes nothing.
use Rattle.integers.proofs.Prelude.{◌≡◌, ◌∙◌, arith, length, w16}
use lib.Ieee.{nan}
use Rattle.lists.proofs.Tabulated.{over_stored, over_map}
use Rattle.model.specs.declared.Channel.TheVariants.{Gaussian}
use Rattle.model.specs.Channel.{cost_of, product}
use Rattle.channel.proofs.gaussian.Goals as goal

pub loop-i-preserved : goal.loop-i-preserved
unfolding cost_of product
loop-i-preserved c =
    rw c.loop-i.invariant (over_stored w16 c.loop-i.i _ c.args.costs.now c.cost.result (omega arith) (record { sfits = c.cost.type_inv }) c.cost.ensures)

pub returns : goal.returns
returns c =
    let e : c.loop-i.i ≡ length c.args.samples.now = omega arith in
    c.loop-i.invariant ∙ rw e (over_map (cost_of (Gaussian c.args.scale)) c.args.samples.now nan c.args.costs.now)
