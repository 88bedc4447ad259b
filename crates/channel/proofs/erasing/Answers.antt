-- `channel::erasing` meets its contract: the weight's two costs and 0 are all that a sample can cost. Assumes nothing.
use Rattle.integers.proofs.Prelude.{◌≡◌, sym, ◌∙◌, arith, length, w16, get_or}
use lib.Ieee.{nan}
use Rattle.integers.proofs.Machine.{kept}
use Rattle.lists.proofs.Tabulated.{over_stored, over_map}
use Rattle.model.specs.declared.Channel.TheVariants.{Erasing}
use Rattle.model.specs.Channel.{cost_of}
use Rattle.channel.proofs.Costs.{weight_number, erasing_costs}
use Rattle.channel.proofs.erasing.Goals as goal
use Rattle.channel.proofs.erasing.Goals.{After-selected}

pub cost-below-requires : goal.cost-below-requires
cost-below-requires c = rw (weight_number c.args.pair c.requires.setting).1 tt

selected_is : (c : After-selected) → c.selected.result ≡ cost_of (Erasing c.args.pair) (get_or c.args.samples.now c.loop-i.i nan)
selected_is c =
    rw (c.selected.ensures, kept w16 c.cost-above.result c.cost-above.type_inv, c.cost-above.ensures, kept w16 c.cost-below.result c.cost-below.type_inv, c.cost-below.ensures)
    (sym (erasing_costs c.args.pair (get_or c.args.samples.now c.loop-i.i nan)))

pub loop-i-preserved : goal.loop-i-preserved
loop-i-preserved c =
    rw c.loop-i.invariant
    (over_stored w16 c.loop-i.i _ c.args.costs.now c.selected.result (omega arith) (record { sfits = c.selected.type_inv }) (selected_is c))

pub returns : goal.returns
returns c =
    let e : c.loop-i.i ≡ length c.args.samples.now = omega arith in
    c.loop-i.invariant ∙ rw e (over_map (cost_of (Erasing c.args.pair)) c.args.samples.now nan c.args.costs.now)
