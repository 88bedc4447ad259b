-- `stream::write_costs` meets its contract: after i turns the first i costs are written. Assumes nothing.
use Rattle.integers.proofs.Prelude.{◌≡◌, refl, ap, ◌∙◌, arith, length, w16}
use Rattle.lists.proofs.Tabulated.{length_over, over_stored}
use Rattle.program.specs.Frames.{twos_complement}
use Rattle.stream.proofs.Costs.{cost_at, costs_written}
use Rattle.stream.proofs.write_costs.Goals as goal
use Rattle.stream.proofs.write_costs.Goals.{At-loop-i}

long : (l : At-loop-i) → length l.loop-i.costs ≡ length l.args.costs.now
long l =
    let a = l.args in
    rw l.loop-i.invariant.1 (length_over l.loop-i.i (cost_at a.s.now) a.costs.now (omega (arith, l.requires)))

pub loop-i-init : goal.loop-i-init
loop-i-init c = (omega arith, refl)

pub bounds-costs-i : goal.bounds-costs-i
bounds-costs-i c = omega (arith, long (goal.at.bounds-costs-i c).At-loop-i, c.requires)

pub loop-i-preserved : goal.loop-i-preserved
loop-i-preserved c = (
  omega arith,
  rw c.loop-i.invariant.1
      (over_stored w16 c.loop-i.i (cost_at c.args.s.now) c.args.costs.now c.twos_complement.result (omega (arith, c.requires)) (record { sfits = c.twos_complement.type_inv })
      (c.twos_complement.ensures ∙ ap twos_complement c.two_bytes.ensures.0)),
)

pub shape_of-costs : goal.shape_of-costs
shape_of-costs c = long (goal.at.shape_of-costs c).At-loop-i

pub returns : goal.returns
returns c =
    let a = c.args in
    let e : c.loop-i.i ≡ a.bits = omega arith in
    c.loop-i.invariant.1 ∙ rw e (costs_written a.bits a.s.now a.costs.now)
