-- `lane_lists::take_values` meets its contract: after v turns the first v values are the lane's. Assumes nothing.
use Rattle.integers.proofs.Prelude.{◌≡◌, ap, ◌∙◌, ◌+◌, ◌*◌, arith, ℤ, pos, ◌-ℤ◌, w16, w32, to_z, of_z}
use Rattle.integers.proofs.Machine.{read_back}
use Rattle.lists.proofs.Tabulated.{over_stored}
use Rattle.quotient.specs.Quotient.{unit}
use Rattle.model.specs.Iteration.{at}
use Rattle.lanes.specs.Lanes.{in_lane, values_at}
use Rattle.lanes.proofs.Places.{place_behind}
use Rattle.lane_lists.proofs.take_values.Goals as goal
use Rattle.lane_lists.proofs.take_values.Goals.{After-lowered-arg-1}

-- the entry that is read is that of the value
entry : (c : After-lowered-arg-1) → let a = c.args in
    to_z w32 (of_z w32 (at a.work.now (c.values_at.result + a.l + a.p.lanes * c.loop-v.v))) ≡ in_lane a.p.lanes a.work.now a.l (values_at a.p + c.loop-v.v)
entry c =
    let a = c.args in
    read_back w32 c.lowered-arg-1.given (ap (at a.work.now) (place_behind a.p.lanes (values_at a.p) a.l c.loop-v.v (c.values_at.result + a.l) (omega (arith, c.values_at.ensures))))

pub lowered-requires : goal.lowered-requires
lowered-requires c = rw (entry c) (c.requires.raised c.loop-v.v (omega (arith, c.loop-v-test.true, c.requires.fits.2)))

pub loop-v-preserved : goal.loop-v-preserved
loop-v-preserved c =
    let a = c.args in (
      omega arith,
      rw c.loop-v.invariant.1
          (over_stored w16 c.loop-v.v (λ u. in_lane a.p.lanes a.work.now a.l (values_at a.p + u) -ℤ pos unit) a.values.now _ (omega (arith, c.loop-v-test.true))
          (record { sfits = c.lowered.type_inv }) (c.lowered.ensures ∙ ap (λ (z : ℤ). z -ℤ pos unit) (entry (goal.at.loop-v-preserved c).After-lowered-arg-1))),
    )
