-- `lane_values::write_narrow` meets its contract: the entries below i are stored. Assumes nothing.
use Rattle.integers.proofs.Prelude.{◌≡◌, ap₂, ◌∙◌, ◌+◌, arith, ℤ, pos, neg_ℤ, ◌+ℤ◌, ◌*ℤ◌, w32, to_z, of_z}
use Rattle.integers.proofs.Machine.{kept, read_back}
use Rattle.quotient.specs.Quotient.{unit, quotient}
use Rattle.model.specs.Iteration.{at}
use Rattle.lane_values.specs.Places.{narrow_value}
use Rattle.lane_values.proofs.Stored.{ahead, store_next}
use Rattle.lane_values.proofs.write_narrow.Goals as goal
use Rattle.lane_values.proofs.write_narrow.Goals.{After-w-1}

-- what is read has not changed
module _ (c : After-w-1) where
  sum_is : to_z w32 (of_z w32 (at c.loop-i.work (c.args.sums + c.loop-i.i))) ≡ at c.args.work.now (c.args.sums + c.loop-i.i)
  sum_is = kept w32 _ c.s-1.given ∙ ahead c.requires.from_le_to.1 (omega arith) c.loop-i.invariant.2 2 c.loop-i.i (omega arith) (omega arith) (omega arith)

  weighed_is : to_z w32 (of_z w32 (at c.loop-i.work (c.args.weighed + c.loop-i.i))) ≡ at c.args.work.now (c.args.weighed + c.loop-i.i)
  weighed_is = kept w32 _ c.w-1.given ∙ ahead c.requires.from_le_to.1 (omega arith) c.loop-i.invariant.2 3 c.loop-i.i (omega arith) (omega arith) (omega arith)

pub divide-requires : goal.divide-requires
divide-requires c =
    let given = c.requires.in_range c.loop-i.i c.loop-i.invariant.0 c.loop-i-test.true in
    rw (sum_is c, weighed_is c) (given.0, omega (arith, given.1))

pub loop-i-preserved : goal.loop-i-preserved
loop-i-preserved c =
    let a = c.args in
    let d = (goal.at.loop-i-preserved c).After-w-1 in (
      omega arith,
      omega arith,
      store_next c.requires.from_le_to.1 (narrow_value a.work.now a.sums a.weighed a.narrow) c.loop-i.i (to_z w32 (of_z w32 c.divide.result))
          (read_back w32 c.divide.type_inv (c.divide.ensures ∙ ap₂ (λ (y z : ℤ). quotient (neg_ℤ (pos 256 *ℤ y +ℤ z)) a.narrow +ℤ pos unit) (sum_is d) (weighed_is d)))
          c.loop-i-test.true c.loop-i.work c.loop-i.invariant.2.long 2 (omega arith) c.loop-i.invariant.0 c.loop-i.invariant.2,
    )
