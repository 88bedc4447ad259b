-- `lane_values::write_auxiliaries` meets its contract: the entries below i are stored. Assumes nothing.
use Rattle.integers.proofs.Prelude.{◌≡◌, ap, ◌∙◌, ◌+◌, arith, ℤ, pos, neg_ℤ, ◌+ℤ◌, ◌*ℤ◌, w32, to_z, of_z}
use Rattle.integers.proofs.Machine.{kept, read_back}
use Rattle.quotient.specs.Quotient.{unit, quotient}
use Rattle.model.specs.Iteration.{at}
use Rattle.lane_values.specs.Places.{auxiliary_value}
use Rattle.lane_values.proofs.Stored.{ahead, store_next}
use Rattle.lane_values.proofs.write_auxiliaries.Goals as goal
use Rattle.lane_values.proofs.write_auxiliaries.Goals.{After-s-1}

-- what is read has not changed
sum_is : (c : After-s-1) → to_z w32 (of_z w32 (at c.loop-i.work (c.args.sums + c.loop-i.i))) ≡ at c.args.work.now (c.args.sums + c.loop-i.i)
sum_is c = kept w32 _ c.s-1.given ∙ ahead c.requires.from_le_to.1 (omega arith) c.loop-i.invariant.2 2 c.loop-i.i (omega arith) (omega arith) (omega arith)

pub divide_alone-requires : goal.divide_alone-requires
divide_alone-requires c = rw (sum_is c) (c.requires.in_range c.loop-i.i c.loop-i.invariant.0 c.loop-i-test.true)

pub loop-i-preserved : goal.loop-i-preserved
loop-i-preserved c =
    let a = c.args in (
      omega arith,
      omega arith,
      store_next c.requires.from_le_to.1 (auxiliary_value a.work.now a.sums a.narrow) c.loop-i.i (to_z w32 (of_z w32 c.divide_alone.result))
          (read_back w32 c.divide_alone.type_inv
          (c.divide_alone.ensures ∙ ap (λ (y : ℤ). quotient (neg_ℤ (pos 256 *ℤ y)) a.narrow +ℤ pos unit) (sum_is (goal.at.loop-i-preserved c).After-s-1)))
          c.loop-i-test.true c.loop-i.work c.loop-i.invariant.2.long 2 (omega arith) c.loop-i.invariant.0 c.loop-i.invariant.2,
    )
