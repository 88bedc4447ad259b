-- `lane_values::same_blocks` meets its contract: the variables below u are in as many triples as v. Assumes nothing.
use Rattle.integers.proofs.Prelude.{◌≡◌, ap, List, ℕ, ◌<◌, arith, dec_lt, not-false, get_or}
use Rattle.lane_values.specs.Valued.{Same}
use Rattle.lane_values.proofs.same_blocks.Goals as goal

pub loop-u-init : goal.loop-u-init
loop-u-init c =
    let a = c.args in
    (omega arith, omega arith, λ k h l. let e : k ≡ a.v = omega arith in ap (λ (u : ℕ). get_or a.counts.now u 0) e)

-- one block more
joined : (counts : List ℕ) (v u e : ℕ) → Same counts v v u → Same counts v u e → Same counts v v e
joined counts v u e a b k h l = by (dec_lt k u)
  where
    by : Dec (k < u) → get_or counts k 0 ≡ get_or counts v 0
    by (yes m) = a k h m
    by (no m) = b k (omega arith) l

pub loop-u-preserved : goal.loop-u-preserved
loop-u-preserved c =
    let a = c.args in (
      omega (arith, c.block_end-e.ensures),
      c.block_end-e.ensures.1,
      joined a.counts.now a.v c.loop-u.u _ c.loop-u.invariant.2 (c.all_as.ensures (not-false c.all_as.result c.if-not-all_as.false-raw)),
    )

pub all_as-requires : goal.all_as-requires
all_as-requires c = (omega arith, c.block_end-e.ensures.0, omega (arith, c.block_end-e.ensures))

pub returns-then-not-all_as : goal.returns-then-not-all_as
returns-then-not-all_as c = c.loop-u.invariant

pub loop-u-smaller : goal.loop-u-smaller
loop-u-smaller c = omega (arith, c.block_end-e.ensures.2 c.loop-u-test.true)

pub returns : goal.returns
returns c = (omega arith, omega arith, λ k h m. c.loop-u.invariant.2 k h (omega arith))
