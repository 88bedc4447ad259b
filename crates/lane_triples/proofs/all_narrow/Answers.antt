-- `lane_triples::all_narrow` meets its contract: what was tested and what is left to test is the whole. Assumes nothing.
use Rattle.integers.proofs.Prelude.{◌≡◌, refl, sym, Bool, true, false, not, ℕ, arith, ltb-true, ltb-false, lt-leb, le-leb, ltb, get_or}
use Rattle.lists.proofs.Entries.{passed_next, passed_end}
use Rattle.lanes.specs.Lanes.{most_narrow}
use Rattle.lane_triples.proofs.all_narrow.Invariants.{test}
use Rattle.lane_triples.proofs.all_narrow.Goals as goal

-- the test as the code makes it
opposite : (c : ℕ) → not (ltb most_narrow c) ≡ test c
opposite c = by (ltb most_narrow c) refl
  where
    by : (e : Bool) → ltb most_narrow c ≡ e → not e ≡ test c
    by true e = sym (lt-leb c most_narrow (ltb-true most_narrow c e))
    by false e = sym (le-leb c most_narrow (ltb-false most_narrow c e))

pub loop-v-preserved : goal.loop-v-preserved
loop-v-preserved c =
    let counts = c.args.counts.now in
    rw (c.is_wide.ensures, opposite (get_or counts c.loop-v.v 0)) (passed_next test counts c.loop-v.narrow c.loop-v.v 0 c.loop-v-test.true c.loop-v.invariant)

pub loop-v-init : goal.loop-v-init
loop-v-init c = refl

pub is_wide-requires : goal.is_wide-requires
is_wide-requires c = c.loop-v-test.true

pub overflow_step-v : goal.overflow_step-v
overflow_step-v c = omega (arith, c.loop-v-test.true)

pub loop-v-smaller : goal.loop-v-smaller
loop-v-smaller c = omega (arith, c.loop-v-test.true)

pub returns : goal.returns
returns c = passed_end test c.args.counts.now c.loop-v.narrow c.loop-v.v c.loop-v-test.false c.loop-v.invariant
