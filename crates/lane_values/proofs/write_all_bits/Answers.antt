-- `lane_values::write_all_bits` meets its contract: the bits below v are done. Assumes nothing.
use Rattle.integers.proofs.Prelude.{◌≡◌, arith}
use Rattle.lane_values.proofs.Stored.{nothing_stored}
use Rattle.lane_values.proofs.Bits.{still_fits, entries_later, bits_next}
use Rattle.lane_values.proofs.write_all_bits.Goals as goal
use Rattle.lane_values.proofs.write_all_bits.Goals.{Start, At-loop-v, After-same_until-end}

abbrev start : At-loop-v → Start
start l = (goal.at.At-loop-v l).Start

abbrev turn : After-same_until-end → At-loop-v
turn c = (goal.at.After-same_until-end c).At-loop-v

pub same_until-end-requires : goal.same_until-end-requires
same_until-end-requires c = let s = start (goal.at.same_until-end-requires c).At-loop-v in (c.loop-v-test.true, omega (arith, s.requires.fits.2.long, s.requires.fits.0.bits))

pub write_bits-requires : goal.write_bits-requires
write_bits-requires c =
    let l = turn (goal.at.write_bits-requires c).After-same_until-end in
    let a = (start l).args in
    let fits = (start l).requires.fits.0 in record {
      fits = (still_fits fits l.loop-v.invariant.1.long, (start l).requires.fits.1, (start l).requires.fits.2);
      v_lt_end = c.same_until-end.ensures;
      entries = entries_later a.counts.now a.divisors.now.any l.loop-v.v fits (start l).requires.fits.1 l.loop-v.invariant.1 c.same_until-end.ensures.1 (start l).requires.entries;
    }

pub loop-v-preserved : goal.loop-v-preserved
loop-v-preserved c =
    let l = turn (goal.at.loop-v-preserved c).After-same_until-end in
    let a = (start l).args in (
      c.same_until-end.ensures.1,
      bits_next a.counts.now a.divisors.now.any l.loop-v.v (start l).requires.fits.0 (start l).requires.fits.1 l.loop-v.invariant.1 c.same_until-end.ensures.1 (omega (arith, c.same_until-end.ensures.0))
          c.write_bits.ensures,
    )

pub returns : goal.returns
returns c =
    let e : c.loop-v.v ≡ (start (goal.at.returns c).At-loop-v).args.p.bits = omega arith in
    rw e at c.loop-v.invariant.1

pub loop-v-init : goal.loop-v-init
loop-v-init c = (omega arith, nothing_stored (omega arith))

pub loop-v-smaller : goal.loop-v-smaller
loop-v-smaller c = omega (arith, c.same_until-end.ensures)

pub shape_of-work : goal.shape_of-work
shape_of-work c = c.loop-v.invariant.1.long
