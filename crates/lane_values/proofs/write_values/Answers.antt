-- `lane_values::write_values` meets its contract. Assumes nothing.
use Rattle.integers.proofs.Prelude.{◌∙◌, ◌-◌, ◌^◌}
use Rattle.lane_values.proofs.Bits.{still_fits}
use Rattle.lane_values.proofs.Lanes.{bit_entries, auxiliary_within}
use Rattle.lane_values.proofs.Valued.{lane_valued, sums_left}
use Rattle.lane_values.proofs.write_values.Goals as goal

pub write_all_bits-requires-clause-entries : goal.write_all_bits-requires-clause-entries
write_all_bits-requires-clause-entries c = bit_entries c.args.i c.requires.fits.0 c.requires.fits.1 c.requires.fits.2 c.requires.within

-- ---- the auxiliaries, behind the bits
pub write_all_auxiliaries-requires-clause-fits : goal.write_all_auxiliaries-requires-clause-fits
write_all_auxiliaries-requires-clause-fits c = (still_fits c.requires.fits.0 c.write_all_bits.ensures.long, c.requires.fits.1, c.requires.fits.2)

pub write_all_auxiliaries-requires-clause-in_range : goal.write_all_auxiliaries-requires-clause-in_range
write_all_auxiliaries-requires-clause-in_range c k l m =
    sums_left c.args.counts.now c.args.divisors.now.any c.requires.fits.0 c.requires.fits.1 c.write_all_bits.ensures (2 ^ 31 - 2 ^ 24) k m
    (auxiliary_within c.args.i c.requires.fits.0 c.requires.fits.1 c.requires.fits.2 c.requires.within k l m)

pub returns : goal.returns
returns c =
    let a = c.args.divisors.now.any in
    let bits = c.write_all_bits.ensures in
    let others = c.write_all_auxiliaries.ensures in
    record { fits = still_fits c.requires.fits.0 (others.long ∙ bits.long); valued = λ l h. lane_valued a c.requires.fits.0 c.requires.fits.1 c.requires.fits.2 bits others l h }
