-- `group_step::Frames::take_out` meets its contract. Assumes nothing.
use Rattle.integers.proofs.Prelude.{◌*◌, arith, eqb}
use Rattle.lists.proofs.Parts.{part_end}
use Rattle.lists.proofs.Tabulated.{length_tab}
use Rattle.lanes.specs.Lanes.{lane_state}
use Rattle.group_step.specs.Lent.{part_in}
use Rattle.group_step.proofs.Taken.{back, one_or_other}
use Rattle.group_step.proofs.Frames.take_out.Goals as goal

pub returns-clause-parts : goal.returns-clause-parts
returns-clause-parts c g =
    let x = c.args.self.now in
    let p = x.walk.plan in
    let f = c.args.f in
    let inside = part_end p.variables x.count f c.requires.fits.2 in
    one_or_other (eqb g f) (lane_state p c.args.i c.args.work.now f) (part_in x g)
    (back p.variables f _ _ x.sums.now (omega (arith, inside, x.held.sums_long)) c.take_sums.ensures (length_tab p.variables _) g)
    (back p.variables f _ _ x.values.now (omega (arith, inside, x.held.values_long)) c.take_values.ensures (length_tab p.variables _) g)
    (back (4 * p.triples) f _ _ x.rows.now (omega (arith, part_end (4 * p.triples) x.count f c.requires.fits.2, x.held.rows_long)) c.take_rows.ensures (length_tab (4 * p.triples) _) g)
