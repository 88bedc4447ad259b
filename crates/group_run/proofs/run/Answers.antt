-- `group_run::run` meets its contract. Assumes nothing.
use Rattle.lane_renewal.proofs.Tripling.{is_tripled}
use Rattle.group_run.proofs.Givens.{tripled, narrow}
use Rattle.group_run.proofs.run.Goals as goal

pub invariant_of-frames : goal.invariant_of-frames
invariant_of-frames c =
    let g = c.requires.fits.1 in
    record { tripled = is_tripled (tripled g); narrowed = narrow g _ _ c.without_blank-without.ensures c.all_narrow-narrow.ensures }
