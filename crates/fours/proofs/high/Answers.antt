-- `fours::high` meets its contract. Assumes nothing.
use Rattle.integers.proofs.Prelude.{ap, ◌∙◌, ◌^◌, ℤ, w32, to_z-of_z}
use native.Mathlib.Nat.{lt_of_le_of_lt}
use lib.Signed.{shr_z, mag_shr}
use Rattle.integers.proofs.Machine.{kept}
use Rattle.rows.proofs.Signs.{raw}
use Rattle.fours.proofs.high.Goals as goal

pub returns : goal.returns
returns c =
    let x = c.args.x in
    ap (λ (z : ℤ). raw (shr_z z (2 ^ 14))) (to_z-of_z c.ranges.x) ∙ kept w32 (shr_z x (2 ^ 14)) (lt_of_le_of_lt (mag_shr x (2 ^ 14)) c.ranges.x.sfits)
