-- `fours::low` meets its contract. Assumes nothing.
use Rattle.integers.proofs.Prelude.{ap, ◌∙◌, ◌+◌, ◌*◌, ◌^◌, ℤ, pos, ◌-ℤ◌, ◌*ℤ◌, w32}
use lib.Signed.{shr_z}
use Rattle.integers.proofs.Machine.{Worth, fits, stored, local, param, literal, minus, times}
use Rattle.model.specs.Limits.{most_row}
use Rattle.rows.proofs.Signs.{raw}
use Rattle.fours.proofs.Parts.{high_small, low_small}
use Rattle.fours.proofs.low.Goals as goal
use Rattle.fours.proofs.low.Goals.{After-high}

module _ (c : After-high) where
  abbrev x : ℤ
  x = c.args.x

  number : Worth (raw x) x (2 * most_row)
  number = param w32 x (2 * most_row) tt c.requires

  high : Worth (raw c.high.result) (shr_z x (2 ^ 14)) (2 ^ 14)
  high = local w32 (2 ^ 14) c.high.type_inv (c.high.ensures ∙ ap (λ (z : ℤ). shr_z z (2 ^ 14)) number.is) (high_small x c.requires)

  taken : Worth (pos (2 ^ 14) *ℤ raw c.high.result) (pos (2 ^ 14) *ℤ shr_z x (2 ^ 14)) (2 ^ 28)
  taken = times (literal (pos (2 ^ 14))) high

  left : Worth (raw x -ℤ raw (pos (2 ^ 14) *ℤ raw c.high.result)) (x -ℤ pos (2 ^ 14) *ℤ shr_z x (2 ^ 14)) (2 * most_row + 2 ^ 28)
  left = minus number (stored taken w32 tt)

pub returns : goal.returns
returns c = let e = (stored (left c) w32 tt).is in (e, rw e (low_small (x c)))

pub overflow_mul-result : goal.overflow_mul-result
overflow_mul-result c = fits (taken c) w32 tt

pub overflow_sub-result : goal.overflow_sub-result
overflow_sub-result c = fits (left c) w32 tt
