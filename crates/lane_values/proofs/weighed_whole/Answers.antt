-- `lane_values::weighed_whole` meets its contract. Assumes nothing.
use Rattle.integers.proofs.Prelude.{◌+◌, ◌*◌, ◌^◌, ℤ, pos, ◌+ℤ◌, ◌*ℤ◌, w32, w64, to_z, of_z}
use mir.Val.{SFits, hbits}
use Rattle.integers.proofs.Machine.{Worth, fits, stored, read, literal, plus, times}
use Rattle.lane_values.proofs.weighed_whole.Goals as goal
use Rattle.lane_values.proofs.weighed_whole.Goals.{Start}

-- a parameter, cast to the wider type
widened : (z : ℤ) → SFits w32 z → Worth (to_z w64 (of_z w64 (to_z w32 (of_z w32 z)))) z (2 ^ hbits w32)
widened z h = stored (read w32 h) w64 tt

module _ (s : Start) where
  abbrev low : ℤ
  low = to_z w64 (of_z w64 (to_z w32 (of_z w32 s.args.low)))

  abbrev high : ℤ
  high = pos 16384 *ℤ to_z w64 (of_z w64 (to_z w32 (of_z w32 s.args.high)))

  abbrev sum : ℤ
  sum = pos 256 *ℤ to_z w64 (of_z w64 (low +ℤ to_z w64 (of_z w64 high)))

  scaled : Worth high (pos 16384 *ℤ s.args.high) (16384 * 2 ^ hbits w32)
  scaled = times (literal (pos 16384)) (widened s.args.high s.ranges.high)

  both : Worth (low +ℤ to_z w64 (of_z w64 high)) (s.args.low +ℤ pos 16384 *ℤ s.args.high) (2 ^ hbits w32 + 16384 * 2 ^ hbits w32)
  both = plus (widened s.args.low s.ranges.low) (stored scaled w64 tt)

  weighted : Worth sum (pos 256 *ℤ (s.args.low +ℤ pos 16384 *ℤ s.args.high)) (256 * (2 ^ hbits w32 + 16384 * 2 ^ hbits w32))
  weighted = times (literal (pos 256)) (stored both w64 tt)

  total : let a = s.args in
      Worth (to_z w64 (of_z w64 sum) +ℤ to_z w64 (of_z w64 (to_z w32 (of_z w32 a.weighed)))) (pos 256 *ℤ (a.low +ℤ pos 16384 *ℤ a.high) +ℤ a.weighed)
      (256 * (2 ^ hbits w32 + 16384 * 2 ^ hbits w32) + 2 ^ hbits w32)
  total = plus (stored weighted w64 tt) (widened s.args.weighed s.ranges.weighed)

pub overflow_cast-result : goal.overflow_cast-result
overflow_cast-result c = fits (read w32 c.ranges.low) w64 tt

pub overflow_cast-result-2 : goal.overflow_cast-result-2
overflow_cast-result-2 c = fits (read w32 c.ranges.high) w64 tt

pub overflow_mul-result : goal.overflow_mul-result
overflow_mul-result c = fits (scaled c) w64 tt

pub overflow_add-result : goal.overflow_add-result
overflow_add-result c = fits (both c) w64 tt

pub overflow_mul-result-2 : goal.overflow_mul-result-2
overflow_mul-result-2 c = fits (weighted c) w64 tt

pub overflow_cast-result-3 : goal.overflow_cast-result-3
overflow_cast-result-3 c = fits (read w32 c.ranges.weighed) w64 tt

pub overflow_add-result-2 : goal.overflow_add-result-2
overflow_add-result-2 c = fits (total c) w64 tt

pub returns : goal.returns
returns c = (stored (total c) w64 tt).is
