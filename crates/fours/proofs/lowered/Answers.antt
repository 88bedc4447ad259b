-- `fours::lowered` meets its contract. Assumes nothing.
use Rattle.integers.proofs.Prelude.{ℕ, ◌+◌, ◌*◌, ◌^◌, ◌<◌, arith, pos, nat_abs, ◌-ℤ◌, w32}
use Rattle.integers.proofs.Linear.{abs_sub}
use Rattle.integers.proofs.Machine.{Worth, fits}
use Rattle.quotient.specs.Quotient.{unit}
use Rattle.model.specs.Iteration.{at}
use Rattle.rows.proofs.Signs.{raw}
use Rattle.fours.proofs.Lanes.{most, worked, four_worked}
use Rattle.fours.proofs.lowered.Goals as goal
use Rattle.fours.proofs.lowered.Goals.{Start}

room : (s : Start) (k : ℕ) → nat_abs (at s.args.a k) + 4 * unit < 2 ^ 31
room s k = omega (arith, s.requires k)

entry : (s : Start) (k : ℕ) → let a = at s.args.a k in Worth (raw a -ℤ pos (4 * unit)) (a -ℤ pos (4 * unit)) most
entry s k = worked ◌-ℤ◌ abs_sub (at s.args.a k) (pos (4 * unit)) (room s k)

pub returns : goal.returns
returns c = four_worked ◌-ℤ◌ abs_sub (at c.args.a) (λ _. pos (4 * unit)) (room (goal.at.returns c).Start)

pub overflow_sub-result : goal.overflow_sub-result
overflow_sub-result c = fits (entry (goal.at.overflow_sub-result c).Start 0) w32 tt

pub overflow_sub-result-2 : goal.overflow_sub-result-2
overflow_sub-result-2 c = fits (entry (goal.at.overflow_sub-result-2 c).Start 1) w32 tt

pub overflow_sub-result-3 : goal.overflow_sub-result-3
overflow_sub-result-3 c = fits (entry (goal.at.overflow_sub-result-3 c).Start 2) w32 tt

pub overflow_sub-result-4 : goal.overflow_sub-result-4
overflow_sub-result-4 c = fits (entry (goal.at.overflow_sub-result-4 c).Start 3) w32 tt
