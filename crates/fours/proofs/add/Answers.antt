-- `fours::add` meets its contract. Assumes nothing.
use Rattle.integers.proofs.Prelude.{ℕ, ◌+ℤ◌, w32}
use Rattle.integers.proofs.Linear.{abs_add}
use Rattle.integers.proofs.Machine.{Worth, fits}
use Rattle.model.specs.Iteration.{at}
use Rattle.rows.proofs.Signs.{raw}
use Rattle.fours.proofs.Lanes.{most, worked, four_worked}
use Rattle.fours.proofs.add.Goals as goal
use Rattle.fours.proofs.add.Goals.{Start}

entry : (s : Start) (k : ℕ) → let a = at s.args.a k in let b = at s.args.b k in Worth (raw a +ℤ raw b) (a +ℤ b) most
entry s k = worked ◌+ℤ◌ abs_add (at s.args.a k) (at s.args.b k) (s.requires k)

pub returns : goal.returns
returns c = four_worked ◌+ℤ◌ abs_add (at c.args.a) (at c.args.b) c.requires

pub overflow_add-result : goal.overflow_add-result
overflow_add-result c = fits (entry (goal.at.overflow_add-result c).Start 0) w32 tt

pub overflow_add-result-2 : goal.overflow_add-result-2
overflow_add-result-2 c = fits (entry (goal.at.overflow_add-result-2 c).Start 1) w32 tt

pub overflow_add-result-3 : goal.overflow_add-result-3
overflow_add-result-3 c = fits (entry (goal.at.overflow_add-result-3 c).Start 2) w32 tt

pub overflow_add-result-4 : goal.overflow_add-result-4
overflow_add-result-4 c = fits (entry (goal.at.overflow_add-result-4 c).Start 3) w32 tt
