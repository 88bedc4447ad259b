-- `group_run::count_running` meets its contract. Assumes nothing.
use Rattle.integers.proofs.Prelude.{◌≡◌, ◌≤◌, length, take}
use Rattle.group_run.specs.Course.{count_running}
use Rattle.group_run.proofs.count_running.Given as goal

abbrev pub invariant-loop-f : goal.invariant-loop-f
invariant-loop-f l = (l.f ≤ length l.running) × (l.n ≤ l.f) × (l.n ≡ count_running (take l.f l.running))
