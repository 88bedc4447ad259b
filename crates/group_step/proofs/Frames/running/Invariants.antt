-- `group_step::Frames::running` meets its contract: the first f marks are those of the stages. Assumes nothing.
use Rattle.integers.proofs.Prelude.{◌≡◌, length, take}
use Rattle.group_step.specs.Frames.{marks}
use Rattle.group_step.proofs.Frames.running.Given as goal

abbrev pub invariant-loop-f : goal.invariant-loop-f
invariant-loop-f l = (length l.running ≡ 8) × (take l.f l.running ≡ marks (take l.f l.self.stages))
