-- `frames::main` is safe and ends: before each read the state holds what `session::advance` requires of it. Assumes nothing.
use Rattle.integers.proofs.Prelude.{◌≡◌, length, take}
use Rattle.session.specs.Session.{Kept}
use Rattle.frames.proofs.main.Given as goal

abbrev pub invariant-loop : goal.invariant-loop
invariant-loop l = (length l.buffer ≡ 10260) × Kept l.state (take l.state.at l.buffer)
