-- The stages of the frames so far.
use Rattle.integers.proofs.Prelude.{◌≡◌, false, ℕ, ◌<◌}
use Rattle.lists.specs.Tabulated.{over, part}
use Rattle.lists.specs.Entries.{some}
use Rattle.model.specs.Calls.{forbidden}
use Rattle.model.specs.DecoderClaims.{Small}
use Rattle.group.proofs.Runs.{started}
use Rattle.group.proofs.begin_frames.Given as goal

abbrev pub invariant-loop-f : goal.invariant-loop-f
invariant-loop-f l = (l.stages ≡ over l.f (started l.bits l.costs) l.fn.stages)
    × ((g : ℕ) → g < l.f → some forbidden (part l.bits g l.costs) ≡ false → Small (part l.bits g l.costs))
