-- The answers and the words of the frames so far.
use Rattle.integers.proofs.Prelude.{◌≡◌, List, map, ℕ, ℤ, get_or}
use lib.ListN.{replicate}
use Rattle.lists.specs.Tabulated.{over, written, part, blocks}
use Rattle.model.specs.Limits.{most_frames}
use Rattle.model.specs.Code.{Code}
use Rattle.model.specs.Calls.{Answer, run_told}
use Rattle.model.specs.Group.{alone}
use Rattle.group_step.specs.declared.Stage.{Stage}
use Rattle.group_step.specs.declared.Stage.TheVariants.{Idle}
use Rattle.group_step.specs.Frames.{iterations, stop_of}
use Rattle.group.specs.Ends.{answer_of}
use Rattle.group.proofs.Concluded.{left_in}
use Rattle.group.proofs.conclude.Given as goal

-- how many iterations frame f did
abbrev pub done : List Stage → ℕ → ℕ
done stages f = iterations (get_or stages f Idle)

-- what is told of frame f
abbrev pub answered : Code → ℕ → List ℤ → List Stage → ℕ → Answer
answered k v values stages f = answer_of k (done stages f) (stop_of (get_or stages f Idle)) (part v f values)

abbrev pub invariant-loop-f : goal.invariant-loop-f
invariant-loop-f l = (map run_told l.told ≡ over l.f (answered l.code l.variables l.values l.stages) (replicate most_frames (alone 0)))
    × (l.word ≡ written (blocks l.f (left_in l.code l.bits l.variables l.values (done l.stages) l.fn.word)) l.fn.word)
