-- `lane_renewal::keep` meets its contract: after i turns the first i entries are kept. Assumes nothing.
use Rattle.integers.proofs.Prelude.{◌≡◌, refl, ap, ◌∙◌, ◌+◌, arith, pos, length, w32}
use Rattle.lists.proofs.Tabulated.{length_over, over_stored, over_in}
use Rattle.model.specs.Iteration.{at}
use Rattle.lane_renewal.proofs.keep.Goals as goal
use Rattle.lane_renewal.proofs.keep.Goals.{At-loop-i}

long : (l : At-loop-i) → length l.loop-i.before ≡ length l.args.before.now
long l = ap length l.loop-i.invariant.1 ∙ length_over l.loop-i.i _ l.args.before.now (omega (arith, l.loop-i.invariant.0, l.requires.1))

pub loop-i-preserved : goal.loop-i-preserved
loop-i-preserved c = (
  omega arith,
  rw c.loop-i.invariant.1
      (over_stored w32 c.loop-i.i (λ k. at c.args.work.now (c.args.first + k)) c.args.before.now _ (omega (arith, c.loop-i-test.true, c.requires.1)) (record { sfits = c.before-1.given }) refl),
)

pub returns : goal.returns
returns c =
    λ k h. rw c.loop-i.invariant.1 (over_in c.loop-i.i (λ k. at c.args.work.now (c.args.first + k)) c.args.before.now k (pos 0) (omega (arith, c.loop-i-test.false)))

pub loop-i-init : goal.loop-i-init
loop-i-init c = (omega arith, refl)

pub bounds-before-i : goal.bounds-before-i
bounds-before-i c = omega (arith, long (goal.at.bounds-before-i c).At-loop-i)

pub shape_of-before : goal.shape_of-before
shape_of-before c = long (goal.at.shape_of-before c).At-loop-i
