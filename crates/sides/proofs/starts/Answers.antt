-- `sides::starts` meets its contract: the columns so far begin where they should. Assumes nothing.
use Rattle.integers.proofs.Prelude.{sym, ◌≤◌, arith, add-one}
use Rattle.lists.proofs.Tabulated.{over_next}
use Rattle.lists.proofs.Entries.{total_next, total_part}
use Rattle.sides.specs.Columns.{start_of}
use Rattle.sides.proofs.starts.Goals as goal
use Rattle.sides.proofs.starts.Goals.{At-loop-b, In-loop-b}

few : (c : At-loop-b) → c.loop-b.at ≤ 65535
few c = omega (arith, c.loop-b.invariant.1, total_part (λ d. d) c.args.degrees.now c.loop-b.b, c.requires.sum)

pub loop-b-preserved : goal.loop-b-preserved
loop-b-preserved c =
    let ds = c.args.degrees.now in
    let l = c.loop-b in (
      rw (add-one l.b, l.invariant.0) (over_next l.b (start_of ds) _ _ (omega (arith, c.requires.few, c.loop-b-test.true)) (sym l.invariant.1)),
      rw (add-one l.b) (omega (arith, c.from-at.ensures, l.invariant.1, total_next (λ d. d) ds l.b 0 c.loop-b-test.true)),
    )

pub overflow_cast-next : goal.overflow_cast-next
overflow_cast-next c = omega (arith, few (goal.at.overflow_cast-next c).At-loop-b)

pub overflow_add-at : goal.overflow_add-at
overflow_add-at c = omega (arith, few (goal.at.overflow_add-at c).At-loop-b)
