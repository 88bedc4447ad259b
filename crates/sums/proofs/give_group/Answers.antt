-- `sums::give_group` meets its contract: after b fours of the group the sums are those of t + 4b triples. Assumes nothing.
use Rattle.integers.proofs.Prelude.{refl, sym, ◌∙◌, ◌+◌, ◌*◌, arith}
use Rattle.sums.specs.Shares.{Summed}
use Rattle.sums.proofs.Sums.{summed_long, summed_also}
use Rattle.sums.proofs.Groups.{group_fewer}
use Rattle.sums.proofs.give_group.Goals as goal
use Rattle.sums.proofs.give_group.Goals.{Start, At-loop-b}

pub loop-b-init : goal.loop-b-init
loop-b-init c = (omega arith, λ ts N t s g _. summed_also g refl (omega arith))

module _ (l : At-loop-b) where
  abbrev start : Start
  start = (goal.at.At-loop-b l).Start

  -- the sums so far, of a group that there is
  now : Summed start.requires.due.0 start.requires.due.1 (start.requires.due.2 + 4 * l.loop-b.b) start.requires.due.3 l.loop-b.sums
  now = l.loop-b.invariant.1 _ _ _ _ start.requires.due.4 start.requires.due.5

pub give_four-requires : goal.give_four-requires
give_four-requires c =
    let s = start (goal.at.give_four-requires c).At-loop-b in
    record { in_lists = omega (arith, s.requires.in_lists, c.loop-b-test.true); due = (_, _, _, _, now (goal.at.give_four-requires c).At-loop-b, group_fewer s.requires.due.5 _ (omega (arith, c.loop-b-test.true))) }

pub loop-b-preserved : goal.loop-b-preserved
loop-b-preserved c = (
  omega (arith, c.loop-b-test.true),
  λ ts N u s g h. c.give_four.ensures ts N u s (c.loop-b.invariant.1 ts N u s g h) (group_fewer h _ (omega (arith, c.loop-b-test.true))),
)

pub returns : goal.returns
returns c ts N t s g h = summed_also (c.loop-b.invariant.1 ts N t s g h) refl (omega arith)

pub overflow_step-b : goal.overflow_step-b
overflow_step-b c = omega (arith, c.loop-b-test.true)

pub loop-b-smaller : goal.loop-b-smaller
loop-b-smaller c = omega (arith, c.loop-b-test.true)

pub shape_of-sums : goal.shape_of-sums
shape_of-sums c = summed_long (now (goal.at.shape_of-sums c).At-loop-b) ∙ sym (summed_long (start (goal.at.shape_of-sums c).At-loop-b).requires.due.4)
