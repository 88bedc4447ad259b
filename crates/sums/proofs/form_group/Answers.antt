-- `sums::form_group` meets its contract: after b fours 4b triples and their shares are in the lists. Assumes nothing.
use Rattle.integers.proofs.Prelude.{◌≡◌, sym, ◌∙◌, arith}
use Rattle.sums.proofs.form_group.Goals as goal
use Rattle.sums.proofs.form_group.Goals.{Start, At-loop-b}

abbrev start : At-loop-b → Start
start l = (goal.at.At-loop-b l).Start

pub copy_four-requires : goal.copy_four-requires
copy_four-requires c =
    let s = start (goal.at.copy_four-requires c).At-loop-b in
    (omega (arith, s.requires.in_lists), omega (arith, s.requires.in_lists), omega (arith, s.requires.in_lists), c.loop-b.invariant.1)

pub share_four-requires : goal.share_four-requires
share_four-requires c =
    let s = start (goal.at.share_four-requires c).At-loop-b in
    record { in_lists = (omega (arith, s.requires.in_lists), omega (arith, s.requires.in_lists), s.requires.rows_within.0); in_shares = (omega (arith, s.requires.in_lists), c.loop-b.invariant.2) }

pub loop-b-preserved : goal.loop-b-preserved
loop-b-preserved c = (
  omega arith,
  c.copy_four.auto.members ∙ c.loop-b.invariant.1,
  c.share_four.auto.shares ∙ c.loop-b.invariant.2,
  c.copy_four.ensures c.loop-b.invariant.3,
  λ T f. c.share_four.ensures T (record { first = f.first; whole = f.whole; room = omega (arith, f.room) }) (c.loop-b.invariant.4 T f),
)

pub returns : goal.returns
returns c T f =
    let s = start (goal.at.returns c).At-loop-b in
    let e : c.loop-b.b ≡ s.args.n = omega arith in
    rw (← e) (record {
      few = omega (arith, s.requires.in_lists);
      room = omega (arith, s.requires.in_lists);
      copied = c.loop-b.invariant.3;
      shared = c.loop-b.invariant.4 T f;
    })

pub loop-b-init : goal.loop-b-init
loop-b-init c = (omega arith, c.requires.rows_within.1, c.requires.rows_within.2, (λ i h. absurd (omega arith)), λ T f p i h k. absurd (omega arith))

pub shape_of-members : goal.shape_of-members
shape_of-members c = c.loop-b.invariant.1 ∙ sym (start (goal.at.shape_of-members c).At-loop-b).requires.rows_within.1

pub shape_of-shares : goal.shape_of-shares
shape_of-shares c = c.loop-b.invariant.2 ∙ sym (start (goal.at.shape_of-shares c).At-loop-b).requires.rows_within.2
