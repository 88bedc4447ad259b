-- `renewal::renew_counted` meets its contract: with t triples done the list and the totals will be the same in the end. Assumes nothing.
use Rattle.integers.proofs.Prelude.{◌∙◌, ◌+◌, ◌≤◌, arith, rules}
use Rattle.renewal.specs.InPlace.{Renewed}
use Rattle.renewal.proofs.Renewal.{old_fours, new_fours, four_renewed, renewed_none, both, at_first, totals_small, met, unmet}
use Rattle.renewal.proofs.renew_counted.Goals as goal
use Rattle.renewal.proofs.renew_counted.Goals.{Start, After-renew_first-totals, At-loop-t, In-loop-t}

-- ---- in the loop
abbrev first : At-loop-t → After-renew_first-totals
first l = (goal.at.At-loop-t l).After-renew_first-totals

abbrev start : At-loop-t → Start
start l = (goal.at.After-renew_first-totals (first l)).Start

-- from the start
whole : (l : At-loop-t) → let a = (start l).args in
    Renewed a.count a.triples.now a.values.now 0 l.loop-t.t a.rows.now l.loop-t.rows 0 l.loop-t.totals.multipliers 0 l.loop-t.totals.slacks
whole l = let a = (start l).args in both a.count a.triples.now a.values.now (first l).renew_first-totals.ensures l.loop-t.invariant.1

abbrev at_test : In-loop-t → At-loop-t
at_test c = (goal.at.In-loop-t c).At-loop-t

-- four triples more are there
room : (c : In-loop-t) → (at_test c).loop-t.t + 4 ≤ (start (at_test c)).args.count
room c =
    let l = at_test c in
    omega (arith, l.loop-t.invariant.0, met l.loop-t.t (start l).args.count l.loop-t.totals.multipliers l.loop-t.totals.slacks (start l).args.tolerance c.loop-t-test.true)

pub with_four-totals-requires : goal.with_four-totals-requires
with_four-totals-requires c =
    let l = at_test (goal.at.with_four-totals-requires c).In-loop-t in
    let s = start l in
    let a = s.args in
    let small = totals_small a.count a.triples.now a.values.now s.requires.sized.0 s.requires.valued.1 (at_first s.requires.sized.2 s.requires.rows_within) (whole l) in record {
      totals_fit = omega (arith, small);
      fours = rw (c.renew_four-four.ensures.old_loaded, c.renew_four-four.ensures.new_renewed) (old_fours l.loop-t.rows l.loop-t.t (whole l).left.small, new_fours a.triples.now a.values.now s.requires.valued.1 l.loop-t.rows l.loop-t.t (whole l).left.small);
    }

pub loop-t-preserved : goal.loop-t-preserved
loop-t-preserved c =
    let l = at_test (goal.at.loop-t-preserved c).In-loop-t in
    let a = (start l).args in
    let h = room (goal.at.loop-t-preserved c).In-loop-t in (
      (omega (arith, h), omega (arith, l.loop-t.invariant.0, h)),
      both a.count a.triples.now a.values.now l.loop-t.invariant.1 (four_renewed a.count a.triples.now a.values.now l.loop-t.t l.loop-t.rows c.renew_four-four.new.rows c.renew_four-four.result.old c.renew_four-four.result.new
          _ _ _ _ l.loop-t.invariant.0 (omega (arith, h)) (whole l).left c.renew_four-four.ensures.old_loaded c.renew_four-four.ensures.new_renewed c.renew_four-four.ensures.rows_after c.with_four-totals.ensures.0 c.with_four-totals.ensures.1),
    )

pub returns : goal.returns
returns c =
    let a = (start (goal.at.returns c).At-loop-t).args in record {
      aligned = c.loop-t.invariant.0;
      done_all = λ p q. omega (arith, c.loop-t.invariant.0, unmet c.loop-t.t a.count c.loop-t.totals.multipliers c.loop-t.totals.slacks a.tolerance c.loop-t-test.false p q);
      renewed = whole (goal.at.returns c).At-loop-t;
    }

pub loop-t-init : goal.loop-t-init
loop-t-init c = ((omega arith, omega arith), renewed_none _ _ _ _ _ _ _ c.renew_first-totals.ensures.left)

pub thirds-c-requires : goal.thirds-c-requires
thirds-c-requires c = let s = start (at_test c) in record { in_lists = (omega (arith, s.requires.sized, room c), omega (arith, s.requires.sized, room c)); valued = s.requires.valued; known = s.requires.known }

pub renew_four-four-requires : goal.renew_four-four-requires
renew_four-four-requires c = let l = at_test (goal.at.renew_four-four-requires c).In-loop-t in
    record { in_lists = search (rules, room (goal.at.renew_four-four-requires c).In-loop-t, (whole l).left.long); valued = (start l).requires.valued; small = (whole l).left.small; thirds = c.thirds-c.ensures }

pub overflow_add-t : goal.overflow_add-t
overflow_add-t c = omega (arith, (start (at_test (goal.at.overflow_add-t c).In-loop-t)).requires.sized, room (goal.at.overflow_add-t c).In-loop-t)

pub loop-t-smaller : goal.loop-t-smaller
loop-t-smaller c = omega (arith, room (goal.at.loop-t-smaller c).In-loop-t)

pub shape_of-rows : goal.shape_of-rows
shape_of-rows c = (whole (goal.at.shape_of-rows c).At-loop-t).left.long ∙ (start (goal.at.shape_of-rows c).At-loop-t).requires.sized.2
