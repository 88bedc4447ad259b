-- `lane_renewal::renew_counted` meets its contract: with t triples done their rows are renewed, and counted. Assumes nothing.
use Rattle.integers.proofs.Prelude.{refl, ◌∙◌, ◌+◌, ◌≤◌, arith}
use Rattle.lane_renewal.proofs.Walking.{Block, counted_none, counted_small, rows_comparable, counted_more}
use Rattle.lane_renewal.proofs.renew_counted.Goals as goal
use Rattle.lane_renewal.proofs.renew_counted.Goals.{After-renew_range, else-p-t-lt-BLOCK, then-p-t-lt-BLOCK}

pub loop-t-init : goal.loop-t-init
loop-t-init c =
    let w = c.args.walk.now in
    (refl, counted_none w.plan w.triples.now w.counts.now c.args.i c.args.from c.args.to c.args.work.now c.args.totals.now c.requires.fits.0 c.requires.due c.requires.cleared)

pub renew_range-requires-clause-begun : goal.renew_range-requires-clause-begun
renew_range-requires-clause-begun c = (c.args.work.now, λ l f h. (c.requires.due l f h, c.loop-t.invariant.1.walked l f h))

-- ---- a block of triples, whose rows are kept, and renewed
module _ (r : After-renew_range) where
  few : r.loop-t.t + r.if-p-t-lt-BLOCK.n ≤ r.args.walk.now.plan.triples
  few = elim r.if-p-t-lt-BLOCK.branch [ then-p-t-lt-BLOCK w ↦ omega (arith, w, r.loop-t.invariant.1.few) | else-p-t-lt-BLOCK w ↦ omega (arith, w) ]

  block : let w = r.args.walk.now in
      Block w.plan w.triples.now w.counts.now r.args.i r.args.from r.args.to r.args.work.now r.loop-t.t r.loop-t.work r.loop-t.totals r.if-p-t-lt-BLOCK.n r.keep.new.before
      r.renew_range.new.work
  block = record {
    so_far = r.loop-t.invariant.1;
    few = few;
    room = r.requires.fits.2.room;
    kept = r.keep.ensures;
    walked = r.renew_range.ensures.walked r.args.work.now (λ l f h. (r.requires.due l f h, r.loop-t.invariant.1.walked l f h));
  }

pub count_rows-requires-clause-comparable : goal.count_rows-requires-clause-comparable
count_rows-requires-clause-comparable c = rows_comparable (block (goal.at.count_rows-requires-clause-comparable c).After-renew_range) c.requires.due

pub count_rows-requires-clause-at_most : goal.count_rows-requires-clause-at_most
count_rows-requires-clause-at_most c =
    let w = c.args.walk.now in
    counted_small w.plan w.triples.now w.counts.now c.args.i c.args.from c.args.to c.args.work.now c.loop-t.invariant.1 c.requires.fits.0.triples c.requires.due

pub loop-t-preserved : goal.loop-t-preserved
loop-t-preserved c = (
  c.keep.auto.before ∙ c.loop-t.invariant.0,
  counted_more (block (goal.at.loop-t-preserved c).After-renew_range) _ c.renew_range.ensures.fits c.renew_range.ensures.beside c.count_rows.ensures,
)
