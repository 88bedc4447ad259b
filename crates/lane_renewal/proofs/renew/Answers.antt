-- `lane_renewal::renew` meets its contract: the rows in two parts, and the totals of the first. Assumes nothing.
use Rattle.lane_renewal.proofs.Walking.{settled}
use Rattle.lane_renewal.proofs.renew.Goals as goal

pub renew_range-requires-clause-begun : goal.renew_range-requires-clause-begun
renew_range-requires-clause-begun c = (c.args.work.now, λ l f h. (c.requires.due l f h, c.renew_counted-done.ensures.counted.walked l f h))

pub returns-clause-walked : goal.returns-clause-walked
returns-clause-walked c =
    c.renew_range.ensures.walked c.args.work.now (λ l f h. (c.requires.due l f h, c.renew_counted-done.ensures.counted.walked l f h))

pub returns-clause-settles : goal.returns-clause-settles
returns-clause-settles c =
    let w = c.args.walk.now in
    settled w.plan w.triples.now w.counts.now c.args.i c.args.from c.args.to c.args.work.now c.args.tolerance c.renew_counted-done.result c.args.running.now
    c.renew_counted-done.new.totals c.renew_counted-done.new.work c.renew_counted-done.ensures.counted c.renew_counted-done.ensures.none_within
