-- `sums::give_first` meets its contract: after t triples the sums are those of t triples. Assumes nothing.
use Rattle.integers.proofs.Prelude.{◌≡◌, refl, ◌∙◌, ◌+◌, ◌*◌, arith, add-one, length}
use Rattle.lists.specs.Tabulated.{tab}
use Rattle.lists.proofs.Tabulated.{tab_fill}
use Rattle.model.specs.Limits.{most_done}
use Rattle.model.specs.Iteration.{share}
use Rattle.layout.specs.Transposed.{straight}
use Rattle.layout.proofs.Places.{straight_within}
use Rattle.sums.specs.Shares.{Due}
use Rattle.sums.proofs.Sums.{summed_none, summed_long, summed_also}
use Rattle.sums.proofs.Groups.{first_formed, four_small}
use Rattle.sums.proofs.give_first.Goals as goal
use Rattle.sums.proofs.give_first.Goals.{Start, After-fill, At-loop-t, After-shares}

pub loop-t-init : goal.loop-t-init
loop-t-init c =
    (omega arith, summed_none _ c.requires.members.0 (straight_within most_done c.args.count c.args.rows.now c.requires.members.1) (tab_fill _ _ _ c.fill.ensures.after))

module _ (l : At-loop-t) where
  abbrev cleared : After-fill
  cleared = (goal.at.At-loop-t l).After-fill

  abbrev start : Start
  start = (goal.at.After-fill cleared).Start

  long : length cleared.fill.new.self ≡ length start.args.sums.now
  long = cleared.fill.auto.self

pub load-requires : goal.load-requires
load-requires c = let s = start (goal.at.load-requires c).At-loop-t in (omega (arith, s.requires.lists_long), omega (arith, s.requires.lists_long))

pub shares-requires : goal.shares-requires
shares-requires c = let s = start (goal.at.shares-requires c).At-loop-t in four_small s.args.rows.now s.requires.members.1 (λ r. 4 * c.loop-t.t + r) _ c.load.ensures

-- the share of each position
formed : (c : After-shares) → c.shares.result ≡ tab 3 (share (straight (start (goal.at.After-shares c).At-loop-t).args.count (start (goal.at.After-shares c).At-loop-t).args.rows.now) c.loop-t.t)
formed c =
    c.shares.ensures ∙ first_formed (start (goal.at.After-shares c).At-loop-t).args.count (start (goal.at.After-shares c).At-loop-t).args.rows.now c.loop-t.t _ c.loop-t-test.true c.load.ensures

due : (c : After-shares) → let a = (start (goal.at.After-shares c).At-loop-t).args in
    Due a.triples.now (length (cleared (goal.at.After-shares c).At-loop-t).fill.new.self) c.loop-t.t (straight a.count a.rows.now) c.loop-t.sums a.triples.now c.loop-t.t c.shares.result
due c =
    let s = start (goal.at.After-shares c).At-loop-t in
    record { summed = c.loop-t.invariant.1; few = omega (arith, s.requires.lists_long); room = omega (arith, s.requires.lists_long); same = λ p _. refl; shares = formed c }

pub give-requires : goal.give-requires
give-requires c =
    let s = start (goal.at.give-requires c).At-loop-t in
    record { in_lists = (omega (arith, s.requires.lists_long), omega (arith, s.requires.lists_long)); due = (_, _, _, _, due (goal.at.give-requires c).After-shares) }

pub loop-t-preserved : goal.loop-t-preserved
loop-t-preserved c =
    (omega arith, rw (add-one c.loop-t.t) (c.give.ensures _ _ _ _ (due (goal.at.loop-t-preserved c).After-shares)))

pub returns : goal.returns
returns c = summed_also c.loop-t.invariant.1 (long (goal.at.returns c).At-loop-t) (omega arith)

pub shape_of-sums : goal.shape_of-sums
shape_of-sums c = summed_long c.loop-t.invariant.1 ∙ long (goal.at.shape_of-sums c).At-loop-t
