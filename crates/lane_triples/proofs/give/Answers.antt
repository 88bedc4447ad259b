-- `lane_triples::give` meets its contract. Assumes nothing.
use Rattle.integers.proofs.Prelude.{◌≡◌, ap, ap₂, ◌∙◌, List, arith, ℤ}
use Rattle.lane_triples.specs.Step.{added, lows_of, given}
use Rattle.lane_triples.proofs.give.Goals as goal
use Rattle.lane_triples.proofs.give.Goals.{Start, After-lows, After-add_to}

abbrev start : After-lows → Start
start c = (goal.at.After-lows c).Start

pub add_to-requires : goal.add_to-requires
add_to-requires c =
    let s = start c in
    let may = s.requires.0.low c.if-wide.true in
    record { in_lists = (may.room, s.requires.1); sums_fit = rw c.lows.ensures.0 may.small }

-- the low parts are added
between : (c : After-add_to) → c.add_to.new.l ≡ added (start (goal.at.After-add_to c).After-lows).args.work.now (start (goal.at.After-add_to c).After-lows).args.i (lows_of (start (goal.at.After-add_to c).After-lows).args.x)
unfolding added
between c = let a = (start (goal.at.After-add_to c).After-lows).args in c.add_to.ensures ∙ ap (added a.work.now a.i) c.lows.ensures.0

pub add_to-requires-then-wide : goal.add_to-requires-then-wide
add_to-requires-then-wide c =
    let s = start (goal.at.add_to-requires-then-wide c).After-lows in
    let may = s.requires.0.high c.if-wide.true in
    record { in_lists = (rw (between (goal.at.add_to-requires-then-wide c).After-add_to) may.room, omega (arith, s.requires.1, c.add_to.auto.l)); sums_fit = rw (between (goal.at.add_to-requires-then-wide c).After-add_to, c.highs.ensures.0) may.small }

pub add_to-requires-else-wide : goal.add_to-requires-else-wide
add_to-requires-else-wide c = let may = c.requires.0.whole c.if-wide.false in record { in_lists = (may.room, c.requires.1); sums_fit = may.small }

pub returns-then-wide : goal.returns-then-wide
unfolding given added
returns-then-wide c =
    let a = (start (goal.at.returns-then-wide c).After-lows).args in
    rw c.if-wide.true (c.add_to-then-wide.ensures ∙ ap₂ (λ (w x : List ℤ). added w a.j x) (between (goal.at.returns-then-wide c).After-add_to) c.highs.ensures.0)

pub returns-else-wide : goal.returns-else-wide
unfolding given added
returns-else-wide c = rw c.if-wide.false c.add_to-else-wide.ensures
