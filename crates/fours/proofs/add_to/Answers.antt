-- `fours::add_to` meets its contract. Assumes nothing.
use Rattle.integers.proofs.Prelude.{ap, ◌∙◌, List, ℕ, ◌+◌, ◌^◌, ◌<◌, arith, ℤ, nat_abs, ◌+ℤ◌, sets}
use Rattle.integers.proofs.Linear.{abs_add}
use Rattle.lists.specs.Tabulated.{tab}
use Rattle.model.specs.Iteration.{at}
use Rattle.rows.proofs.Four.{small_are}
use Rattle.fours.proofs.Lanes.{most, room_of}
use Rattle.fours.proofs.add_to.Goals as goal
use Rattle.fours.proofs.add_to.Goals.{After-load-old}

fit : (c : After-load-old) (k : ℕ) → nat_abs (at c.load-old.result k) + nat_abs (at c.args.q k) < 2 ^ 31
fit c =
    room_of c.args.q (λ k. at c.args.l.now (c.args.i + k)) c.load-old.ensures c.well_formed.1.1.0 c.requires.sums_fit

pub store-requires : goal.store-requires
store-requires c =
    let small = small_are most (λ k. at c.load-old.result k +ℤ at c.args.q k) c.add.ensures
    (λ k _. omega (arith, abs_add (at c.load-old.result k) (at c.args.q k), fit (goal.at.store-requires c).After-load-old k)) in
    (c.requires.in_lists.0, c.requires.in_lists.1, λ k. omega (arith, small k))

pub returns : goal.returns
returns c =
    c.store.ensures ∙ ap (λ (q : List ℤ). sets c.args.l.now c.args.i (tab 4 (at q)))
    (c.add.ensures ∙ ap (λ (l : List ℤ). tab 4 (λ k. at l k +ℤ at c.args.q k)) c.load-old.ensures)

pub add-requires : goal.add-requires
add-requires c = fit (goal.at.add-requires c).After-load-old
