-- `renewal::renew_four` meets its contract. Assumes nothing.
use Rattle.integers.proofs.Prelude.{◌≡◌, ap, ◌∙◌, List, ◌+◌, arith, rules, ℤ}
use Rattle.lists.specs.Tabulated.{tab}
use Rattle.model.specs.Iteration.{at, sum_at, renewed}
use Rattle.layout.specs.Transposed.{cell, stored}
use Rattle.renewal.specs.InPlace.{renewed_four}
use Rattle.renewal.proofs.Renewal.{small_abs, old_fours, new_fours}
use Rattle.renewal.proofs.renew_four.Goals as goal
use Rattle.renewal.proofs.renew_four.Goals.{Start, After-load_four-old, After-renewed_four-new}

abbrev start : After-load_four-old → Start
start c = (goal.at.After-load_four-old c).Start

new_is : (c : After-renewed_four-new) → let a = (start (goal.at.After-renewed_four-new c).After-load_four-old).args in c.renewed_four-new.result ≡ renewed_four a.triples.now a.rows.now a.values.now a.t
new_is c =
    let a = (start (goal.at.After-renewed_four-new c).After-load_four-old).args in
    c.renewed_four-new.ensures ∙ ap (λ (q : List (List ℤ)). tab 4 (λ k. tab 4 (λ r. renewed (cell q k r) (sum_at a.triples.now a.values.now (a.t + k) r)))) c.load_four-old.ensures

pub returns : goal.returns
returns c =
    let a = (start (goal.at.returns c).After-load_four-old).args in
    record { old_loaded = c.load_four-old.ensures; new_renewed = new_is (goal.at.returns c).After-renewed_four-new; rows_after = c.store_four.ensures ∙ ap (stored a.rows.now a.t) (new_is (goal.at.returns c).After-renewed_four-new) }

pub load_four-old-requires : goal.load_four-old-requires
load_four-old-requires c = (omega (arith, c.requires.in_lists), omega (arith, c.requires.in_lists), λ i h. small_abs (at c.args.rows.now i) (c.requires.small i h))

pub renewed_four-new-requires : goal.renewed_four-new-requires
renewed_four-new-requires c = let s = start c in record { in_lists = search rules; valued = s.requires.valued; fours = rw c.load_four-old.ensures (old_fours s.args.rows.now s.args.t s.requires.small); thirds = s.requires.thirds }

pub store_four-requires : goal.store_four-requires
store_four-requires c = let s = start (goal.at.store_four-requires c).After-load_four-old in let a = s.args in (omega (arith, s.requires.in_lists), omega (arith, s.requires.in_lists), rw (new_is (goal.at.store_four-requires c).After-renewed_four-new) (new_fours a.triples.now a.values.now s.requires.valued.1 a.rows.now a.t s.requires.small))
