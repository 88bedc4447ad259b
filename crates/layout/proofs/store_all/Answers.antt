-- `layout::store_all` meets its contract. Assumes nothing.
use Rattle.integers.proofs.Prelude.{ap, ◌∙◌, List, [], ℕ, ◌+◌, ◌*◌, ◌≤◌, arith, rules, ℤ, nat_abs, get_or, sets}
use Rattle.lists.specs.Tabulated.{tab}
use Rattle.model.specs.Limits.{most_row}
use Rattle.model.specs.Iteration.{at}
use Rattle.layout.specs.Transposed.{cell}
use Rattle.layout.proofs.Places.{sets_fours}
use Rattle.layout.proofs.store_all.Goals as goal
use Rattle.layout.proofs.store_all.Goals.{Start, After-store, After-store-2, After-store-3}

small : (s : Start) (k r : ℕ) → nat_abs (at (get_or s.args.q k []) r) ≤ (4 * most_row)
small s k r = omega (arith, s.requires.2 k r)

abbrev start : After-store → Start
start c = (goal.at.After-store c).Start

abbrev first : After-store-2 → After-store
first c = (goal.at.After-store-2 c).After-store

abbrev second : After-store-3 → After-store-2
second c = (goal.at.After-store-3 c).After-store-2

pub returns : goal.returns
returns c =
    let s = start (first (second (goal.at.returns c).After-store-3)) in
    let put : List ℤ → ℕ → List ℤ = λ l k. sets l (4 * (s.args.t + k)) (tab 4 (cell s.args.q k)) in
    c.store-4.ensures
    ∙ ap (λ (l : List ℤ). put l 3) (c.store-3.ensures ∙ ap (λ (l : List ℤ). put l 2) ((second (goal.at.returns c).After-store-3).store-2.ensures ∙ ap (λ (l : List ℤ). put l 1) (first (second (goal.at.returns c).After-store-3)).store.ensures))
    ∙ sets_fours s.args.rows.now s.args.t (cell s.args.q)

pub store-requires : goal.store-requires
store-requires c = record { in_lists = search rules; bounded = small (goal.at.store-requires c).Start 0 }

pub store-requires-2 : goal.store-requires-2
store-requires-2 c = record { in_lists = search rules; bounded = small (start (goal.at.store-requires-2 c).After-store) 1 }

pub store-requires-3 : goal.store-requires-3
store-requires-3 c = record { in_lists = search rules; bounded = small (start (first (goal.at.store-requires-3 c).After-store-2)) 2 }

pub store-requires-4 : goal.store-requires-4
store-requires-4 c = record { in_lists = search rules; bounded = small (start (first (second (goal.at.store-requires-4 c).After-store-3))) 3 }
