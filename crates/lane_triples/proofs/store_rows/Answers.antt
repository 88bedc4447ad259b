-- `lane_triples::store_rows` meets its contract. Assumes nothing.
use Rattle.integers.proofs.Prelude.{ap, ◌∙◌, List, ℕ, ◌+◌, ◌*◌, ◌^◌, ◌<◌, arith, rules, ℤ, nat_abs, sets}
use Rattle.lists.specs.Tabulated.{tab}
use Rattle.layout.specs.Transposed.{cell}
use Rattle.lane_triples.specs.Step.{with_rows}
use Rattle.lane_triples.proofs.store_rows.Goals as goal
use Rattle.lane_triples.proofs.store_rows.Goals.{Start, After-store, After-store-2, After-store-3}

small : (s : Start) (r k : ℕ) → nat_abs (cell s.args.q r k) < 2 ^ 31
small s r k = omega (arith, s.requires.2 r k)

abbrev start : After-store → Start
start c = (goal.at.After-store c).Start

abbrev first : After-store-2 → After-store
first c = (goal.at.After-store-2 c).After-store

abbrev second : After-store-3 → After-store-2
second c = (goal.at.After-store-3 c).After-store-2

pub returns : goal.returns
unfolding with_rows
returns c =
    let s = start (first (second (goal.at.returns c).After-store-3)) in
    let put : List ℤ → ℕ → ℕ → List ℤ = λ w i r. sets w i (tab 4 (cell s.args.q r)) in
    c.store-4.ensures
    ∙ ap (λ (w : List ℤ). put w (s.args.i + 3 * s.args.lanes) 3) (c.store-3.ensures
    ∙ ap (λ (w : List ℤ). put w (s.args.i + 2 * s.args.lanes) 2) ((second (goal.at.returns c).After-store-3).store-2.ensures ∙ ap (λ (w : List ℤ). put w (s.args.i + s.args.lanes) 1) (first (second (goal.at.returns c).After-store-3)).store.ensures))

pub store-requires : goal.store-requires
store-requires c = (search rules, search rules, small (goal.at.store-requires c).Start 0)

pub store-requires-2 : goal.store-requires-2
store-requires-2 c = (search rules, search rules, small (start (goal.at.store-requires-2 c).After-store) 1)

pub store-requires-3 : goal.store-requires-3
store-requires-3 c = (search rules, search rules, small (start (first (goal.at.store-requires-3 c).After-store-2)) 2)

pub store-requires-4 : goal.store-requires-4
store-requires-4 c = (search rules, search rules, small (start (first (second (goal.at.store-requires-4 c).After-store-3))) 3)
