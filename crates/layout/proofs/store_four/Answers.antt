-- `layout::store_four` meets its contract. Assumes nothing.
use Rattle.integers.proofs.Prelude.{ap, ◌∙◌, List, ◌*◌, ◌/◌, ◌%◌, arith, ℤ, sets}
use Rattle.lists.specs.Tabulated.{tab}
use Rattle.layout.specs.Transposed.{cell}
use Rattle.layout.proofs.Places.{fours_are}
use Rattle.layout.proofs.store_four.Goals as goal

pub store_all-requires : goal.store_all-requires
store_all-requires c = (
  omega (arith, c.requires.0),
  omega (arith, c.requires.1),
  rw c.transpose.ensures (fours_are (λ j k. cell c.args.q k j) (λ j k _ _. c.requires.2 k j)),
)

pub returns : goal.returns
returns c =
    c.store_all.ensures
    ∙ ap (λ (q : List (List ℤ)). sets c.args.rows.now (4 * c.args.t) (tab 16 (λ j. cell q (j / 4) (j % 4))))
    c.transpose.ensures
