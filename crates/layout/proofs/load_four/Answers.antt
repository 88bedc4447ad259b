-- `layout::load_four` meets its contract. Assumes nothing.
use Rattle.integers.proofs.Prelude.{ap, ◌∙◌, List, ◌+◌, ◌*◌, arith, ℤ}
use Rattle.lists.specs.Tabulated.{tab}
use Rattle.model.specs.Iteration.{row}
use Rattle.layout.specs.Transposed.{cell}
use Rattle.layout.proofs.Places.{fours_are}
use Rattle.layout.proofs.load_four.Goals as goal

pub transpose-requires : goal.transpose-requires
transpose-requires c =
    rw c.load_all.ensures (fours_are (λ k j. row c.args.rows.now (c.args.t + k) j) (λ k j h l. c.requires.2 (4 * (c.args.t + k) + j) (omega arith)))

pub returns : goal.returns
returns c = c.transpose.ensures ∙ ap (λ (q : List (List ℤ)). tab 4 (λ j. tab 4 (λ k. cell q k j))) c.load_all.ensures
