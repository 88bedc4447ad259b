-- `lane_triples::load_rows` meets its contract. Assumes nothing.
use Rattle.integers.proofs.Prelude.{◌≡◌, ap, ◌∙◌, List, ℕ, ◌+◌, ◌*◌, arith, ℤ}
use Rattle.lists.specs.Tabulated.{tab}
use Rattle.model.specs.Iteration.{at}
use Rattle.rows.proofs.Four.{four_are}
use Rattle.lane_triples.proofs.load_rows.Goals as goal

pub returns : goal.returns
returns c =
    let a = c.args in
    let of : ℕ → List ℤ = λ j. tab 4 (λ k. at a.work.now (j + k)) in
    let none : a.i ≡ a.i + 0 * a.lanes = omega arith in
    let one : a.i + a.lanes ≡ a.i + 1 * a.lanes = omega arith in
    four_are (λ r. of (a.i + r * a.lanes)) _ _ _ _ (c.load.ensures ∙ ap of none) (c.load-2.ensures ∙ ap of one)
    c.load-3.ensures c.load-4.ensures
