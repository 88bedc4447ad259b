-- `layout::load_all` meets its contract. Assumes nothing.
use Rattle.integers.proofs.Prelude.{◌≡◌, ap, ◌∙◌, List, ℕ, ◌+◌, arith, ℤ}
use Rattle.lists.specs.Tabulated.{tab}
use Rattle.model.specs.Iteration.{row}
use Rattle.rows.proofs.Four.{four_are}
use Rattle.layout.proofs.load_all.Goals as goal

pub returns : goal.returns
returns c =
    let t = c.args.t in
    let of : ℕ → List ℤ = λ u. tab 4 (λ j. row c.args.rows.now u j) in
    let e : t ≡ t + 0 = omega arith in
    four_are (λ k. of (t + k)) _ _ _ _ (c.load.ensures ∙ ap of e) c.load-2.ensures c.load-3.ensures c.load-4.ensures
