-- `rows::row_sums` meets its contract. Assumes nothing.
use Rattle.integers.proofs.Prelude.{◌≡◌, ap, ap₂, ◌∙◌, ℕ, ◌*◌, ℤ, w32, to_z, of_z, to_z-of_z}
use Rattle.integers.proofs.Machine.{read_back}
use Rattle.quotient.specs.Quotient.{unit}
use Rattle.model.specs.Iteration.{row_sum}
use Rattle.model.proofs.Bounds.{row_sum_bound}
use Rattle.rows.proofs.Four.{four_are, small_are}
use Rattle.rows.proofs.row_sums.Goals as goal
use Rattle.rows.proofs.row_sums.Goals.{Start}

same : (s : Start) (r : ℕ) → row_sum r (to_z w32 (of_z w32 s.args.a)) (to_z w32 (of_z w32 s.args.b)) (to_z w32 (of_z w32 s.args.c)) ≡ row_sum r s.args.a s.args.b s.args.c
same s r =
    ap (λ (z : ℤ). row_sum r z (to_z w32 (of_z w32 s.args.b)) (to_z w32 (of_z w32 s.args.c))) (to_z-of_z s.ranges.a)
    ∙ ap₂ (λ (y z : ℤ). row_sum r s.args.a y z) (to_z-of_z s.ranges.b) (to_z-of_z s.ranges.c)

pub returns : goal.returns
returns c =
    let a = c.args in
    let of : ℕ → ℤ = λ r. row_sum r a.a a.b a.c in
    let e = four_are of _ _ _ _
    (read_back w32 c.row_sum.type_inv (c.row_sum.ensures ∙ same (goal.at.returns c).Start 0))
    (read_back w32 c.row_sum-2.type_inv (c.row_sum-2.ensures ∙ same (goal.at.returns c).Start 1))
    (read_back w32 c.row_sum-3.type_inv (c.row_sum-3.ensures ∙ same (goal.at.returns c).Start 2))
    (read_back w32 c.row_sum-4.type_inv (c.row_sum-4.ensures ∙ same (goal.at.returns c).Start 3)) in
    (e, small_are (3 * unit) of e (λ r l. row_sum_bound r a.a a.b a.c l c.requires.0 c.requires.1 c.requires.2))
