-- `rows::renewed_row` meets its contract. Assumes nothing.
use Rattle.integers.proofs.Prelude.{◌≡◌, ap, ◌∙◌, ◌*◌, arith, ℤ, pos, ◌+ℤ◌, ◌-ℤ◌, w32, to_z, of_z}
use Rattle.integers.proofs.Machine.{Worth, fits, stored, local, param, literal, plus, minus}
use Rattle.integers.proofs.Linear.{split, to_ℕ, about}
use Rattle.model.specs.Limits.{most_row}
use Rattle.quotient.specs.Quotient.{unit}
use Rattle.model.specs.Iteration.{at, multiplier}
use Rattle.rows.proofs.renewed_row.Goals as goal
use Rattle.rows.proofs.renewed_row.Goals.{Start, After-positive}

abbrev row : Start → ℤ
row s = at s.args.s s.args.r

abbrev sum : Start → ℤ
sum s = at s.args.sums s.args.r

multiplier_is : (c : After-positive) → Worth (to_z w32 (of_z w32 c.positive.result)) (pos (multiplier (row (goal.at.After-positive c).Start))) most_row
multiplier_is c =
    local w32 most_row c.positive.type_inv (c.positive.ensures ∙ ap (λ (z : ℤ). pos (multiplier z)) (param w32 (row (goal.at.After-positive c).Start) most_row tt c.requires.1).is)
    (omega (arith, about (row (goal.at.After-positive c).Start), c.requires.1))

-- sum - U
lowered : (s : Start) → Worth (to_z w32 (of_z w32 (sum s)) -ℤ pos unit) (sum s -ℤ pos unit) 65536
lowered s = minus (param w32 (sum s) (3 * unit) tt s.requires.2) (literal (pos unit))

-- p + (sum - U) is p + sum - U
regrouped : (a b c : ℤ) → a +ℤ (b -ℤ c) ≡ a +ℤ b -ℤ c
regrouped a b c = rw (split a, split b, split c) (simp to_ℕ (omega arith))

pub returns : goal.returns
returns c =
    (stored (plus (multiplier_is (goal.at.returns c).After-positive) (stored (lowered (goal.at.returns c).Start) w32 tt)) w32 tt).is ∙ regrouped (pos (multiplier (row (goal.at.returns c).Start))) (sum (goal.at.returns c).Start) (pos unit)

pub overflow_add-result : goal.overflow_add-result
overflow_add-result c = fits (plus (multiplier_is (goal.at.overflow_add-result c).After-positive) (stored (lowered (goal.at.overflow_add-result c).Start) w32 tt)) w32 tt

pub overflow_sub-result : goal.overflow_sub-result
overflow_sub-result c = fits (lowered (goal.at.overflow_sub-result c).Start) w32 tt
