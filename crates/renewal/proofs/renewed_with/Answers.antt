-- `renewal::renewed_with` meets its contract. Assumes nothing.
use Rattle.integers.proofs.Prelude.{◌≡◌, ap, ◌∙◌, List, arith, ℤ, w32}
use Rattle.integers.proofs.Machine.{read, read_back}
use Rattle.lists.specs.Tabulated.{tab}
use Rattle.model.specs.Iteration.{at, sum_at, renewed}
use Rattle.renewal.proofs.renewed_with.Goals as goal
use Rattle.renewal.proofs.renewed_with.Goals.{After-row_sums}

sums_are : (c : After-row_sums) → let a = c.args in c.row_sums.result ≡ tab 4 (sum_at a.triples.now a.values.now a.t)
sums_are c =
    c.row_sums.ensures.0 ∙ rw (read_back w32 c.value_at-a.type_inv c.value_at-a.ensures.0, read_back w32 c.value_at-b.type_inv c.value_at-b.ensures.0, (read w32 c.ranges.c).is ∙ c.requires.third_known.0)

pub returns : goal.returns
returns c =
    let a = c.args in
    c.renewed_rows.ensures ∙ ap (λ (l : List ℤ). tab 4 (λ r. renewed (at a.s r) (at l r))) (sums_are (goal.at.returns c).After-row_sums)

pub value_at-a-requires : goal.value_at-a-requires
value_at-a-requires c = record { in_lists = (c.requires.in_lists.0, omega arith, c.requires.in_lists.1, c.requires.valued); no_blank = λ _ e. omega (arith, c.requires.valued.0.first c.args.t c.requires.in_lists.1, c.requires.valued.0.few) }

pub value_at-b-requires : goal.value_at-b-requires
value_at-b-requires c = record { in_lists = (c.requires.in_lists.0, omega arith, c.requires.in_lists.1, c.requires.valued); no_blank = λ _ e. omega (arith, c.requires.valued.0.second c.args.t c.requires.in_lists.1, c.requires.valued.0.few) }
