-- `renewal::thirds` meets its contract. Assumes nothing.
use Rattle.integers.proofs.Prelude.{◌≡◌, sym, ap, subst, ◌∙◌, List, ℕ, ◌+◌, ◌≤◌, arith, nat_abs, ℤ, w32}
use Rattle.integers.proofs.Machine.{read_back}
use Rattle.quotient.specs.Quotient.{unit}
use Rattle.model.specs.Splitting.{member}
use Rattle.model.specs.Iteration.{at, value_at}
use Rattle.model.proofs.Rows.{at_tab, value_small}
use Rattle.rows.proofs.Four.{four_are}
use Rattle.renewal.proofs.thirds.Goals as goal

pub returns : goal.returns
returns c =
    let values = c.args.values.now in
    let third : ℕ → ℤ = λ k. value_at values (member c.args.triples.now (c.args.t + k) 2) in
    let first : c.args.t ≡ c.args.t + 0 = omega arith in
    let e = four_are third _ _ _ _ (read_back w32 c.value_at.type_inv c.value_at.ensures.0 ∙ ap (λ (u : ℕ). value_at values (member c.args.triples.now u 2)) first)
    (read_back w32 c.value_at-2.type_inv c.value_at-2.ensures.0) (read_back w32 c.value_at-3.type_inv c.value_at-3.ensures.0) (read_back w32 c.value_at-4.type_inv c.value_at-4.ensures.0) in
    (e, λ k. subst (λ (l : List ℤ). nat_abs (at l k) ≤ unit) (sym e) (at_tab (λ u. nat_abs u ≤ unit) 4 third k (λ _. value_small values (member c.args.triples.now (c.args.t + k) 2) (c.requires.valued.1 _)) (omega arith)))

pub value_at-requires : goal.value_at-requires
value_at-requires c = record { in_lists = (omega (arith, c.requires.in_lists), omega arith, omega (arith, c.requires.in_lists), c.requires.valued); no_blank = λ e. c.requires.known e _ (omega (arith, c.requires.in_lists)) }

pub value_at-requires-2 : goal.value_at-requires-2
value_at-requires-2 c = record { in_lists = (omega (arith, c.requires.in_lists), omega arith, omega (arith, c.requires.in_lists), c.requires.valued); no_blank = λ e. c.requires.known e _ (omega (arith, c.requires.in_lists)) }

pub value_at-requires-3 : goal.value_at-requires-3
value_at-requires-3 c = record { in_lists = (omega (arith, c.requires.in_lists), omega arith, omega (arith, c.requires.in_lists), c.requires.valued); no_blank = λ e. c.requires.known e _ (omega (arith, c.requires.in_lists)) }

pub value_at-requires-4 : goal.value_at-requires-4
value_at-requires-4 c = record { in_lists = (omega (arith, c.requires.in_lists), omega arith, omega (arith, c.requires.in_lists), c.requires.valued); no_blank = λ e. c.requires.known e _ (omega (arith, c.requires.in_lists)) }
