-- `rows::changes` meets its contract. Assumes nothing.
use Rattle.integers.proofs.Prelude.{◌≡◌, ap, ◌∙◌, ℕ, ◌+◌, ◌*◌, ◌≤◌, arith, ℤ, nat_abs, w32}
use Rattle.integers.specs.Sum.{sum_ℕ}
use Rattle.integers.proofs.Sums.{sum_ℕ_bound}
use Rattle.integers.proofs.Machine.{Worth, param}
use Rattle.model.specs.Limits.{most_row}
use Rattle.model.specs.Iteration.{at}
use Rattle.rows.specs.Sides.{change_of, most_changes}
use Rattle.rows.proofs.Four.{sum_four, change_small}
use Rattle.rows.proofs.Signs.{raw}
use Rattle.rows.proofs.changes.Goals as goal
use Rattle.rows.proofs.changes.Goals.{Start, After-change_at-4}

module _ (s : Start) where
  -- the square at row r
  abbrev of : ℤ → ℕ → ℕ
  of side r = change_of side (at s.args.old r) (at s.args.new r)

  side : Worth (raw s.args.side) s.args.side 1
  side = param w32 s.args.side 1 tt (omega (arith, s.requires.0))

  one : nat_abs (raw s.args.side) ≡ 1
  one = ap nat_abs side.is ∙ s.requires.0

  is : (r n : ℕ) → n ≡ of (raw s.args.side) r → n ≡ of s.args.side r
  is r n e = e ∙ ap (λ (z : ℤ). of z r) side.is

abbrev start : After-change_at-4 → Start
start c = (goal.at.After-change_at-4 c).Start

summed : (c : After-change_at-4) → c.change_at.result + c.change_at-2.result + c.change_at-3.result + c.change_at-4.result
    ≡ sum_ℕ 4 (of (start c) (start c).args.side)
summed c =
    let s = start c in
    sum_four (of s s.args.side) _ _ _ _
    (is s 0 _ c.change_at.ensures) (is s 1 _ c.change_at-2.ensures) (is s 2 _ c.change_at-3.ensures) (is s 3 _ c.change_at-4.ensures)

small : (c : After-change_at-4) → sum_ℕ 4 (of (start c) (start c).args.side) ≤ most_changes
small c = let s = start c in sum_ℕ_bound 4 (most_row * most_row) (of s s.args.side) (λ r _. change_small s.args.side (omega (arith, s.requires.0)) _ _ (s.requires.1 r, s.requires.2 r))

pub returns : goal.returns
returns c = (c.added.ensures ∙ summed (goal.at.returns c).After-change_at-4, omega (arith, c.added.ensures, summed (goal.at.returns c).After-change_at-4, small (goal.at.returns c).After-change_at-4))

pub change_at-requires : goal.change_at-requires
change_at-requires s = (omega arith, one s, s.requires.1 _, s.requires.2 _)

pub change_at-requires-2 : goal.change_at-requires-2
change_at-requires-2 c = (omega arith, one (goal.at.change_at-requires-2 c).Start, c.requires.1 _, c.requires.2 _)

pub change_at-requires-3 : goal.change_at-requires-3
change_at-requires-3 c = (omega arith, one (goal.at.change_at-requires-3 c).Start, c.requires.1 _, c.requires.2 _)

pub change_at-requires-4 : goal.change_at-requires-4
change_at-requires-4 c = (omega arith, one (goal.at.change_at-requires-4 c).Start, c.requires.1 _, c.requires.2 _)

pub added-requires : goal.added-requires
added-requires c = omega (arith, summed c, small c)
