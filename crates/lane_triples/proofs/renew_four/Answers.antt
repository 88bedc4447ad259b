-- `lane_triples::renew_four` meets its contract. Assumes nothing.
use Rattle.integers.proofs.Prelude.{◌≡◌, ap, ◌∙◌, List, ℕ, ◌+◌, ◌*◌, ◌≤◌, arith, ℤ, pos, nat_abs, ◌-ℤ◌, ◌*ℤ◌}
use Rattle.integers.specs.Sum.{sum_ℤ}
use Rattle.integers.proofs.Linear.{split, to_ℕ, about}
use Rattle.lists.specs.Tabulated.{tab}
use Rattle.quotient.specs.Quotient.{unit}
use Rattle.model.specs.Iteration.{at, sign, row_sum, slack, multiplier, renewed}
use Rattle.model.proofs.Bounds.{row_sum_bound, renewed_small}
use Rattle.layout.specs.Transposed.{cell, Fours}
use Rattle.layout.proofs.Places.{fours_are}
use Rattle.lane_triples.specs.Step.{with_rows, new_row}
use Rattle.lane_triples.proofs.renew_four.Goals as goal
use Rattle.lane_triples.proofs.renew_four.Goals.{Start, After-renewed-new}

raised : (z : ℤ) → nat_abs (z -ℤ pos unit) ≤ unit → nat_abs z ≤ 2 * unit
raised z = rw (split z) (simp to_ℕ (omega arith))

module _ (s : Start) where
  abbrev old : ℕ → ℕ → ℤ
  old r k = at s.args.work.now (s.args.i + r * s.args.lanes + k)

  abbrev new : ℕ → ℕ → ℤ
  new = new_row s.args.lanes s.args.work.now s.args.i s.args.a s.args.b s.args.c

  old_small : Fours (tab 4 (λ r. tab 4 (old r)))
  old_small = fours_are old (λ r k l m. omega (arith, about (old r k), s.requires.0.multipliers r k l m, s.requires.0.slacks r k l m))

  new_small : Fours (tab 4 (λ r. tab 4 (new r)))
  new_small =
      let may = s.requires.0 in
      fours_are new (λ r k l m. renewed_small (old r k) (row_sum r _ _ _) (row_sum_bound r _ _ _ l (may.first k) (may.second k) (may.third k)) (may.multipliers r k l m))

pub renewed-new-requires : goal.renewed-new-requires
renewed-new-requires c =
    let may = c.requires.0 in
    record { fours = rw c.load_rows-old.ensures (old_small (goal.at.renewed-new-requires c).Start); raised = λ k. (raised (at c.args.a k) (may.first k), raised (at c.args.b k) (may.second k), raised (at c.args.c k) (may.third k)) }

new_is : (c : After-renewed-new) → c.renewed-new.result ≡ tab 4 (λ r. tab 4 (new (goal.at.After-renewed-new c).Start r))
new_is c =
    let a = c.args in
    c.renewed-new.ensures
    ∙ ap (λ (q : List (List ℤ)). tab 4 (λ r. tab 4 (λ k. renewed (cell q r k) (row_sum r (at a.a k -ℤ pos unit) (at a.b k -ℤ pos unit) (at a.c k -ℤ pos unit))))) c.load_rows-old.ensures

pub store_rows-requires : goal.store_rows-requires
store_rows-requires c = (c.requires.0.room, c.requires.1, rw (new_is (goal.at.store_rows-requires c).After-renewed-new) (new_small (goal.at.store_rows-requires c).Start))

pub returns : goal.returns
unfolding with_rows
returns c =
    let a = c.args in record {
      value = c.shares.ensures.value
          ∙ ap (λ (q : List (List ℤ)). tab 3 (λ p. tab 4 (λ k. sum_ℤ 4 (λ r. sign r p *ℤ pos (slack (cell q r k) + multiplier (cell q r k)))))) (new_is (goal.at.returns c).After-renewed-new);
      work_after = c.store_rows.ensures ∙ ap (λ (q : List (List ℤ)). with_rows a.lanes a.work.now a.i (cell q)) (new_is (goal.at.returns c).After-renewed-new);
    }

pub load_rows-old-requires : goal.load_rows-old-requires
load_rows-old-requires c = (c.requires.0.room, c.requires.1)

pub shares-requires : goal.shares-requires
shares-requires c = rw (new_is (goal.at.shares-requires c).After-renewed-new) (new_small (goal.at.shares-requires c).Start)
