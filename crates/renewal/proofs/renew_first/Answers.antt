-- `renewal::renew_first` meets its contract: with t triples done the list and the totals will be the same in the end. Assumes nothing.
use Rattle.integers.proofs.Prelude.{◌≡◌, ap, subst, ◌∙◌, List, ℕ, ◌%◌, arith, rules, ℤ}
use Rattle.lists.specs.Tabulated.{tab}
use Rattle.model.specs.Iteration.{at, row, sum_at, renewed}
use Rattle.rows.specs.Sides.{Rows}
use Rattle.renewal.specs.InPlace.{Left, Renewed}
use Rattle.renewal.proofs.Renewal.{old_rows, new_rows, triple_renewed, renewed_none, both, at_first, totals_small}
use Rattle.renewal.proofs.renew_first.Goals as goal
use Rattle.renewal.proofs.renew_first.Goals.{Start, At-loop-t, After-load-old, After-renewed_triple-new, After-rows-1}

-- ---- in the loop
abbrev start : At-loop-t → Start
start l = (goal.at.At-loop-t l).Start

left : (l : At-loop-t) → Left (start l).args.count l.loop-t.t l.loop-t.rows
left l = l.loop-t.invariant.1.left

old_small : (c : After-load-old) → Rows c.load-old.result
old_small c = rw c.load-old.ensures (old_rows c.loop-t.rows c.loop-t.t (left (goal.at.After-load-old c).At-loop-t).small)

abbrev at_loop : After-renewed_triple-new → At-loop-t
at_loop c = (goal.at.After-renewed_triple-new c).At-loop-t

new_is : (c : After-renewed_triple-new) → let l = at_loop c in let a = (start l).args in
    c.renewed_triple-new.result ≡ tab 4 (λ r. renewed (row l.loop-t.rows l.loop-t.t r) (sum_at a.triples.now a.values.now l.loop-t.t r))
new_is c =
    let l = at_loop c in
    let a = (start l).args in
    c.renewed_triple-new.ensures ∙ ap (λ (k : List ℤ). tab 4 (λ r. renewed (at k r) (sum_at a.triples.now a.values.now l.loop-t.t r))) c.load-old.ensures

new_small : (c : After-renewed_triple-new) → Rows c.renewed_triple-new.result
new_small c = let l = at_loop c in let s = start l in rw (new_is c) (new_rows s.args.triples.now s.args.values.now s.requires.valued.1 l.loop-t.rows l.loop-t.t (left l).small)

abbrev made : After-rows-1 → After-renewed_triple-new
made c = (goal.at.After-rows-1 c).After-renewed_triple-new

pub with_triple-totals-requires : goal.with_triple-totals-requires
with_triple-totals-requires c =
    let l = at_loop (made c) in
    let s = start l in
    let small = totals_small s.args.count s.args.triples.now s.args.values.now s.requires.sized.0 s.requires.valued.1 (at_first s.requires.sized.2 s.requires.rows_within) l.loop-t.invariant.1 in
    record { totals_fit = omega (arith, small); rows = (old_small (goal.at.After-renewed_triple-new (made c)).After-load-old, new_small (made c)) }

pub loop-t-preserved : goal.loop-t-preserved
loop-t-preserved c =
    let n = made (goal.at.loop-t-preserved c).After-rows-1 in
    let l = at_loop n in
    let a = (start l).args in
    let h = n.loop-t-test.true in (
      omega (arith, h),
      both a.count a.triples.now a.values.now l.loop-t.invariant.1 (triple_renewed a.count a.triples.now a.values.now l.loop-t.t l.loop-t.rows c.store.new.rows
          n.load-old.result n.renewed_triple-new.result _ _ _ _ h (left l) n.load-old.ensures (new_is n) c.store.ensures c.with_triple-totals.ensures.changes_added.0 c.with_triple-totals.ensures.changes_added.1),
    )

pub returns : goal.returns
returns c =
    let a = (start (goal.at.returns c).At-loop-t).args in
    let e : c.loop-t.t ≡ a.count % 4 = omega (arith, c.loop-t.invariant.0, c.loop-t-test.false) in
    subst (λ (t : ℕ). Renewed a.count a.triples.now a.values.now 0 t a.rows.now c.loop-t.rows 0 c.loop-t.totals.multipliers 0 c.loop-t.totals.slacks) e c.loop-t.invariant.1

pub loop-t-init : goal.loop-t-init
loop-t-init c = (omega arith, renewed_none _ _ _ _ _ _ _ (at_first c.requires.sized.2 c.requires.rows_within))

pub load-old-requires : goal.load-old-requires
load-old-requires c = search (rules, (left (goal.at.load-old-requires c).At-loop-t).long)

pub renewed_triple-new-requires : goal.renewed_triple-new-requires
renewed_triple-new-requires c = record { in_lists = search rules; valued = (start (goal.at.renewed_triple-new-requires c).At-loop-t).requires.valued; rows = old_small c }

pub store-requires : goal.store-requires
store-requires c = record { in_lists = search (rules, (left (at_loop (goal.at.store-requires c).After-renewed_triple-new)).long); bounded = λ r. omega (arith, new_small (goal.at.store-requires c).After-renewed_triple-new r) }

pub loop-t-smaller : goal.loop-t-smaller
loop-t-smaller c = omega (arith, (made (goal.at.loop-t-smaller c).After-rows-1).loop-t-test.true)

pub shape_of-rows : goal.shape_of-rows
shape_of-rows c = (left (goal.at.shape_of-rows c).At-loop-t).long ∙ (start (goal.at.shape_of-rows c).At-loop-t).requires.sized.2
