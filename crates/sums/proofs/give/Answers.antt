-- `sums::give` meets its contract: one position after the other. Assumes nothing.
use Rattle.integers.proofs.Prelude.{◌≡◌, ap, ◌∙◌, List, ℕ, ◌<◌, arith, ℤ, pos, w32, to_z, of_z}
use Rattle.lists.specs.Tabulated.{tab}
use Rattle.lists.proofs.Tabulated.{get_or_tab}
use Rattle.model.specs.Iteration.{at, share}
use Rattle.sums.specs.Shares.{Due}
use Rattle.sums.proofs.Sums.{read_share, partly, partly_none, partly_all, may_add, may_add_third, partly_next}
use Rattle.sums.proofs.give.Goals as goal
use Rattle.sums.proofs.give.Goals.{Start, After-variable, After-add, After-variable-2, After-add-2, After-variable-3}

-- a triple that is due
record Known (a : Start) : Type 0 where
  ts : List ℕ
  N : ℕ
  t : ℕ
  s : List ℤ
  due : Due ts N t s a.args.sums.now a.args.triples.now a.args.i a.args.shares

known : (a : Start) → Known a
known a = record { ts = a.requires.due.0; N = a.requires.due.1; t = a.requires.due.2; s = a.requires.due.3; due = a.requires.due.4 }

module _ {a : Start} (k : Known a) where
  -- the list of sums, with the shares of p positions
  abbrev given : ℕ → List ℤ
  given p = tab k.N (partly k.ts k.t k.s p)

  x_is : (p : ℕ) → p < 3 → to_z w32 (of_z w32 (at a.args.shares p)) ≡ share k.s k.t p
  x_is p h =
      read_share k.s k.t p (at a.args.shares p) k.due.summed.within h
      (ap (λ (l : List ℤ). at l p) k.due.shares ∙ get_or_tab 3 (share k.s k.t) p (pos 0) h)

-- ---- the three calls
abbrev first : After-variable → Start
first r = (goal.at.After-variable r).Start

abbrev second : After-variable-2 → After-add
second r = (goal.at.After-variable-2 r).After-add

abbrev third : After-variable-3 → After-add-2
third r = (goal.at.After-variable-3 r).After-add-2

one : (c : After-add) (k : Known (first (goal.at.After-add c).After-variable)) → c.add.new.sums ≡ given k 1
one c k =
    let d = k.due in
    let none = partly_none d.summed in
    partly_next d.summed d.few _ 0 none _ (c.variable.ensures ∙ d.same 0 (omega arith)) _ _ (x_is k 0 (omega arith)) (c.add.ensures k.N _ none)

abbrev start : After-add-2 → Start
start c = first (goal.at.After-add (second (goal.at.After-add-2 c).After-variable-2)).After-variable

two : (c : After-add-2) (k : Known (start c)) → c.add-2.new.sums ≡ given k 2
two c k =
    let d = k.due in
    let e = one (second (goal.at.After-add-2 c).After-variable-2) k in
    partly_next d.summed d.few _ 1 e _ (c.variable-2.ensures ∙ d.same 1 (omega arith)) _ _ (x_is k 1 (omega arith)) (c.add-2.ensures k.N _ e)

pub add-requires : goal.add-requires
add-requires c =
    let d = (known (first (goal.at.add-requires c).After-variable)).due in
    may_add d.summed d.few _ 0 (partly_none d.summed) _ (c.variable.ensures ∙ d.same 0 (omega arith)) (omega arith) (d.summed.named.first _ d.room)

pub add-requires-2 : goal.add-requires-2
add-requires-2 c =
    let a = second (goal.at.add-requires-2 c).After-variable-2 in
    let k = known (first (goal.at.After-add a).After-variable) in
    let d = k.due in
    may_add d.summed d.few _ 1 (one a k) _ (c.variable-2.ensures ∙ d.same 1 (omega arith)) (omega arith) (d.summed.named.second _ d.room)

pub add_third-requires : goal.add_third-requires
add_third-requires c =
    let a = third (goal.at.add_third-requires c).After-variable-3 in
    let k = known (start a) in
    let d = k.due in
    may_add_third d.summed d.few _ 2 (two a k) _ (c.variable-3.ensures ∙ d.same 2 (omega arith)) (omega arith) (d.summed.named.third _ d.room)

pub returns : goal.returns
returns c ts N t s d =
    let k : Known (start (third (goal.at.returns c).After-variable-3)) = record { ts = ts; N = N; t = t; s = s; due = d } in
    let e = two (third (goal.at.returns c).After-variable-3) k in
    partly_all d.summed _
    (partly_next d.summed d.few _ 2 e _ (c.variable-3.ensures ∙ d.same 2 (omega arith)) _ _ (x_is k 2 (omega arith)) (c.add_third.ensures N _ e))
