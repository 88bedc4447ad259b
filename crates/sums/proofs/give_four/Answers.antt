-- `sums::give_four` meets its contract: one triple after the other. Assumes nothing.
use Rattle.integers.proofs.Prelude.{refl, List, ℕ, ◌+◌, ◌*◌, ◌≤◌, arith, ℤ}
use Rattle.sums.specs.Shares.{Summed, Group}
use Rattle.sums.proofs.Sums.{summed_also}
use Rattle.sums.proofs.Groups.{group_fewer}
use Rattle.sums.proofs.give_four.Goals as goal
use Rattle.sums.proofs.give_four.Goals.{Start, After-give_one, After-give_one-2, After-give_one-3}

-- a group whose four b comes next
record Known (a : Start) : Type 0 where
  ts : List ℕ
  N : ℕ
  t : ℕ
  s : List ℤ
  summed : Summed ts N (t + 4 * a.args.b) s a.args.sums.now
  group : Group ts s t (4 * (a.args.b + 1)) a.args.members.now a.args.shares.now

known : (a : Start) → Known a
known a = record { ts = a.requires.due.0; N = a.requires.due.1; t = a.requires.due.2; s = a.requires.due.3; summed = a.requires.due.4; group = a.requires.due.5 }

module _ {a : Start} (k : Known a) where
  -- the sums when triple j of the four is next
  abbrev Next : ℕ → List ℤ → Type 0
  Next j l = Summed k.ts k.N (k.t + (4 * a.args.b + j)) k.s l

  -- the group up to it
  upto : (m : ℕ) → m ≤ 4 * (a.args.b + 1) → Group k.ts k.s k.t m a.args.members.now a.args.shares.now
  upto m h = group_fewer k.group m h

abbrev start : After-give_one → Start
start c = (goal.at.After-give_one c).Start

abbrev first : After-give_one-2 → After-give_one
first c = (goal.at.After-give_one-2 c).After-give_one

abbrev second : After-give_one-3 → After-give_one-2
second c = (goal.at.After-give_one-3 c).After-give_one-2

-- ---- the four calls
one : (c : After-give_one) (k : Known (start c)) → Next k 1 c.give_one.new.sums
one c k = summed_also (c.give_one.ensures _ _ _ _ k.summed (upto k _ (omega arith))) refl (omega arith)

two : (c : After-give_one-2) (k : Known (start (first c))) → Next k 2 c.give_one-2.new.sums
two c k = summed_also (c.give_one-2.ensures _ _ _ _ (one (first c) k) (upto k _ (omega arith))) refl (omega arith)

three : (c : After-give_one-3) (k : Known (start (first (second c)))) → Next k 3 c.give_one-3.new.sums
three c k = summed_also (c.give_one-3.ensures _ _ _ _ (two (second c) k) (upto k _ (omega arith))) refl (omega arith)

pub give_one-requires : goal.give_one-requires
give_one-requires c =
    let k = known (goal.at.give_one-requires c).Start in
    record { in_lists = omega (arith, c.requires.in_lists); due = (_, _, _, _, k.summed, upto k _ (omega arith)) }

pub give_one-requires-2 : goal.give_one-requires-2
give_one-requires-2 c =
    let a = start (goal.at.give_one-requires-2 c).After-give_one in
    let k = known a in
    record { in_lists = omega (arith, a.requires.in_lists); due = (_, _, _, _, one (goal.at.give_one-requires-2 c).After-give_one k, upto k _ (omega arith)) }

pub give_one-requires-3 : goal.give_one-requires-3
give_one-requires-3 c =
    let a = start (first (goal.at.give_one-requires-3 c).After-give_one-2) in
    let k = known a in
    record { in_lists = omega (arith, a.requires.in_lists); due = (_, _, _, _, two (goal.at.give_one-requires-3 c).After-give_one-2 k, upto k _ (omega arith)) }

pub give_one-requires-4 : goal.give_one-requires-4
give_one-requires-4 c =
    let a = start (first (second (goal.at.give_one-requires-4 c).After-give_one-3)) in
    let k = known a in
    record { in_lists = omega (arith, a.requires.in_lists); due = (_, _, _, _, three (goal.at.give_one-requires-4 c).After-give_one-3 k, upto k _ (omega arith)) }

pub returns : goal.returns
returns c ts N t s g h =
    let k : Known (start (first (second (goal.at.returns c).After-give_one-3))) = record { ts = ts; N = N; t = t; s = s; summed = g; group = h } in
    summed_also (c.give_one-4.ensures ts N t s (three (goal.at.returns c).After-give_one-3 k) (upto k _ (omega arith))) refl (omega arith)
