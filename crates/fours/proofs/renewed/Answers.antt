-- `fours::renewed` meets its contract. Assumes nothing.
use Rattle.integers.proofs.Prelude.{◌≡◌, ◌∙◌, List, ℕ, ◌+◌, ◌*◌, ◌^◌, ◌<◌, arith, ℤ, pos, nat_abs, ◌+ℤ◌, ◌-ℤ◌}
use Rattle.integers.proofs.Linear.{about, abs_sub}
use Rattle.lists.specs.Tabulated.{tab}
use Rattle.lists.proofs.Tabulated.{tab_same}
use Rattle.quotient.specs.Quotient.{unit}
use Rattle.model.specs.Limits.{most_row}
use Rattle.model.specs.Iteration.{at, multiplier}
use Rattle.rows.proofs.Four.{four_are}
use Rattle.layout.specs.Transposed.{cell}
use Rattle.fours.proofs.Lanes.{Lanes, given, told, room, sum, difference}
use Rattle.fours.proofs.Rows.{renewed_by, renewed_0, renewed_1, renewed_2, renewed_3}
use Rattle.fours.proofs.renewed.Goals as goal
use Rattle.fours.proofs.renewed.Goals.{Start, After-sub-minus, After-positives, After-add, After-positives-2, After-sub-2, After-positives-3, After-sub-4, After-positives-4, After-add-3, After-lowered}

module _ (s : Start) where
  a : Lanes s.args.a (at s.args.a) (2 * unit)
  a = given s.args.a (2 * unit) s.well_formed.1.0 (λ k. (s.requires.raised k).0)

  b : Lanes s.args.b (at s.args.b) (2 * unit)
  b = given s.args.b (2 * unit) s.well_formed.1.1.0 (λ k. (s.requires.raised k).1)

  c : Lanes s.args.c (at s.args.c) (2 * unit)
  c = given s.args.c (2 * unit) s.well_formed.1.1.1.0 (λ k. (s.requires.raised k).2)

  -- the multiplier of row r
  abbrev p : ℕ → ℕ → ℤ
  p r k = pos (multiplier (cell s.args.s r k))

  asked : (r k : ℕ) → nat_abs (cell s.args.s r k) < 2 ^ 31
  asked r k = omega (arith, s.requires.fours r k)

  row : (r : ℕ) {l : List ℤ} → l ≡ tab 4 (p r) → Lanes l (p r) most_row
  row r e = told (p r) most_row e (λ k. omega (arith, about (cell s.args.s r k), s.requires.fours r k))

  -- row r, renewed
  abbrev new : ℕ → ℕ → ℤ
  new r k = renewed_by (p r k) (at s.args.a k) (at s.args.b k) (at s.args.c k) r

  done : (r : ℕ) (f : ℤ → ℤ → ℤ → ℤ → ℤ) → ((x a b c : ℤ) → f x a b c ≡ renewed_by x a b c r) → {l : List ℤ} {n : ℕ}
      → Lanes l (λ k. f (p r k) (at s.args.a k) (at s.args.b k) (at s.args.c k)) n → l ≡ tab 4 (new r)
  done r f h u = u.is ∙ tab_same 4 _ (new r) (λ k _. h (p r k) (at s.args.a k) (at s.args.b k) (at s.args.c k))

  -- and after the first of its two operations
  abbrev Begun : (ℤ → ℤ → ℤ) → (ℤ → ℤ → ℤ) → ℕ → List ℤ → Type 0
  Begun one op r l = Lanes l (λ k. one (p r k) (op (at s.args.a k) (at s.args.b k))) (most_row + 4 * unit)

abbrev start : After-sub-minus → Start
start c = (goal.at.After-sub-minus c).Start

plus : (c : After-sub-minus) → Lanes c.add-plus.result (λ k. at (start c).args.a k +ℤ at (start c).args.b k) (4 * unit)
plus c = sum (a (start c)) (b (start c)) c.add-plus.ensures

minus : (c : After-sub-minus) → Lanes c.sub-minus.result (λ k. at (start c).args.a k -ℤ at (start c).args.b k) (4 * unit)
minus c = difference (a (start c)) (b (start c)) c.sub-minus.ensures

-- ---- row by row
abbrev at_0 : After-positives → After-sub-minus
at_0 c = (goal.at.After-positives c).After-sub-minus

abbrev at_1 : After-positives-2 → After-sub-minus
at_1 c = at_0 (goal.at.After-positives-2 c).After-positives

abbrev at_2 : After-positives-3 → After-sub-minus
at_2 c = at_1 (goal.at.After-positives-3 c).After-positives-2

abbrev at_3 : After-positives-4 → After-sub-minus
at_3 c = at_2 (goal.at.After-positives-4 c).After-positives-3

begun_0 : (c : After-add) → Begun (start (at_0 (goal.at.After-add c).After-positives)) ◌+ℤ◌ ◌-ℤ◌ 0 c.add.result
begun_0 c = let m = at_0 (goal.at.After-add c).After-positives in sum (row (start m) 0 c.positives.ensures) (minus m) c.add.ensures

begun_1 : (c : After-sub-2) → Begun (start (at_1 (goal.at.After-sub-2 c).After-positives-2)) ◌-ℤ◌ ◌-ℤ◌ 1 c.sub-2.result
begun_1 c = let m = at_1 (goal.at.After-sub-2 c).After-positives-2 in difference (row (start m) 1 c.positives-2.ensures) (minus m) c.sub-2.ensures

begun_2 : (c : After-sub-4) → Begun (start (at_2 (goal.at.After-sub-4 c).After-positives-3)) ◌-ℤ◌ ◌+ℤ◌ 2 c.sub-4.result
begun_2 c = let m = at_2 (goal.at.After-sub-4 c).After-positives-3 in difference (row (start m) 2 c.positives-3.ensures) (plus m) c.sub-4.ensures

begun_3 : (c : After-add-3) → Begun (start (at_3 (goal.at.After-add-3 c).After-positives-4)) ◌+ℤ◌ ◌+ℤ◌ 3 c.add-3.result
begun_3 c = let m = at_3 (goal.at.After-add-3 c).After-positives-4 in sum (row (start m) 3 c.positives-4.ensures) (plus m) c.add-3.ensures

lowered : (c : After-lowered) → let s = start (at_3 (goal.at.After-lowered c).After-positives-4) in Lanes c.lowered.result (λ k. at s.args.c k -ℤ pos (4 * unit)) (6 * unit)
lowered d =
    let s = start (at_3 (goal.at.After-lowered d).After-positives-4) in
    told (λ k. at s.args.c k -ℤ pos (4 * unit)) (6 * unit) d.lowered.ensures
    (λ k. omega (arith, abs_sub (at s.args.c k) (pos (4 * unit)), (s.requires.raised k).2))

pub returns : goal.returns
returns d =
    let s = start (at_3 (goal.at.returns d).After-positives-4) in
    four_are (λ r. tab 4 (new s r)) _ _ _ _
    (done s 0 _ renewed_0 (difference (begun_0 (goal.at.returns d).After-add) (c s) d.sub.ensures))
    (done s 1 _ renewed_1 (difference (begun_1 (goal.at.returns d).After-sub-2) (c s) d.sub-3.ensures))
    (done s 2 _ renewed_2 (sum (begun_2 (goal.at.returns d).After-sub-4) (c s) d.add-2.ensures))
    (done s 3 _ renewed_3 (sum (begun_3 (goal.at.returns d).After-add-3) (lowered (goal.at.returns d).After-lowered) d.add-4.ensures))

pub add-plus-requires : goal.add-plus-requires
add-plus-requires s = room (a s) (b s) tt

pub sub-minus-requires : goal.sub-minus-requires
sub-minus-requires d = room (a (goal.at.sub-minus-requires d).Start) (b (goal.at.sub-minus-requires d).Start) tt

pub positives-requires : goal.positives-requires
positives-requires d = asked (goal.at.positives-requires d).Start 0

pub add-requires : goal.add-requires
add-requires d = room (row (start (at_0 d)) 0 d.positives.ensures) (minus (at_0 d)) tt

pub sub-requires : goal.sub-requires
sub-requires d = room (begun_0 d) (c (start (at_0 (goal.at.sub-requires d).After-positives))) tt

pub positives-requires-2 : goal.positives-requires-2
positives-requires-2 d = asked (start (at_0 (goal.at.positives-requires-2 d).After-positives)) 1

pub sub-requires-2 : goal.sub-requires-2
sub-requires-2 d = room (row (start (at_1 d)) 1 d.positives-2.ensures) (minus (at_1 d)) tt

pub sub-requires-3 : goal.sub-requires-3
sub-requires-3 d = room (begun_1 d) (c (start (at_1 (goal.at.sub-requires-3 d).After-positives-2))) tt

pub positives-requires-3 : goal.positives-requires-3
positives-requires-3 d = asked (start (at_1 (goal.at.positives-requires-3 d).After-positives-2)) 2

pub sub-requires-4 : goal.sub-requires-4
sub-requires-4 d = room (row (start (at_2 d)) 2 d.positives-3.ensures) (plus (at_2 d)) tt

pub add-requires-2 : goal.add-requires-2
add-requires-2 d = room (begun_2 d) (c (start (at_2 (goal.at.add-requires-2 d).After-positives-3))) tt

pub positives-requires-4 : goal.positives-requires-4
positives-requires-4 d = asked (start (at_2 (goal.at.positives-requires-4 d).After-positives-3)) 3

pub add-requires-3 : goal.add-requires-3
add-requires-3 d = room (row (start (at_3 d)) 3 d.positives-4.ensures) (plus (at_3 d)) tt

pub lowered-requires : goal.lowered-requires
lowered-requires d k = ((start (at_3 (goal.at.lowered-requires d).After-positives-4)).requires.raised k).2

pub add-requires-4 : goal.add-requires-4
add-requires-4 d = room (begun_3 (goal.at.add-requires-4 d).After-add-3) (lowered d) tt
