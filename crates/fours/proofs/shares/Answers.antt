-- `fours::shares` meets its contract. Assumes nothing.
use Rattle.integers.proofs.Prelude.{◌≡◌, ◌∙◌, List, ℕ, ◌+◌, ◌*◌, ◌^◌, ◌≤◌, ◌<◌, arith, ℤ, pos, nat_abs, ◌+ℤ◌, ◌-ℤ◌}
use Rattle.integers.proofs.Linear.{about}
use Rattle.lists.specs.Tabulated.{tab}
use Rattle.lists.proofs.Tabulated.{tab_same}
use Rattle.model.specs.Limits.{most_row}
use Rattle.model.specs.Iteration.{slack, multiplier}
use Rattle.rows.proofs.Four.{three_are}
use Rattle.layout.specs.Transposed.{cell}
use Rattle.layout.proofs.Places.{cells_small}
use Rattle.fours.proofs.Lanes.{Lanes, told, room, sum, difference}
use Rattle.fours.proofs.Rows.{signed, share_0, share_1, share_2, share_small}
use Rattle.fours.proofs.shares.Goals as goal
use Rattle.fours.proofs.shares.Goals.{Start, After-sizes-d, After-sub-inner_change}

module _ (s : Start) where
  -- the size of row r of frame k
  abbrev n : ℕ → ℕ → ℕ
  n k r = slack (cell s.args.s r k) + multiplier (cell s.args.s r k)

  small : (k r : ℕ) → n k r ≤ most_row
  small k r = omega (arith, about (cell s.args.s r k), s.requires r k)

  asked : (r k : ℕ) → nat_abs (cell s.args.s r k) < 2 ^ 31
  asked r k = omega (arith, s.requires r k)

  row : (r : ℕ) {l : List ℤ} → l ≡ tab 4 (λ k. pos (n k r)) → Lanes l (λ k. pos (n k r)) most_row
  row r e = told (λ k. pos (n k r)) most_row e (λ k. small k r)

module _ (c : After-sizes-d) where
  abbrev s : Start
  s = (goal.at.After-sizes-d c).Start

  r0 : Lanes c.sizes-a.result (λ k. pos (n s k 0)) most_row
  r0 = row s 0 c.sizes-a.ensures

  r1 : Lanes c.sizes-b.result (λ k. pos (n s k 1)) most_row
  r1 = row s 1 c.sizes-b.ensures

  r2 : Lanes c.sizes-c.result (λ k. pos (n s k 2)) most_row
  r2 = row s 2 c.sizes-c.ensures

  r3 : Lanes c.sizes-d.result (λ k. pos (n s k 3)) most_row
  r3 = row s 3 c.sizes-d.ensures

module _ (c : After-sub-inner_change) where
  abbrev rows : After-sizes-d
  rows = (goal.at.After-sub-inner_change c).After-sizes-d

  outer : Lanes c.add-outer.result (λ k. pos (n (s rows) k 3) +ℤ pos (n (s rows) k 0)) (2 * most_row)
  outer = sum (r3 rows) (r0 rows) c.add-outer.ensures

  inner : Lanes c.add-inner.result (λ k. pos (n (s rows) k 1) +ℤ pos (n (s rows) k 2)) (2 * most_row)
  inner = sum (r1 rows) (r2 rows) c.add-inner.ensures

  outer_change : Lanes c.sub-outer_change.result (λ k. pos (n (s rows) k 3) -ℤ pos (n (s rows) k 0)) (2 * most_row)
  outer_change = difference (r3 rows) (r0 rows) c.sub-outer_change.ensures

  inner_change : Lanes c.sub-inner_change.result (λ k. pos (n (s rows) k 1) -ℤ pos (n (s rows) k 2)) (2 * most_row)
  inner_change = difference (r1 rows) (r2 rows) c.sub-inner_change.ensures

pub returns : goal.returns
returns c =
    let t = s (rows (goal.at.returns c).After-sub-inner_change) in
    let of : ℕ → ℕ → ℤ = λ p k. signed (n t k) p in
    let e = three_are (λ p. tab 4 (of p)) _ _ _
    ((difference (outer (goal.at.returns c).After-sub-inner_change) (inner (goal.at.returns c).After-sub-inner_change) c.sub.ensures).is ∙ tab_same 4 _ (of 0) (λ k _. share_0 (n t k)))
    ((sum (outer_change (goal.at.returns c).After-sub-inner_change) (inner_change (goal.at.returns c).After-sub-inner_change) c.add.ensures).is ∙ tab_same 4 _ (of 1) (λ k _. share_1 (n t k)))
    ((difference (outer_change (goal.at.returns c).After-sub-inner_change) (inner_change (goal.at.returns c).After-sub-inner_change) c.sub-2.ensures).is ∙ tab_same 4 _ (of 2) (λ k _. share_2 (n t k))) in
    record { value = e; shares_bound = cells_small 3 (2 * most_row) of e (λ p k h _. share_small (n t k) most_row (small t k) p h) }

pub sizes-a-requires : goal.sizes-a-requires
sizes-a-requires c = asked (goal.at.sizes-a-requires c).Start 0

pub sizes-b-requires : goal.sizes-b-requires
sizes-b-requires c = asked (goal.at.sizes-b-requires c).Start 1

pub sizes-c-requires : goal.sizes-c-requires
sizes-c-requires c = asked (goal.at.sizes-c-requires c).Start 2

pub sizes-d-requires : goal.sizes-d-requires
sizes-d-requires c = asked (goal.at.sizes-d-requires c).Start 3

pub add-outer-requires : goal.add-outer-requires
add-outer-requires c = room (r3 c) (r0 c) tt

pub add-inner-requires : goal.add-inner-requires
add-inner-requires c = room (r1 (goal.at.add-inner-requires c).After-sizes-d) (r2 (goal.at.add-inner-requires c).After-sizes-d) tt

pub sub-outer_change-requires : goal.sub-outer_change-requires
sub-outer_change-requires c = room (r3 (goal.at.sub-outer_change-requires c).After-sizes-d) (r0 (goal.at.sub-outer_change-requires c).After-sizes-d) tt

pub sub-inner_change-requires : goal.sub-inner_change-requires
sub-inner_change-requires c = room (r1 (goal.at.sub-inner_change-requires c).After-sizes-d) (r2 (goal.at.sub-inner_change-requires c).After-sizes-d) tt

pub sub-requires : goal.sub-requires
sub-requires c = room (outer c) (inner c) tt

pub add-requires : goal.add-requires
add-requires c = room (outer_change (goal.at.add-requires c).After-sub-inner_change) (inner_change (goal.at.add-requires c).After-sub-inner_change) tt

pub sub-requires-2 : goal.sub-requires-2
sub-requires-2 c = room (outer_change (goal.at.sub-requires-2 c).After-sub-inner_change) (inner_change (goal.at.sub-requires-2 c).After-sub-inner_change) tt
