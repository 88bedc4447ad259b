-- `renewal::renewed_four` meets its contract. Assumes nothing.
use Rattle.integers.proofs.Prelude.{◌≡◌, ap, ◌∙◌, List, ℕ, ◌+◌, ◌≤◌, ◌<◌, arith, ℤ, pos, nat_abs, w32, to_z, of_z}
use Rattle.integers.proofs.Machine.{param}
use Rattle.quotient.specs.Quotient.{unit}
use Rattle.lists.specs.Tabulated.{tab}
use Rattle.lists.proofs.Tabulated.{get_or_tab}
use Rattle.model.specs.Splitting.{member}
use Rattle.model.specs.Iteration.{at, value_at, sum_at, renewed}
use Rattle.rows.proofs.Four.{four_are}
use Rattle.layout.specs.Transposed.{cell}
use Rattle.renewal.proofs.renewed_four.Goals as goal
use Rattle.renewal.proofs.renewed_four.Goals.{Start}

-- the third c of triple t + k, as it is read
third : (s : Start) (k : ℕ) → k < 4 → let z = to_z w32 (of_z w32 (at s.args.c k)) in
    (z ≡ value_at s.args.values.now (member s.args.triples.now (s.args.t + k) 2)) × (nat_abs z ≤ unit)
third s k h =
    let e = (param w32 (at s.args.c k) unit tt (s.requires.thirds.1 k)).is in
    (e ∙ ap (λ (l : List ℤ). at l k) s.requires.thirds.0 ∙ get_or_tab 4 (λ k. value_at s.args.values.now (member s.args.triples.now (s.args.t + k) 2)) k (pos 0) h, rw e (s.requires.thirds.1 k))

pub returns : goal.returns
returns c =
    let t = c.args.t in
    let of : ℕ → ℕ → List ℤ = λ k u. tab 4 (λ r. renewed (cell c.args.s k r) (sum_at c.args.triples.now c.args.values.now u r)) in
    let e : t ≡ t + 0 = omega arith in
    four_are (λ k. of k (t + k)) _ _ _ _
    (c.renewed_with.ensures ∙ ap (of 0) e)
    c.renewed_with-2.ensures
    c.renewed_with-3.ensures
    c.renewed_with-4.ensures

-- of the first triple
first : (s : Start) → let z = to_z w32 (of_z w32 (at s.args.c 0)) in (z ≡ value_at s.args.values.now (member s.args.triples.now s.args.t 2)) × (nat_abs z ≤ unit)
first s = let z : s.args.t + 0 ≡ s.args.t = omega arith in rw z at (third s 0 (omega arith))

pub renewed_with-requires : goal.renewed_with-requires
renewed_with-requires c = record { in_lists = omega (arith, c.requires.in_lists); valued = c.requires.valued; rows = c.requires.fours _; third_known = first (goal.at.renewed_with-requires c).Start }

pub renewed_with-requires-2 : goal.renewed_with-requires-2
renewed_with-requires-2 c = record { in_lists = omega (arith, c.requires.in_lists); valued = c.requires.valued; rows = c.requires.fours _; third_known = third (goal.at.renewed_with-requires-2 c).Start 1 (omega arith) }

pub renewed_with-requires-3 : goal.renewed_with-requires-3
renewed_with-requires-3 c = record { in_lists = omega (arith, c.requires.in_lists); valued = c.requires.valued; rows = c.requires.fours _; third_known = third (goal.at.renewed_with-requires-3 c).Start 2 (omega arith) }

pub renewed_with-requires-4 : goal.renewed_with-requires-4
renewed_with-requires-4 c = record { in_lists = omega (arith, c.requires.in_lists); valued = c.requires.valued; rows = c.requires.fours _; third_known = third (goal.at.renewed_with-requires-4 c).Start 3 (omega arith) }
