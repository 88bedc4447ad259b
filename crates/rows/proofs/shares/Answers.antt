-- `rows::shares` meets its contract. Assumes nothing.
use Rattle.integers.proofs.Prelude.{◌≡◌, sym, ap, ◌∙◌, ℕ, ◌+◌, ◌^◌, ◌≤◌, ◌<◌, arith, ℤ, pos, nat_abs, ◌+ℤ◌, ◌*ℤ◌, w32}
use lib.IntN.{+ℤ_idl}
use lib.Signed.{mag}
use mir.Val.{hbits}
use Rattle.integers.specs.Sum.{sum_ℤ}
use Rattle.integers.proofs.Linear.{about}
use Rattle.integers.proofs.Machine.{Worth, within_raw, read_back, local}
use Rattle.model.specs.Limits.{most_row}
use Rattle.model.specs.Iteration.{at, sign, slack, multiplier}
use Rattle.rows.proofs.Signs.{raw}
use Rattle.rows.proofs.shares.Goals as goal
use Rattle.rows.proofs.shares.Goals.{Start, After-size_at-d}

-- the size of row r
abbrev size : Start → ℕ → ℤ
size s r = pos (slack (at s.args.s r) + multiplier (at s.args.s r))

given : (s : Start) (r : ℕ) (z : ℤ) → mag z < 2 ^ hbits w32 → z ≡ size s r → Worth (raw z) (size s r) most_row
given s r z f e = local w32 most_row f e (omega (arith, about (at s.args.s r), s.requires r))

module _ (c : After-size_at-d) where
  abbrev s : Start
  s = (goal.at.After-size_at-d c).Start

  first : Worth (raw c.size_at-a.result) (size s 0) most_row
  first = given s 0 _ c.size_at-a.type_inv c.size_at-a.ensures

  second : Worth (raw c.size_at-b.result) (size s 1) most_row
  second = given s 1 _ c.size_at-b.type_inv c.size_at-b.ensures

  third : Worth (raw c.size_at-c.result) (size s 2) most_row
  third = given s 2 _ c.size_at-c.type_inv c.size_at-c.ensures

  fourth : Worth (raw c.size_at-d.result) (size s 3) most_row
  fourth = given s 3 _ c.size_at-d.type_inv c.size_at-d.ensures

  summed : (p : ℕ) → sign 0 p *ℤ raw c.size_at-a.result +ℤ sign 1 p *ℤ raw c.size_at-b.result
      +ℤ sign 2 p *ℤ raw c.size_at-c.result +ℤ sign 3 p *ℤ raw c.size_at-d.result ≡ sum_ℤ 4 (λ r. sign r p *ℤ size s r)
  summed p = rw (first.is, second.is, third.is, fourth.is) (ap (λ (z : ℤ). z +ℤ sign 1 p *ℤ size s 1 +ℤ sign 2 p *ℤ size s 2 +ℤ sign 3 p *ℤ size s 3) (sym (+ℤ_idl (sign 0 p *ℤ size s 0))))

asked : (c : After-size_at-d) (p : ℕ) → p < 3 → let a = c.size_at-a.result in let b = c.size_at-b.result in
    (p < 3) × (nat_abs (raw a) ≤ most_row) × (nat_abs (raw b) ≤ most_row) × (nat_abs (raw c.size_at-c.result) ≤ most_row) × (nat_abs (raw c.size_at-d.result) ≤ most_row)
asked c p h = (h, within_raw (first c), within_raw (second c), within_raw (third c), within_raw (fourth c))

pub returns : goal.returns
returns c =
    rw (
      read_back w32 c.share.type_inv (c.share.ensures ∙ summed (goal.at.returns c).After-size_at-d 0),
      read_back w32 c.share-2.type_inv (c.share-2.ensures ∙ summed (goal.at.returns c).After-size_at-d 1),
      read_back w32 c.share-3.type_inv (c.share-3.ensures ∙ summed (goal.at.returns c).After-size_at-d 2),
    )

pub size_at-a-requires : goal.size_at-a-requires
size_at-a-requires c = (omega arith, c.requires _)

pub size_at-b-requires : goal.size_at-b-requires
size_at-b-requires c = (omega arith, c.requires _)

pub size_at-c-requires : goal.size_at-c-requires
size_at-c-requires c = (omega arith, c.requires _)

pub size_at-d-requires : goal.size_at-d-requires
size_at-d-requires c = (omega arith, c.requires _)

pub share-requires : goal.share-requires
share-requires c = asked c 0 (omega arith)

pub share-requires-2 : goal.share-requires-2
share-requires-2 c = asked (goal.at.share-requires-2 c).After-size_at-d 1 (omega arith)

pub share-requires-3 : goal.share-requires-3
share-requires-3 c = asked (goal.at.share-requires-3 c).After-size_at-d 2 (omega arith)
