-- `fours::lows` meets its contract. Assumes nothing.
use Rattle.integers.proofs.Prelude.{ℕ, ◌*◌, ◌^◌, ◌≤◌, arith, ℤ, pos, nat_abs, ◌-ℤ◌, ◌*ℤ◌, w32}
use lib.Signed.{shr_z}
use Rattle.integers.proofs.Machine.{within_raw, param}
use Rattle.model.specs.Limits.{most_row}
use Rattle.model.specs.Iteration.{at}
use Rattle.rows.proofs.Four.{small_are}
use Rattle.rows.proofs.Signs.{raw}
use Rattle.fours.proofs.Lanes.{each}
use Rattle.fours.proofs.Parts.{low_small}
use Rattle.fours.proofs.lows.Goals as goal
use Rattle.fours.proofs.lows.Goals.{Start}

asked : (s : Start) (k : ℕ) → nat_abs (raw (at s.args.a k)) ≤ 2 * most_row
asked s k = within_raw (param w32 (at s.args.a k) (2 * most_row) tt (s.requires k))

pub returns : goal.returns
returns c =
    let of : ℤ → ℤ = λ z. z -ℤ pos (2 ^ 14) *ℤ shr_z z (2 ^ 14) in
    let e = each of c.args.a (λ k. omega (arith, c.requires k)) _ _ _ _
    (c.low.type_inv, c.low.ensures.0)
    (c.low-2.type_inv, c.low-2.ensures.0)
    (c.low-3.type_inv, c.low-3.ensures.0)
    (c.low-4.type_inv, c.low-4.ensures.0) in
    (e, small_are (2 ^ 14) (λ k. of (at c.args.a k)) e (λ k _. low_small (at c.args.a k)))

pub low-requires : goal.low-requires
low-requires c = asked (goal.at.low-requires c).Start 0

pub low-requires-2 : goal.low-requires-2
low-requires-2 c = asked (goal.at.low-requires-2 c).Start 1

pub low-requires-3 : goal.low-requires-3
low-requires-3 c = asked (goal.at.low-requires-3 c).Start 2

pub low-requires-4 : goal.low-requires-4
low-requires-4 c = asked (goal.at.low-requires-4 c).Start 3
