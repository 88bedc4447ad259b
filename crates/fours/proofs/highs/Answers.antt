-- `fours::highs` meets its contract. Assumes nothing.
use Rattle.integers.proofs.Prelude.{◌^◌, arith}
use lib.Signed.{shr_z}
use Rattle.model.specs.Iteration.{at}
use Rattle.rows.proofs.Four.{small_are}
use Rattle.fours.proofs.Lanes.{each}
use Rattle.fours.proofs.Parts.{high_small}
use Rattle.fours.proofs.highs.Goals as goal

pub returns : goal.returns
returns c =
    let e = each (λ z. shr_z z (2 ^ 14)) c.args.a (λ k. omega (arith, c.requires k)) _ _ _ _
    (c.high.type_inv, c.high.ensures)
    (c.high-2.type_inv, c.high-2.ensures)
    (c.high-3.type_inv, c.high-3.ensures)
    (c.high-4.type_inv, c.high-4.ensures) in
    (e, small_are (2 ^ 14) (λ k. shr_z (at c.args.a k) (2 ^ 14)) e (λ k _. high_small (at c.args.a k) (c.requires k)))
