-- `quotient::Narrow::divide` meets its contract. Assumes nothing.
use Rattle.integers.proofs.Prelude.{◌≡◌, ◌∙◌, ℕ, ◌+◌, ◌-◌, ◌*◌, ◌^◌, ◌≤◌, ◌<◌, arith, ℤ, pos, nat_abs, ◌+ℤ◌, w32, to_z, of_z}
use lib.Signed.{shr_z}
use Rattle.integers.proofs.Linear.{read_ℤ}
use Rattle.integers.proofs.Machine.{Worth, param, also, plus, stored, read_back}
use Rattle.quotient.specs.Narrowed.{dividend_of, Narrowed}
use Rattle.quotient.proofs.Lanes.{limit_most, limit_above_0, raise_small, w_is, shifted, divides}
use Rattle.quotient.proofs.Narrow.divide.Goals as goal
use Rattle.quotient.proofs.Narrow.divide.Goals.{After-dividend}

limit_is : {limit : ℤ} {inverse raise : ℕ} → Narrowed limit inverse raise → Worth (to_z w32 (of_z w32 limit)) (pos (nat_abs limit)) (64 * 8192)
limit_is {limit} p = also (param w32 limit (64 * 8192) tt (limit_most p)) (limit_above_0 p)

sum : (s w : ℤ) → nat_abs s ≤ 2 ^ 31 - 2 ^ 24 → nat_abs w < 2 ^ 31
    → Worth (to_z w32 (of_z w32 s) +ℤ to_z w32 (of_z w32 (shr_z (to_z w32 (of_z w32 w)) 256))) (s +ℤ shr_z w 256) (2 ^ 31 - 2 ^ 24 + 2 ^ 23)
sum s w h k = plus (param w32 s (2 ^ 31 - 2 ^ 24) tt h) (stored (shifted w k) w32 tt)

-- pub dividend-requires : goal.dividend-requires

n_is : (c : After-dividend) → to_z w32 (of_z w32 c.dividend.result) ≡ pos (dividend_of (nat_abs c.self.inside.limit) (c.args.s +ℤ shr_z c.args.w 256) c.args.w)
n_is c =
    let k = c.requires in
    read_back w32 c.dividend.type_inv
    (rw ((stored (sum c.args.s c.args.w k.0 k.1) w32 tt).is, (w_is c.args.w k.1).is, (limit_is c.self.invariant).is) at c.dividend.ensures)

pub scaled-requires : goal.scaled-requires
scaled-requires c = rw (n_is c) (omega (arith, read_ℤ), omega (arith, limit_most c.self.invariant), raise_small c.self.invariant)

pub returns : goal.returns
returns c =
    rw (← c.self.view_is)
    (read_back w32 c.scaled.type_inv ((rw (n_is (goal.at.returns c).After-dividend) at c.scaled.ensures) ∙ divides c.self.invariant c.args.s c.args.w))
