-- `quotient::Narrow::divide_alone` meets its contract. Assumes nothing.
use Rattle.integers.proofs.Prelude.{◌≡◌, ◌∙◌, ◌-◌, ◌*◌, ◌^◌, arith, pos, nat_abs, w32, to_z, of_z}
use Rattle.integers.proofs.Linear.{read_ℤ}
use Rattle.integers.proofs.Machine.{param, also, read_back}
use Rattle.quotient.specs.Narrowed.{gap_of}
use Rattle.quotient.proofs.Lanes.{limit_most, limit_above_0, raise_small, divides_alone}
use Rattle.quotient.proofs.Narrow.divide_alone.Goals as goal
use Rattle.quotient.proofs.Narrow.divide_alone.Goals.{After-gap}

gap_is : (c : After-gap) → to_z w32 (of_z w32 c.gap.result) ≡ pos (gap_of (nat_abs c.self.inside.limit) c.args.s)
gap_is c =
    let p = c.self.invariant in
    let s = param w32 c.args.s (2 ^ 31 - 2 ^ 24) tt c.requires in
    let l = also (param w32 c.self.inside.limit (64 * 8192) tt (limit_most p)) (limit_above_0 p) in
    read_back w32 c.gap.type_inv (rw (s.is, l.is) at c.gap.ensures)

pub scaled_alone-requires : goal.scaled_alone-requires
scaled_alone-requires c = rw (gap_is c) (omega (arith, read_ℤ), omega (arith, limit_most c.self.invariant), raise_small c.self.invariant)

pub returns : goal.returns
returns c =
    rw (← c.self.view_is)
    (read_back w32 c.scaled_alone.type_inv ((rw (gap_is (goal.at.returns c).After-gap) at c.scaled_alone.ensures) ∙ divides_alone c.self.invariant c.args.s))
