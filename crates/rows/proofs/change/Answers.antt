-- `rows::change` meets its contract. Assumes nothing.
use Rattle.integers.proofs.Prelude.{◌≡◌, ap, ◌∙◌, ◌*◌, arith, ℤ, nat_abs, w32}
use native.Mathlib.Nat.{mul-le-mul}
use Rattle.integers.proofs.Machine.{param, read_back}
use Rattle.model.specs.Limits.{most_row}
use Rattle.rows.proofs.Signs.{raw}
use Rattle.rows.proofs.change.Goals as goal
use Rattle.rows.proofs.change.Goals.{Start}

-- what is handed on, as it is read
module _ (s : Start) where
  side : raw s.args.side ≡ s.args.side
  side = (param w32 s.args.side 1 tt (omega (arith, s.requires.0))).is

  old : raw s.args.a ≡ s.args.a
  old = (param w32 s.args.a most_row tt s.requires.1).is

  new : raw s.args.b ≡ s.args.b
  new = (param w32 s.args.b most_row tt s.requires.2).is

pub returns : goal.returns
returns c =
    let e₀ = rw (side (goal.at.returns c).Start, new (goal.at.returns c).Start, old (goal.at.returns c).Start) at c.side_change.ensures.0 in
    let e = read_back w32 c.side_change.type_inv e₀ in
    let n = c.square.ensures ∙ ap (λ (z : ℤ). nat_abs z * nat_abs z) e in
    let l = rw e₀ at c.side_change.ensures.1 in
    (n, rw n (mul-le-mul l l))
