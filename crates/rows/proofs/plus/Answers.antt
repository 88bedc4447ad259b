-- `rows::plus` meets its contract: a sign is 1 or -1. Assumes nothing.
use Rattle.integers.proofs.Prelude.{◌≡◌, arith, ℤ, pos, negsuc, ◌+ℤ◌, ◌*ℤ◌, w32}
use Rattle.integers.proofs.Linear.{split, to_ℕ}
use Rattle.integers.proofs.Machine.{param}
use Rattle.quotient.specs.Quotient.{unit}
use Rattle.model.specs.Iteration.{sign}
use Rattle.rows.proofs.Signs.{is_minus, is_plus}
use Rattle.rows.proofs.plus.Goals as goal

minus : (x : ℤ) → pos 0 ≡ negsuc 0 *ℤ x +ℤ x
minus x = rw (split x) (simp to_ℕ (omega arith))

twice : (x : ℤ) → pos 2 *ℤ x ≡ pos 1 *ℤ x +ℤ x
twice x = rw (split x) (simp to_ℕ (omega arith))

pub returns-then-r-p-lt0 : goal.returns-then-r-p-lt0
unfolding sign
returns-then-r-p-lt0 c =
    rw (is_minus c.args.r c.args.p c.requires.0 c.requires.1 c.if-r-p-lt0.true) (minus c.args.x)

pub returns-else-r-p-lt0 : goal.returns-else-r-p-lt0
unfolding sign
returns-else-r-p-lt0 c =
    rw ((param w32 c.args.x unit tt c.requires.2).is, is_plus c.args.r c.args.p c.requires.0 c.requires.1 c.if-r-p-lt0.false) (twice c.args.x)
