-- `rows::signed` meets its contract: a sign is 1 or -1. Assumes nothing.
use Rattle.integers.proofs.Prelude.{◌≡◌, ◌∙◌, arith, ℤ, pos, negsuc, neg_ℤ, ◌-ℤ◌, ◌*ℤ◌, w32}
use Rattle.integers.proofs.Linear.{split, to_ℕ}
use Rattle.integers.proofs.Machine.{Worth, fits, stored, param, negative}
use Rattle.model.specs.Limits.{most_row}
use Rattle.model.specs.Iteration.{sign}
use Rattle.rows.proofs.Signs.{raw, is_minus, is_plus}
use Rattle.rows.proofs.signed.Goals as goal
use Rattle.rows.proofs.signed.Goals.{Start}

x : (s : Start) → Worth (raw s.args.x) s.args.x most_row
x s = param w32 s.args.x most_row tt s.requires.2

negated : (s : Start) → Worth (pos 0 -ℤ raw s.args.x) (neg_ℤ s.args.x) most_row
negated s = negative (x s)

minus : (x : ℤ) → neg_ℤ x ≡ negsuc 0 *ℤ x
minus x = rw (split x) (simp to_ℕ (omega arith))

plus : (x : ℤ) → x ≡ pos 1 *ℤ x
plus x = rw (split x) (simp to_ℕ (omega arith))

pub returns-then-r-p-lt0 : goal.returns-then-r-p-lt0
unfolding sign
returns-then-r-p-lt0 c =
    rw (is_minus c.args.r c.args.p c.requires.0 c.requires.1 c.if-r-p-lt0.true) ((stored (negated (goal.at.returns-then-r-p-lt0 c).Start) w32 tt).is ∙ minus c.args.x)

pub returns-else-r-p-lt0 : goal.returns-else-r-p-lt0
unfolding sign
returns-else-r-p-lt0 c =
    rw (is_plus c.args.r c.args.p c.requires.0 c.requires.1 c.if-r-p-lt0.false) ((x (goal.at.returns-else-r-p-lt0 c).Start).is ∙ plus c.args.x)

pub overflow_sub-result : goal.overflow_sub-result
overflow_sub-result c = fits (negated (goal.at.overflow_sub-result c).Start) w32 tt
