-- `quotient::dividend` meets its contract. Assumes nothing.
use Rattle.integers.proofs.Prelude.{◌≡◌, ap, ap₂, ◌∙◌, ℕ, ◌+◌, ◌-◌, ◌*◌, ◌^◌, ◌≤◌, arith, ℤ, pos, nat_abs, ◌+ℤ◌, ◌-ℤ◌, ◌*ℤ◌, w32, to_z, of_z}
use Rattle.integers.proofs.Linear.{to_ℕ}
use Rattle.integers.proofs.Machine.{Worth, param, local, literal, also, plus, minus, times, fits, stored}
use Rattle.quotient.specs.Narrowed.{gap_of, rest_of, dividend_of}
use Rattle.quotient.proofs.Lanes.{rest_most, w_is}
use Rattle.quotient.proofs.dividend.Goals as goal
use Rattle.quotient.proofs.dividend.Goals.{Start, After-gap, After-rest}

module _ (s : Start) where
  x_is : Worth (to_z w32 (of_z w32 s.args.x)) s.args.x (2 ^ 31 - 2 ^ 23)
  x_is = param w32 s.args.x (2 ^ 31 - 2 ^ 23) tt s.requires.0

  limit_is : Worth (to_z w32 (of_z w32 s.args.limit)) s.args.limit (64 * 8192)
  limit_is = param w32 s.args.limit (64 * 8192) tt s.requires.3

  abbrev gap : ℕ
  gap = gap_of (nat_abs s.args.limit) s.args.x

module _ (c : After-gap) where
  abbrev s : Start
  s = (goal.at.After-gap c).Start

  multiple : Worth (pos 256 *ℤ to_z w32 (of_z w32 c.gap.result)) (pos (256 * gap s)) (256 * (128 * 8192))
  multiple =
      times (literal (pos 256))
      (local w32 (128 * 8192) c.gap.type_inv (c.gap.ensures ∙ ap₂ (λ (l z : ℤ). pos (gap_of (nat_abs l) z)) (limit_is s).is (x_is s).is)
      (omega (arith, s.requires.3)))

-- within 255 a difference is that of natural numbers
joined : (a l : ℕ) → l ≤ 255 → pos a +ℤ (pos 255 -ℤ pos l) ≡ pos (a + (255 - l))
joined a l h = simp to_ℕ (omega arith)

module _ (c : After-rest) where
  abbrev t : After-gap
  t = (goal.at.After-rest c).After-gap

  abbrev w : ℤ
  w = t.before.args.w

  difference : Worth (pos 255 -ℤ to_z w32 (of_z w32 c.rest.result)) (pos 255 -ℤ pos (rest_of w)) (255 + 255)
  difference =
      minus (literal (pos 255))
      (local w32 255 c.rest.type_inv (c.rest.ensures ∙ ap (λ (z : ℤ). pos (rest_of z)) (w_is w t.before.requires.1).is) (rest_most w))

  result : Worth (to_z w32 (of_z w32 (pos 256 *ℤ to_z w32 (of_z w32 t.gap.result))) +ℤ to_z w32 (of_z w32 (pos 255 -ℤ to_z w32 (of_z w32 c.rest.result)))) (pos (dividend_of (nat_abs t.before.args.limit) t.before.args.x w)) (256 * (128 * 8192) + (255 + 255))
  result = also (plus (stored (multiple t) w32 tt) (stored difference w32 tt)) (joined (256 * gap t.before) (rest_of w) (rest_most w))

pub overflow_add-result : goal.overflow_add-result
overflow_add-result c = fits (result c) w32 tt

pub returns : goal.returns
returns c = (stored (result c) w32 tt).is
