-- `quotient::gap` meets its contract. Assumes nothing.
use Rattle.std.specs.Int.{int_max}
use Rattle.integers.proofs.Prelude.{◌≡◌, refl, ap, ◌∙◌, Bool, cond, lt-ltb, ℕ, zero, suc, ◌+◌, ◌-◌, ◌*◌, ◌^◌, arith, ℤ, pos, negsuc, nat_abs, neg_ℤ, ◌+ℤ◌, ◌-ℤ◌, ◌*ℤ◌, w32, to_z, of_z}
use Rattle.integers.specs.Parts.{up}
use Rattle.integers.proofs.Linear.{read_ℤ, above_abs, false_lt_z, about, about_neg, about_sum}
use Rattle.integers.proofs.Machine.{Worth, param, literal, local, also, plus, minus, times, stored, read_back}
use Rattle.quotient.proofs.gap.Goals as goal
use Rattle.quotient.proofs.gap.Goals.{Start, After-max}

-- the larger of a number and 0
at_least_0 : (z : ℤ) → int_max z (pos 0) ≡ pos (up z)
at_least_0 (pos zero) = refl
at_least_0 (pos (suc n)) = ap (λ (b : Bool). cond b (pos (suc n)) (pos 0)) (lt-ltb 0 (suc n) (omega arith))
at_least_0 (negsuc n) = refl

-- and of a difference
cut : (a b : ℕ) → up (pos a -ℤ pos b) ≡ a - b
cut a b = omega (arith, about (pos a -ℤ pos b), about_sum (pos a) (neg_ℤ (pos b)), about_neg (pos b))

module _ (s : Start) where
  abbrev x : ℤ
  x = s.args.x

  abbrev m : ℕ
  m = nat_abs s.args.limit

  limit_is : Worth (to_z w32 (of_z w32 s.args.limit)) (pos m) (64 * 8192)
  limit_is =
      let l = s.args.limit in
      also (param w32 l (64 * 8192) tt s.requires.2) (above_abs l (false_lt_z l (pos 0) (omega (arith, read_ℤ, s.requires.1))))

  sum_is : Worth (to_z w32 (of_z w32 x) +ℤ to_z w32 (of_z w32 s.args.limit)) (x +ℤ pos m) (2 ^ 31 - 2 ^ 23 + 64 * 8192)
  sum_is = plus (param w32 x (2 ^ 31 - 2 ^ 23) tt s.requires.0) limit_is

module _ (c : After-max) where
  abbrev s : Start
  s = (goal.at.After-max c).Start

  above_is : Worth (to_z w32 (of_z w32 c.max.result)) (pos (up (x s +ℤ pos (m s)))) (2 ^ 31 - 2 ^ 23 + 64 * 8192)
  above_is =
      local w32 (2 ^ 31 - 2 ^ 23 + 64 * 8192) c.max.type_inv (c.max.ensures.value ∙ ap (λ (z : ℤ). int_max z (pos 0)) (stored (sum_is s) w32 tt).is ∙ at_least_0 (x s +ℤ pos (m s)))
      (omega (arith, about (x s +ℤ pos (m s)), (sum_is s).within))

  difference : Worth (to_z w32 (of_z w32 (pos 2 *ℤ to_z w32 (of_z w32 s.args.limit))) -ℤ to_z w32 (of_z w32 c.max.result)) (pos (2 * m s) -ℤ pos (up (x s +ℤ pos (m s)))) (2 * (64 * 8192) + (2 ^ 31 - 2 ^ 23 + 64 * 8192))
  difference = minus (stored (times (literal (pos 2)) (limit_is s)) w32 tt) above_is

pub returns : goal.returns
returns c =
    let d = (goal.at.returns c).After-max in
    let b = up (x (s d) +ℤ pos (m (s d))) in
    read_back w32 c.max-2.type_inv
    (c.max-2.ensures.value ∙ ap (λ (z : ℤ). int_max z (pos 0)) (stored (difference d) w32 tt).is ∙ at_least_0 (pos (2 * m (s d)) -ℤ pos b) ∙ ap pos (cut (2 * m (s d)) b))
