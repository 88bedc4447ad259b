-- `rows::row_sum` meets its contract. Assumes nothing.
use Rattle.integers.proofs.Prelude.{◌≡◌, refl, sym, ap, ◌∙◌, ℕ, ◌*◌, ◌^◌, ◌≤◌, ◌<◌, arith, ℤ, pos, nat_abs, ◌+ℤ◌, ◌-ℤ◌, ◌*ℤ◌, w32, to_z, of_z}
use lib.Signed.{mag}
use mir.Val.{hbits}
use Rattle.integers.proofs.Linear.{split, to_ℕ, abs_add, abs_mul}
use Rattle.integers.proofs.Machine.{Worth, fits, stored, local, param, literal, plus, minus, times}
use Rattle.quotient.specs.Quotient.{unit}
use Rattle.model.specs.Iteration.{sign, row_sum}
use Rattle.model.proofs.Rows.{signed_abs}
use Rattle.rows.proofs.row_sum.Goals as goal
use Rattle.rows.proofs.row_sum.Goals.{Start, After-plus, After-plus-2, After-plus-3}

abbrev raw : ℤ → ℤ
raw z = to_z w32 (of_z w32 z)

-- what a call of `plus` gave
half : (r p : ℕ) (x z : ℤ) → nat_abs x ≤ unit → pos 2 *ℤ z ≡ sign r p *ℤ raw x +ℤ raw x → pos 2 *ℤ z ≡ sign r p *ℤ x +ℤ x
half r p x z k e = e ∙ ap (λ (y : ℤ). sign r p *ℤ y +ℤ y) (param w32 x unit tt k).is

given : (r p : ℕ) (x z : ℤ) → r < 4 → p < 3 → nat_abs x ≤ unit → mag z < 2 ^ hbits w32 → pos 2 *ℤ z ≡ sign r p *ℤ raw x +ℤ raw x → Worth (raw z) z unit
given r p x z h l k f e =
    let d : 2 * nat_abs z ≡ nat_abs (sign r p *ℤ x +ℤ x) = sym (abs_mul (pos 2) z) ∙ ap nat_abs (half r p x z k e) in
    local w32 unit f refl (omega (arith, d, abs_add (sign r p *ℤ x) x, signed_abs r p x h l))

first : (c : After-plus) → Worth (raw c.plus.result) c.plus.result unit
first c = given c.args.r 0 c.args.a c.plus.result c.requires.0 (omega arith) c.requires.1 c.plus.type_inv c.plus.ensures

second : (c : After-plus-2) → Worth (raw c.plus-2.result) c.plus-2.result unit
second c = given c.args.r 1 c.args.b c.plus-2.result c.requires.0 (omega arith) c.requires.2 c.plus-2.type_inv c.plus-2.ensures

module _ (c : After-plus-3) where
  abbrev s : Start
  s = (goal.at.After-plus-3 c).Start

  abbrev u : ℤ
  u = c.plus.result

  abbrev v : ℤ
  v = c.plus-2.result

  abbrev w : ℤ
  w = c.plus-3.result

  third : Worth (raw w) w unit
  third = given s.args.r 2 s.args.c w s.requires.0 (omega arith) s.requires.3 c.plus-3.type_inv c.plus-3.ensures

  those : Worth (raw (raw u +ℤ raw v) +ℤ raw w) (u +ℤ v +ℤ w) (3 * unit)
  those = plus (stored (plus (first (goal.at.After-plus-3 c).After-plus) (second (goal.at.After-plus-3 c).After-plus-2)) w32 tt) third

  twice : Worth (pos 2 *ℤ raw (raw (raw u +ℤ raw v) +ℤ raw w)) (pos 2 *ℤ (u +ℤ v +ℤ w)) 98304
  twice = times (literal (pos 2)) (stored those w32 tt)

  two : Worth (raw s.args.a +ℤ raw s.args.b) (s.args.a +ℤ s.args.b) 32768
  two = plus (param w32 s.args.a unit tt s.requires.1) (param w32 s.args.b unit tt s.requires.2)

  three : Worth (raw (raw s.args.a +ℤ raw s.args.b) +ℤ raw s.args.c) (s.args.a +ℤ s.args.b +ℤ s.args.c) (3 * unit)
  three = plus (stored two w32 tt) (param w32 s.args.c unit tt s.requires.3)

  less : Worth (raw (pos 2 *ℤ raw (raw (raw u +ℤ raw v) +ℤ raw w)) -ℤ raw (raw (raw s.args.a +ℤ raw s.args.b) +ℤ raw s.args.c))
      (pos 2 *ℤ (u +ℤ v +ℤ w) -ℤ (s.args.a +ℤ s.args.b +ℤ s.args.c)) 147456
  less = minus (stored twice w32 tt) (stored three w32 tt)

-- twice those with plus, less all three
signed : (a b c x y z u v w : ℤ) → pos 2 *ℤ u ≡ x +ℤ a → pos 2 *ℤ v ≡ y +ℤ b → pos 2 *ℤ w ≡ z +ℤ c → pos 2 *ℤ (u +ℤ v +ℤ w) -ℤ (a +ℤ b +ℤ c) ≡ x +ℤ y +ℤ z
signed a b c x y z u v w = rw (split a, split b, split c, split x, split y, split z, split u, split v, split w) (simp to_ℕ (omega arith))

pub returns : goal.returns
unfolding row_sum
returns c =
    let r = c.args.r in
    (stored (less c) w32 tt).is
    ∙ signed c.args.a c.args.b c.args.c (sign r 0 *ℤ c.args.a) (sign r 1 *ℤ c.args.b) (sign r 2 *ℤ c.args.c) (u c) (v c) (w c)
    (half r 0 c.args.a (u c) c.requires.1 c.plus.ensures)
    (half r 1 c.args.b (v c) c.requires.2 c.plus-2.ensures)
    (half r 2 c.args.c (w c) c.requires.3 c.plus-3.ensures)

pub overflow_add-result : goal.overflow_add-result
overflow_add-result c = fits (plus (first (goal.at.overflow_add-result c).After-plus) (second c)) w32 tt

pub overflow_add-result-2 : goal.overflow_add-result-2
overflow_add-result-2 c = fits (those c) w32 tt

pub overflow_mul-result : goal.overflow_mul-result
overflow_mul-result c = fits (twice c) w32 tt

pub overflow_add-result-3 : goal.overflow_add-result-3
overflow_add-result-3 c = fits (two c) w32 tt

pub overflow_add-result-4 : goal.overflow_add-result-4
overflow_add-result-4 c = fits (three c) w32 tt

pub overflow_sub-result : goal.overflow_sub-result
overflow_sub-result c = fits (less c) w32 tt
