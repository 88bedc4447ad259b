-- `rows::side_change` meets its contract: a side is 1 or −1. Assumes nothing.
use Rattle.integers.proofs.Prelude.{◌≡◌, sym, ap, ap₂, subst, ◌∙◌, true, false, ℕ, ◌+◌, ◌≤◌, arith, ltb-true, T, ℤ, pos, negsuc, nat_abs, ◌-ℤ◌, ◌*ℤ◌, lt_z, w32, to_z, of_z, to_z-of_z}
use Rattle.integers.proofs.Machine.{Worth, within_raw, fits, stored, param, read_back, also, minus}
use Rattle.integers.proofs.Linear.{◌⊖◌, split, to_ℕ, about, abs_difference}
use Rattle.model.specs.Limits.{most_row}
use Rattle.model.specs.Iteration.{multiplier, slack}
use Rattle.rows.proofs.Four.{side_multiplier, side_slack}
use Rattle.rows.proofs.Signs.{raw}
use Rattle.rows.proofs.side_change.Goals as goal
use Rattle.rows.proofs.side_change.Goals.{Start, After-positive-2, Then-side-lt0}

-- ---- the side
below : (z : ℤ) → nat_abs z ≡ 1 → lt_z z (pos 0) ≡ true → z ≡ negsuc 0
below (pos n) h e = absurd (omega (arith, ltb-true n 0 e))
below (negsuc n) h e = ap negsuc (omega arith)

above : (z : ℤ) → nat_abs z ≡ 1 → lt_z z (pos 0) ≡ false → z ≡ pos 1
above (pos n) h e = ap pos (omega arith)
above (negsuc n) h e = absurd (subst T e tt)

-- ---- z is p less s
less : (p q y z : ℕ) → (pos q -ℤ pos p) -ℤ ((q ⊖ z) -ℤ (p ⊖ y)) ≡ pos z -ℤ pos y
less p q y z = simp to_ℕ (omega arith)

slacks : (a b : ℤ) → (pos (multiplier b) -ℤ pos (multiplier a)) -ℤ (b -ℤ a) ≡ pos (slack b) -ℤ pos (slack a)
slacks a b =
    ap₂ (λ (x y : ℤ). (pos (multiplier b) -ℤ pos (multiplier a)) -ℤ (y -ℤ x)) (split a) (split b)
    ∙ less (multiplier a) (multiplier b) (slack a) (slack b)

module _ (s : Start) where
  abbrev a : ℤ
  a = s.args.a

  abbrev b : ℤ
  b = s.args.b

  side : raw s.args.side ≡ s.args.side
  side = (param w32 s.args.side 1 tt (omega (arith, s.requires.0))).is

  -- either part of a row is small
  small : (part : ℤ → ℕ) → ((z : ℤ) → part z ≤ nat_abs z) → nat_abs (pos (part b) -ℤ pos (part a)) ≤ most_row
  small part h = abs_difference (part b) (part a) most_row (omega (arith, h b, s.requires.2)) (omega (arith, h a, s.requires.1))

  -- the change of a side is that of the part it stands for
  sided : (x : ℤ) (part : ℤ → ℕ) → ((z : ℤ) → multiplier (x *ℤ z) ≡ part z) → s.args.side ≡ x
      → pos (multiplier (s.args.side *ℤ b)) -ℤ pos (multiplier (s.args.side *ℤ a)) ≡ pos (part b) -ℤ pos (part a)
  sided x part h e =
      ap (λ (z : ℤ). pos (multiplier (z *ℤ b)) -ℤ pos (multiplier (z *ℤ a))) e ∙ ap₂ (λ (m n : ℕ). pos m -ℤ pos n) (h b) (h a)

  rows : Worth (raw b -ℤ raw a) (b -ℤ a) (most_row + most_row)
  rows = minus (param w32 b most_row tt s.requires.2) (param w32 a most_row tt s.requires.1)

multipliers : (c : After-positive-2) → Worth (to_z w32 (of_z w32 c.positive.result) -ℤ to_z w32 (of_z w32 c.positive-2.result))
    (pos (multiplier (b (goal.at.After-positive-2 c).Start)) -ℤ pos (multiplier (a (goal.at.After-positive-2 c).Start))) most_row
multipliers c =
    let read : ℤ → ℤ = λ z. pos (multiplier z) in
    let y = read_back w32 c.positive.type_inv (c.positive.ensures ∙ ap read (to_z-of_z c.ranges.b)) in
    let x = read_back w32 c.positive-2.type_inv (c.positive-2.ensures ∙ ap read (to_z-of_z c.ranges.a)) in
    record { is = ap₂ (λ (y x : ℤ). y -ℤ x) y x; within = small (goal.at.After-positive-2 c).Start multiplier (λ z. omega (arith, about z)) }

abbrev start : Then-side-lt0 → Start
start c = (goal.at.Then-side-lt0 c).Start

of_slacks : (c : Then-side-lt0) → Worth (to_z w32 (of_z w32 (to_z w32 (of_z w32 c.positive.result) -ℤ to_z w32 (of_z w32 c.positive-2.result))) -ℤ to_z w32 (of_z w32 (raw (b (start c)) -ℤ raw (a (start c)))))
    (pos (slack (b (start c))) -ℤ pos (slack (a (start c)))) (most_row + (most_row + most_row))
of_slacks c = also (minus (stored (multipliers (goal.at.Then-side-lt0 c).After-positive-2) w32 tt) (stored (rows (start c)) w32 tt)) (slacks (a (start c)) (b (start c)))

pub returns-then-side-lt0 : goal.returns-then-side-lt0
returns-then-side-lt0 c =
    let s = start c in
    let e = below s.args.side s.requires.0 (ap (λ (z : ℤ). lt_z z (pos 0)) (sym (side s)) ∙ c.if-side-lt0.true) in
    let is = (stored (of_slacks c) w32 tt).is in
    (is ∙ sym (sided s (negsuc 0) slack side_slack e), rw is (small s slack (λ z. omega (arith, about z))))

pub returns-else-side-lt0 : goal.returns-else-side-lt0
returns-else-side-lt0 c =
    let e = above c.args.side c.requires.0 (ap (λ (z : ℤ). lt_z z (pos 0)) (sym (side (goal.at.returns-else-side-lt0 c).Start)) ∙ c.if-side-lt0.false) in
    let m = stored (multipliers (goal.at.returns-else-side-lt0 c).After-positive-2) w32 tt in
    (m.is ∙ sym (sided (goal.at.returns-else-side-lt0 c).Start (pos 1) multiplier side_multiplier e), within_raw m)

pub overflow_sub-change : goal.overflow_sub-change
overflow_sub-change c = fits (multipliers c) w32 tt

pub overflow_sub-result : goal.overflow_sub-result
overflow_sub-result c = fits (rows (start c)) w32 tt

pub overflow_sub-result-then-side-lt0 : goal.overflow_sub-result-then-side-lt0
overflow_sub-result-then-side-lt0 c = fits (of_slacks c) w32 tt
