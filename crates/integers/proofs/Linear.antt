-- An integer is a difference of two natural numbers; so a statement about integers becomes one about natural numbers, which omega proves.
-- Assumes nothing.
use Rattle.integers.proofs.Prelude.{◌≡◌, refl, sym, ap, subst, Bool, true, false, not, cond, ℕ, zero, suc, ◌+◌, ◌-◌, ◌*◌, ◌≤◌, ◌<◌, min, arith, lt-ltb}
use Rattle.integers.proofs.Prelude.{le-ltb, T, ltb, ℤ, pos, negsuc, nat_abs, neg_ℤ, ◌+ℤ◌, ◌-ℤ◌, ◌*ℤ◌, lt_z, ◌≤ℤ◌, ◌<ℤ◌}
use mathlib.Core.Logic.{◌↔◌}
use lib.Dec.{ltb→lt, nltb→le, lt→ltb, leb→le, le→leb}
use lib.IntN.{sub_ℕ, +ℤ_assoc, +ℤ_comm, *ℤ_comm, neg_ℤ-+ℤ, neg_ℤ-neg_ℤ}
use lib.Signed.{mag, lt_z_no}
use Rattle.integers.specs.Parts.{up, dn}

-- a − b, shut, so that `simp` meets it as it is written
infixl 60 ◌⊖◌
pub ◌⊖◌ : ℕ → ℕ → ℤ
a ⊖ b = sub_ℕ a b

-- z is a − b
abbrev Diff : ℕ → ℕ → ℤ → Type 0
Diff a b (pos n) = a ≡ n + b
Diff a b (negsuc n) = b ≡ a + suc n

-- ---- one integer is a − b, and a − b is what counts
diff : (a b : ℕ) → Diff a b (a ⊖ b)
unfolding ◌⊖◌
diff a b = by (ltb a b) (ltb→lt a b) (nltb→le a b)
  where
    by : (t : Bool) → (T t → a < b) → (T (not t) → b ≤ a) → Diff a b (cond t (negsuc (b - suc a)) (pos (a - b)))
    by true f g = let h : a < b = f tt in omega arith
    by false f g = let h : b ≤ a = g tt in omega arith

only : (a b : ℕ) (z w : ℤ) → Diff a b z → Diff a b w → z ≡ w
only a b (pos n) (pos m) p q = ap pos (omega arith)
only a b (pos n) (negsuc m) p q = absurd (omega arith)
only a b (negsuc n) (pos m) p q = absurd (omega arith)
only a b (negsuc n) (negsuc m) p q = ap negsuc (omega arith)

moved : (a b c d : ℕ) (z : ℤ) → a + d ≡ c + b → Diff a b z → Diff c d z
moved a b c d (pos n) e p = omega arith
moved a b c d (negsuc n) e p = omega arith

crossed : (a b c d : ℕ) (z : ℤ) → Diff a b z → Diff c d z → a + d ≡ c + b
crossed a b c d (pos n) p q = omega arith
crossed a b c d (negsuc n) p q = omega arith

parts : (z : ℤ) → Diff (up z) (dn z) z
parts (pos n) = omega arith
parts (negsuc n) = omega arith

-- z is the difference of its parts
pub split : (z : ℤ) → z ≡ up z ⊖ dn z
split z = only (up z) (dn z) z _ (parts z) (diff (up z) (dn z))

-- ---- the operations
diff_add : (a b c d : ℕ) (z w : ℤ) → Diff a b z → Diff c d w → Diff (a + c) (b + d) (z +ℤ w)
unfolding ◌⊖◌
diff_add a b c d (pos n) (pos m) p q = omega arith
diff_add a b c d (pos n) (negsuc m) p q = moved n (suc m) (a + c) (b + d) (n ⊖ suc m) (omega arith) (diff n (suc m))
diff_add a b c d (negsuc n) (pos m) p q = moved m (suc n) (a + c) (b + d) (m ⊖ suc n) (omega arith) (diff m (suc n))
diff_add a b c d (negsuc n) (negsuc m) p q = omega arith

diff_neg : (a b : ℕ) (z : ℤ) → Diff a b z → Diff b a (neg_ℤ z)
diff_neg a b (pos zero) p = omega arith
diff_neg a b (pos (suc n)) p = omega arith
diff_neg a b (negsuc n) p = omega arith

diff_mul : (a b c d : ℕ) (z w : ℤ) → Diff a b z → Diff c d w → Diff (a * c + b * d) (a * d + b * c) (z *ℤ w)
diff_mul a b c d (pos n) (pos m) p q = rw (p, q) (omega arith)
diff_mul a b c d (pos n) (negsuc m) p q = diff_neg (a * d + b * c) (a * c + b * d) (pos (n * suc m)) (rw (p, q) (omega arith))
diff_mul a b c d (negsuc n) (pos m) p q = diff_neg (a * d + b * c) (a * c + b * d) (pos (suc n * m)) (rw (p, q) (omega arith))
diff_mul a b c d (negsuc n) (negsuc m) p q = rw (p, q) (omega arith)

pub ⊖_add : (a b c d : ℕ) → (a ⊖ b) +ℤ (c ⊖ d) ≡ (a + c) ⊖ (b + d)
⊖_add a b c d = only (a + c) (b + d) _ _ (diff_add a b c d (a ⊖ b) (c ⊖ d) (diff a b) (diff c d)) (diff (a + c) (b + d))

pub ⊖_neg : (a b : ℕ) → neg_ℤ (a ⊖ b) ≡ b ⊖ a
⊖_neg a b = only b a _ _ (diff_neg a b (a ⊖ b) (diff a b)) (diff b a)

pub ⊖_mul : (a b c d : ℕ) → (a ⊖ b) *ℤ (c ⊖ d) ≡ (a * c + b * d) ⊖ (a * d + b * c)
⊖_mul a b c d = only (a * c + b * d) (a * d + b * c) _ _ (diff_mul a b c d (a ⊖ b) (c ⊖ d) (diff a b) (diff c d)) (diff (a * c + b * d) (a * d + b * c))

pub pos_⊖ : (n : ℕ) → pos n ≡ n ⊖ 0
pos_⊖ n = only n 0 _ _ (omega arith) (diff n 0)

pub negsuc_⊖ : (n : ℕ) → negsuc n ≡ 0 ⊖ suc n
negsuc_⊖ n = only 0 (suc n) _ _ (omega arith) (diff 0 (suc n))

-- (`simp` does not see the `pos n` in `neg_ℤ (pos n)`, which is stuck on n)
pub neg_pos_⊖ : (n : ℕ) → neg_ℤ (pos n) ≡ 0 ⊖ n
neg_pos_⊖ n = only 0 n _ _ (diff_neg n 0 (pos n) (omega arith)) (diff 0 n)

-- ---- equality, the orders and the magnitudes
diff_≤ : (a b c d : ℕ) (z w : ℤ) → Diff a b z → Diff c d w → (z ≤ℤ w) ↔ (a + d ≤ c + b)
diff_≤ a b c d (pos n) (pos m) p q = (λ h. omega (arith, leb→le n m h.le), λ h. record { le = le→leb n m (omega arith) })
diff_≤ a b c d (pos n) (negsuc m) p q = (λ h. absurd h.le, λ h. absurd (omega arith))
diff_≤ a b c d (negsuc n) (pos m) p q = (λ h. omega arith, λ h. record { le = tt })
diff_≤ a b c d (negsuc n) (negsuc m) p q = (λ h. omega (arith, leb→le m n h.le), λ h. record { le = le→leb m n (omega arith) })

diff_< : (a b c d : ℕ) (z w : ℤ) → Diff a b z → Diff c d w → (z <ℤ w) ↔ (a + d < c + b)
diff_< a b c d (pos n) (pos m) p q = (λ h. omega (arith, ltb→lt n m h.lt), λ h. record { lt = lt→ltb n m (omega arith) })
diff_< a b c d (pos n) (negsuc m) p q = (λ h. absurd h.lt, λ h. absurd (omega arith))
diff_< a b c d (negsuc n) (pos m) p q = (λ h. omega arith, λ h. record { lt = tt })
diff_< a b c d (negsuc n) (negsuc m) p q = (λ h. omega (arith, ltb→lt m n h.lt), λ h. record { lt = lt→ltb m n (omega arith) })

diff_≡ : (a b c d : ℕ) (z w : ℤ) → Diff a b z → Diff c d w → (z ≡ w) ↔ (a + d ≡ c + b)
diff_≡ a b c d z w p q = (λ e. crossed a b c d z p (subst (Diff c d) (sym e) q), λ e. only c d z w (moved a b c d z e p) q)

-- the natural numbers below the magnitude: `nat_abs` for bounds, `mag` for what a width holds
diff_abs : (a b : ℕ) (z : ℤ) → Diff a b z → nat_abs z ≡ (a - b) + (b - a)
diff_abs a b (pos n) p = omega arith
diff_abs a b (negsuc n) p = omega arith

diff_mag : (a b n : ℕ) (z : ℤ) → Diff a b z → (mag z < n) ↔ ((a < n + b) × (b ≤ n + a))
diff_mag a b n (pos m) p = (λ h. omega arith, λ h. omega arith)
diff_mag a b n (negsuc m) p = (λ h. omega arith, λ h. omega arith)

pub ⊖-≡ : (a b c d : ℕ) → (a ⊖ b ≡ c ⊖ d) ↔ (a + d ≡ c + b)
⊖-≡ a b c d = diff_≡ a b c d _ _ (diff a b) (diff c d)

pub ⊖-≤ : (a b c d : ℕ) → ((a ⊖ b) ≤ℤ (c ⊖ d)) ↔ (a + d ≤ c + b)
⊖-≤ a b c d = diff_≤ a b c d _ _ (diff a b) (diff c d)

pub ⊖-< : (a b c d : ℕ) → ((a ⊖ b) <ℤ (c ⊖ d)) ↔ (a + d < c + b)
⊖-< a b c d = diff_< a b c d _ _ (diff a b) (diff c d)

pub ⊖_abs : (a b : ℕ) → nat_abs (a ⊖ b) ≡ (a - b) + (b - a)
⊖_abs a b = diff_abs a b (a ⊖ b) (diff a b)

-- these two spare omega the cases of `⊖_abs`
pub ⊖_abs≤ : (a b n : ℕ) → (nat_abs (a ⊖ b) ≤ n) ↔ ((a ≤ n + b) × (b ≤ n + a))
⊖_abs≤ a b n = (λ h. omega (arith, ⊖_abs a b), λ h. omega (arith, ⊖_abs a b))

pub ⊖_abs< : (a b n : ℕ) → (nat_abs (a ⊖ b) < n) ↔ ((a < n + b) × (b < n + a))
⊖_abs< a b n = (λ h. omega (arith, ⊖_abs a b), λ h. omega (arith, ⊖_abs a b))

pub ⊖_mag : (a b n : ℕ) → (mag (a ⊖ b) < n) ↔ ((a < n + b) × (b ≤ n + a))
⊖_mag a b n = diff_mag a b n (a ⊖ b) (diff a b)

-- a statement about differences, as one about natural numbers
pub ruleset to_ℕ = (⊖_add, ⊖_neg, ⊖_mul, pos_⊖, negsuc_⊖, neg_pos_⊖, ⊖-≡, ⊖-≤, ⊖-<, ⊖_abs≤, ⊖_abs<, ⊖_mag)

-- ---- for omega's list: orders and equations of integers, and tests of the code, read off hypotheses and made for goals
pub read_≤ : (a b : ℤ) → a ≤ℤ b → up a + dn b ≤ up b + dn a
read_≤ a b = (diff_≤ (up a) (dn a) (up b) (dn b) a b (parts a) (parts b)).0

pub make_≤ : (a b : ℤ) → up a + dn b ≤ up b + dn a → a ≤ℤ b
make_≤ a b = (diff_≤ (up a) (dn a) (up b) (dn b) a b (parts a) (parts b)).1

pub read_< : (a b : ℤ) → a <ℤ b → up a + dn b < up b + dn a
read_< a b = (diff_< (up a) (dn a) (up b) (dn b) a b (parts a) (parts b)).0

pub make_< : (a b : ℤ) → up a + dn b < up b + dn a → a <ℤ b
make_< a b = (diff_< (up a) (dn a) (up b) (dn b) a b (parts a) (parts b)).1

pub read_≡ : (a b : ℤ) → a ≡ b → up a + dn b ≡ up b + dn a
read_≡ a b = (diff_≡ (up a) (dn a) (up b) (dn b) a b (parts a) (parts b)).0

pub make_≡ : (a b : ℤ) → up a + dn b ≡ up b + dn a → a ≡ b
make_≡ a b = (diff_≡ (up a) (dn a) (up b) (dn b) a b (parts a) (parts b)).1

pub lt_z_true : (a b : ℤ) → lt_z a b ≡ true → up a + dn b < up b + dn a
lt_z_true a b e = read_< a b (record { lt = subst T (sym e) tt })

pub lt_z_false : (a b : ℤ) → lt_z a b ≡ false → up b + dn a ≤ up a + dn b
lt_z_false a b e = read_≤ b a (lt_z_no (subst (λ (t : Bool). T (not t)) (sym e) tt))

pub true_lt_z : (a b : ℤ) → up a + dn b < up b + dn a → lt_z a b ≡ true
true_lt_z (pos n) (pos m) h = lt-ltb n m (omega arith)
true_lt_z (pos n) (negsuc m) h = absurd (omega arith)
true_lt_z (negsuc n) (pos m) h = refl
true_lt_z (negsuc n) (negsuc m) h = lt-ltb m n (omega arith)

pub false_lt_z : (a b : ℤ) → up b + dn a ≤ up a + dn b → lt_z a b ≡ false
false_lt_z (pos n) (pos m) h = le-ltb n m (omega arith)
false_lt_z (pos n) (negsuc m) h = refl
false_lt_z (negsuc n) (pos m) h = absurd (omega arith)
false_lt_z (negsuc n) (negsuc m) h = le-ltb m n (omega arith)

pub ruleset read_ℤ = (read_≤, read_<, read_≡, make_≤, make_<, make_≡, lt_z_true, lt_z_false, true_lt_z, false_lt_z)

-- all that is known of the parts of one integer, of its negative, and of a sum
pub about : (a : ℤ) → (nat_abs a ≡ up a + dn a) × (mag a ≡ up a + (dn a - 1)) × (min (up a) (dn a) ≡ 0)
about (pos n) = omega arith
about (negsuc n) = omega arith

pub about_neg : (a : ℤ) → (up (neg_ℤ a) ≡ dn a) × (dn (neg_ℤ a) ≡ up a)
about_neg (pos zero) = (refl, refl)
about_neg (pos (suc n)) = (refl, refl)
about_neg (negsuc n) = (refl, refl)

pub about_sum : (a b : ℤ) → up (a +ℤ b) + (dn a + dn b) ≡ (up a + up b) + dn (a +ℤ b)
about_sum a b = crossed (up (a +ℤ b)) (dn (a +ℤ b)) (up a + up b) (dn a + dn b) (a +ℤ b) (parts (a +ℤ b)) (diff_add (up a) (dn a) (up b) (dn b) a b (parts a) (parts b))

-- ---- magnitudes
pub abs_neg : (a : ℤ) → nat_abs (neg_ℤ a) ≡ nat_abs a
abs_neg a = omega (arith, about a, about (neg_ℤ a), about_neg a)

-- what a test of the sign shows
pub below_abs : (a : ℤ) → lt_z a (pos 0) ≡ true → neg_ℤ a ≡ pos (nat_abs a)
below_abs (pos n) e = absurd (omega (arith, lt_z_true (pos n) (pos 0) e))
below_abs (negsuc n) e = refl

pub above_abs : (a : ℤ) → lt_z a (pos 0) ≡ false → a ≡ pos (nat_abs a)
above_abs (pos n) e = refl
above_abs (negsuc n) e = absurd (omega (arith, lt_z_false (negsuc n) (pos 0) e))

-- a number above 0
pub positive : (a : ℤ) → pos 0 <ℤ a → (0 < nat_abs a) × (a ≡ pos (nat_abs a))
positive a h = (omega (arith, read_ℤ, about a), above_abs a (false_lt_z a (pos 0) (omega (arith, read_ℤ))))

pub abs_mul : (a b : ℤ) → nat_abs (a *ℤ b) ≡ nat_abs a * nat_abs b
abs_mul (pos n) (pos m) = refl
abs_mul (pos n) (negsuc m) = abs_neg (pos (n * suc m))
abs_mul (negsuc n) (pos m) = abs_neg (pos (suc n * m))
abs_mul (negsuc n) (negsuc m) = refl

pub abs_add : (a b : ℤ) → nat_abs (a +ℤ b) ≤ nat_abs a + nat_abs b
abs_add a b = omega (arith, about a, about b, about_sum a b, about (a +ℤ b))

pub abs_sub : (a b : ℤ) → nat_abs (a -ℤ b) ≤ nat_abs a + nat_abs b
abs_sub a b = omega (arith, abs_add a (neg_ℤ b), abs_neg b)

-- of a difference of natural numbers
pub abs_difference : (a b n : ℕ) → a ≤ n + b → b ≤ n + a → nat_abs (pos a -ℤ pos b) ≤ n
abs_difference a b n h k = simp to_ℕ (omega arith)

-- ---- the ring. `ring` multiplies out and sorts, `linear` then takes each product for an unknown
-- (a numeral is a part of its product: write x +ℤ x for pos 2 *ℤ x)
pub *ℤ_assoc : (a b c : ℤ) → (a *ℤ b) *ℤ c ≡ a *ℤ (b *ℤ c)
*ℤ_assoc a b c = rw (split a, split b, split c) (simp to_ℕ (omega arith))

pub *ℤ_add : (a b c : ℤ) → a *ℤ (b +ℤ c) ≡ a *ℤ b +ℤ a *ℤ c
*ℤ_add a b c = rw (split a, split b, split c) (simp to_ℕ (omega arith))

pub add_*ℤ : (a b c : ℤ) → (a +ℤ b) *ℤ c ≡ a *ℤ c +ℤ b *ℤ c
add_*ℤ a b c = rw (split a, split b, split c) (simp to_ℕ (omega arith))

pub neg_*ℤ : (a b : ℤ) → neg_ℤ a *ℤ b ≡ neg_ℤ (a *ℤ b)
neg_*ℤ a b = rw (split a, split b) (simp to_ℕ (omega arith))

pub *ℤ_neg : (a b : ℤ) → a *ℤ neg_ℤ b ≡ neg_ℤ (a *ℤ b)
*ℤ_neg a b = rw (split a, split b) (simp to_ℕ (omega arith))

pub *ℤ_left_comm : (a b c : ℤ) → a *ℤ (b *ℤ c) ≡ b *ℤ (a *ℤ c)
*ℤ_left_comm a b c = rw (split a, split b, split c) (simp to_ℕ (omega arith))

pub +ℤ_left_comm : (a b c : ℤ) → a +ℤ (b +ℤ c) ≡ b +ℤ (a +ℤ c)
+ℤ_left_comm a b c = rw (split a, split b, split c) (simp to_ℕ (omega arith))

-- a product that `linear` has taken for an unknown
infixl 7 ◌⊗◌
pub ◌⊗◌ : ℤ → ℤ → ℤ
a ⊗ b = a *ℤ b

pub product : (a b : ℤ) → a *ℤ b ≡ up (a ⊗ b) ⊖ dn (a ⊗ b)
unfolding ◌⊗◌
product a b = split (a *ℤ b)

pub ruleset ring = (+ℤ_assoc, +ℤ_comm, +ℤ_left_comm, *ℤ_assoc, *ℤ_comm, *ℤ_left_comm, *ℤ_add, add_*ℤ, neg_*ℤ, *ℤ_neg, neg_ℤ-+ℤ, neg_ℤ-neg_ℤ)

pub ruleset linear = (product, ⊖_add, ⊖_neg, pos_⊖, negsuc_⊖, neg_pos_⊖, ⊖-≡, ⊖-≤, ⊖-<)
