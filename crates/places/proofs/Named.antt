-- How often numbers name a place of a window. Assumes nothing.
use Rattle.integers.proofs.Prelude.{◌≡◌, refl, sym, ap, ◌∙◌, Bool, true, false, ◌&&◌, List, [], ◌∷◌, ◌++◌, ℕ, zero, suc, ◌+◌, ◌-◌, ◌*◌, ◌/◌, ◌%◌, ◌≤◌, ◌<◌}
use Rattle.integers.proofs.Prelude.{arith, dec_lt, eqb, eqb-true, eq-eqb, ne_eqb, length, get_or, take, drop, length-take-le, take-append-drop, take-suc}
use Rattle.integers.proofs.Prelude.{take-take}
use mathlib.Core.Logic.{◌≢◌}
use native.Mathlib.Nat.{add-zero, mul-le-mul_right, div-add-mod', mod-lt, div-lt_iff_lt-mul}
use lib.Arith.{digits_div, digits_mod}
use lib.Seq.{take-nil, drop-nil}
use Rattle.model.specs.Causes.{◌if◌}
use Rattle.model.specs.Alist.{times}
use Rattle.places.specs.declared.Window.{Window}
use Rattle.places.specs.Counters.{list_at, times_in}

-- ---- how often x is in the a-th list
module _ (most a x : ℕ) where
  pub named_append : (q : ℕ) (l k : List ℕ) → times_in most a x q (l ++ k) ≡ times_in most a x q l + times_in most a x (q + length l) k
  named_append q [] k = ap (λ (n : ℕ). times_in most a x n k) (sym (add-zero q)) ∙ omega arith
  named_append q (v ∷ l) k =
      let e : suc q + length l ≡ q + suc (length l) = omega arith in
      omega (arith, named_append (suc q) l k, ap (λ (n : ℕ). times_in most a x n k) e)

  -- one number more
  pub named_next : (q : ℕ) (l : List ℕ) (k : ℕ) → k < length l
      → times_in most a x q (take (suc k) l) ≡ times_in most a x q (take k l) + 1 if (eqb ((q + k) / most) a && eqb x (get_or l k 0))
  named_next q l k h =
      ap (times_in most a x q) (take-suc l k 0 h) ∙ named_append q (take k l) (get_or l k 0 ∷ [])
      ∙ ap (λ (n : ℕ). times_in most a x q (take k l) + times_in most a x (q + n) (get_or l k 0 ∷ [])) (length-take-le k l (omega arith)) ∙ omega arith

  -- a part names nothing more often
  pub named_part : (q k : ℕ) (l : List ℕ) → times_in most a x q (take k l) ≤ times_in most a x q l
  named_part q k l = omega (arith, named_append q (take k l) (drop k l), ap (times_in most a x q) (take-append-drop k l))

  one_most : (t : Bool) → 1 if t ≤ 1
  one_most true = omega arith
  one_most false = omega arith

  -- nothing before the list begins, and then at most once for each number
  pub named_most : (q : ℕ) (l : List ℕ) → times_in most a x q l + (q - a * most) ≤ q + length l - a * most
  named_most q [] = omega arith
  named_most q (v ∷ l) = by (eqb (q / most) a) refl (named_most (suc q) l)
    where
      by : (t : Bool) → eqb (q / most) a ≡ t → times_in most a x (suc q) l + (suc q - a * most) ≤ suc q + length l - a * most
          → 1 if (t && eqb x v) + times_in most a x (suc q) l + (q - a * most) ≤ q + suc (length l) - a * most
      by true e h =
          let low : a * most ≤ q = omega (arith, ap (λ (n : ℕ). n * most) (eqb-true (q / most) a e), div-add-mod' q most) in
          omega (arith, one_most (eqb x v))
      by false e h = omega arith

  -- exactly as often as its part of the numbers has it
  named_exact : 1 ≤ most → (q : ℕ) (l : List ℕ) → times_in most a x q l ≡ times x (drop (a * most - q) (take (a * most + most - q) l))
  named_exact h q [] = sym (ap (times x) (ap (drop (a * most - q)) (take-nil (a * most + most - q)) ∙ drop-nil (a * most - q)))
  named_exact h q (v ∷ l) = by (dec_lt q (a * most)) (dec_lt q (a * most + most)) (named_exact h (suc q) l)
    where
      other : q / most ≢ a → times_in most a x q (v ∷ l) ≡ times_in most a x (suc q) l
      other n = rw (ne_eqb (q / most) a n) (omega arith)

      by : Dec (q < a * most) → Dec (q < a * most + most) → times_in most a x (suc q) l ≡ times x (drop (a * most - suc q) (take (a * most + most - suc q) l))
          → times_in most a x q (v ∷ l) ≡ times x (drop (a * most - q) (take (a * most + most - q) (v ∷ l)))
      by (yes k) d ih =
          let e : a * most - q ≡ suc (a * most - suc q) = omega arith in
          let f : a * most + most - q ≡ suc (a * most + most - suc q) = omega arith in
          rw (e, f) (other (λ p. omega (arith, (div-lt_iff_lt-mul {x = q} {y = a} h).1 k)) ∙ ih)
      by (no k) (yes j) ih =
          let e : a * most - q ≡ 0 = omega arith in
          let g : a * most - suc q ≡ 0 = omega arith in
          let f : a * most + most - q ≡ suc (a * most + most - suc q) = omega arith in
          let here : q / most ≡ a = ap (λ (n : ℕ). n / most) (omega arith) ∙ digits_div a {m = most} {r = q - a * most} (omega arith) in
          rw (e, f, eq-eqb (q / most) a here) (ap (λ (n : ℕ). 1 if eqb x v + n) (ih ∙ rw g))
      by (no k) (no j) ih =
          let f : a * most + most - q ≡ 0 = omega arith in
          let g : a * most + most - suc q ≡ 0 = omega arith in
          let past : q / most ≢ a = λ p. omega (arith, ap (λ (n : ℕ). n * most) p, div-add-mod' q most, mod-lt q h) in
          rw (f, drop-nil {A = ℕ} (a * most - q)) (other past ∙ ih ∙ rw (g, drop-nil {A = ℕ} (a * most - suc q)))

-- so among all numbers of n lists
drop_take : (b m : ℕ) (l : List ℕ) → drop b (take (b + m) l) ≡ take m (drop b l)
drop_take zero m l = let e : zero + m ≡ m = omega arith in rw e
drop_take (suc b) m [] = ap (drop (suc b)) (take-nil (suc b + m)) ∙ sym (take-nil m)
drop_take (suc b) m (x ∷ l) = let e : suc b + m ≡ suc (b + m) = omega arith in rw e (drop_take b m l)

pub named_list : (most n a x : ℕ) (l : List ℕ) → a < n → times_in most a x 0 (take (n * most) l) ≡ times x (list_at most l a)
named_list zero n a x l h = let e : n * 0 ≡ 0 = omega arith in rw e
named_list (suc m) n a x l h =
    let most = suc m in
    let fits : a * most + most ≤ n * most = omega (arith, mul-le-mul_right most h) in
    let e : a * most - 0 ≡ a * most = omega arith in
    let f : a * most + most - 0 ≡ a * most + most = omega arith in
    named_exact most a x (omega arith) 0 (take (n * most) l)
    ∙ rw (e, f) (ap (λ (k : List ℕ). times x (drop (a * most) k)) (take-take (a * most + most) (n * most) l fits) ∙ ap (times x) (drop_take (a * most) most l))

-- ---- the place that a number names: its row and its column
module _ (p width y z : ℕ) where
  apart : z < width → p ≡ y * width + z → (p / width ≡ y) × (p % width ≡ z)
  apart h e = (ap (λ (n : ℕ). n / width) e ∙ digits_div y h, ap (λ (n : ℕ). n % width) e ∙ digits_mod y h)

  together : p / width ≡ y → p % width ≡ z → p ≡ y * width + z
  together d m = omega (arith, ap (λ (n : ℕ). n * width) d, div-add-mod' p width)

hit : (s t : Bool) (p i : ℕ) → (s ≡ true → t ≡ true → p ≡ i) → (p ≡ i → (s ≡ true) × (t ≡ true)) → 1 if (s && t) ≡ 1 if eqb p i
hit true true p i h k = rw (eq-eqb p i (h refl refl))
hit true false p i h k = rw (ne_eqb p i (λ e. let z : ◌≡◌ {A = ℕ} 0 1 = cc (k e).1 in omega arith))
hit false t p i h k = rw (ne_eqb p i (λ e. let z : ◌≡◌ {A = ℕ} 0 1 = cc (k e).0 in omega arith))

miss : (s t : Bool) → (t ≡ true → ⊥) → 1 if (s && t) ≡ 0
miss true true h = absurd (h refl)
miss true false h = refl
miss false t h = refl

module _ (w : Window) (a v p : ℕ) where
  -- by a number v of the window's row a
  abbrev row_test : Bool
  row_test = eqb a (p / w.width) && eqb (suc (w.left + p % w.width)) v

  pub row_hit : w.left < v → v ≤ w.left + w.width → 1 if row_test ≡ 1 if eqb p (a * w.width + (v - w.left - 1))
  row_hit h k =
      let c = v - w.left - 1 in
      let low : c < w.width = omega arith in
      hit (eqb a (p / w.width)) (eqb (suc (w.left + p % w.width)) v) p (a * w.width + c)
      (λ e f. together p w.width a c (sym (eqb-true a (p / w.width) e)) (omega (arith, eqb-true (suc (w.left + p % w.width)) v f)))
      (λ e. let d = apart p w.width a c low e in (eq-eqb a (p / w.width) (sym d.0), eq-eqb (suc (w.left + p % w.width)) v (omega arith)))

  pub row_miss : 1 ≤ w.width → (w.left < v → v ≤ w.left + w.width → ⊥) → 1 if row_test ≡ 0
  row_miss h n =
      miss (eqb a (p / w.width)) (eqb (suc (w.left + p % w.width)) v)
      (λ e. let f = eqb-true (suc (w.left + p % w.width)) v e in n (omega arith) (omega (arith, mod-lt p h)))

  -- by a number v of its column a
  abbrev column_test : Bool
  column_test = eqb a (p % w.width) && eqb (suc (w.top + p / w.width)) v

  pub column_hit : a < w.width → w.top < v → 1 if column_test ≡ 1 if eqb p ((v - w.top - 1) * w.width + a)
  column_hit low h =
      let r = v - w.top - 1 in
      hit (eqb a (p % w.width)) (eqb (suc (w.top + p / w.width)) v) p (r * w.width + a)
      (λ e f. together p w.width r a (omega (arith, eqb-true (suc (w.top + p / w.width)) v f)) (sym (eqb-true a (p % w.width) e)))
      (λ e. let d = apart p w.width r a low e in (eq-eqb a (p % w.width) (sym d.1), eq-eqb (suc (w.top + p / w.width)) v (omega arith)))

  pub column_miss : 1 ≤ w.width → p < w.height * w.width → (w.top < v → v ≤ w.top + w.height → ⊥) → 1 if column_test ≡ 0
  column_miss h k n =
      miss (eqb a (p % w.width)) (eqb (suc (w.top + p / w.width)) v)
      (λ e.
      let f = eqb-true (suc (w.top + p / w.width)) v e in
      n (omega arith) (omega (arith, (div-lt_iff_lt-mul {x = p} {y = w.height} h).1 k)))
