-- Windows in which columns and rows agree: by counters, side by side and one below the other. Assumes nothing.
use Rattle.integers.proofs.Prelude.{◌≡◌, sym, ap, ◌∙◌, Bool, List, ℕ, suc, ◌+◌, ◌-◌, ◌*◌, ◌/◌, ◌%◌, ◌≤◌, ◌<◌, arith, dec_lt, length, get_or, take, drop, drop-drop}
use native.Mathlib.Nat.{mod-lt, div-lt_iff_lt-mul}
use lib.Arith.{digits_lt, digits_div, digits_mod}
use Rattle.model.specs.Alist.{times}
use Rattle.places.specs.declared.Window.{Window}
use Rattle.places.specs.Counters.{list_at, Agrees, Tells, in_rows, in_columns, More, Zeros}
use Rattle.places.proofs.Named.{named_list}

-- ---- l are the numbers of the rows from the window's first on, k those of the columns
module _ (w : Window) (h : 1 ≤ w.width) (row_most : ℕ) (l : List ℕ) (column_most : ℕ) (k : List ℕ) where
  abbrev Counted : Type 0
  Counted =
      (p : ℕ) → p < w.height * w.width → in_rows w row_most 0 (take (w.height * row_most) l) p ≡ in_columns w column_most 0 (take (w.width * column_most) k) p

  row_count : (p : ℕ) → p < w.height * w.width
      → in_rows w row_most 0 (take (w.height * row_most) l) p ≡ times (suc (w.left + p % w.width)) (list_at row_most l (p / w.width))
  row_count p i = named_list row_most w.height (p / w.width) (suc (w.left + p % w.width)) l ((div-lt_iff_lt-mul {x = p} {y = w.height} h).1 i)

  column_count : (p : ℕ)
      → in_columns w column_most 0 (take (w.width * column_most) k) p ≡ times (suc (w.top + p / w.width)) (list_at column_most k (p % w.width))
  column_count p = named_list column_most w.width (p % w.width) (suc (w.top + p / w.width)) k (mod-lt p h)

  pub agrees_counted : Agrees w row_most l column_most k → Counted
  agrees_counted e p i =
      row_count p i ∙ e (p / w.width) (p % w.width) ((div-lt_iff_lt-mul {x = p} {y = w.height} h).1 i) (mod-lt p h) ∙ sym (column_count p)

  pub counted_agrees : Counted → Agrees w row_most l column_most k
  counted_agrees e r c i j =
      let p = r * w.width + c in
      let d : p / w.width ≡ r = digits_div r j in
      let m : p % w.width ≡ c = digits_mod r j in
      let low : p < w.height * w.width = digits_lt i j in
      let same : times (suc (w.left + p % w.width)) (list_at row_most l (p / w.width))
      ≡ times (suc (w.top + p / w.width)) (list_at column_most k (p % w.width))
      = sym (row_count p low) ∙ e p low ∙ column_count p in
      rw (d, m) at same

  -- the rows were counted up from zeros, and all counters are as high as the columns' counts
  pub window_tells : (t : Bool) (zeros up lent : List ℕ) → Zeros zeros → length zeros ≡ w.height * w.width
      → More (in_rows w row_most 0 (take (w.height * row_most) l)) zeros up → lent ≡ up
      → Tells t ((p : ℕ) → p < length lent → get_or lent p 0 ≡ in_columns w column_most 0 (take (w.width * column_most) k) p)
      → Tells t (Agrees w row_most l column_most k)
  window_tells t zeros up lent z e m same tells =
      let n : length lent ≡ w.height * w.width = ap length same ∙ m.long ∙ e in
      let at : (p : ℕ) → p < w.height * w.width → get_or lent p 0 ≡ in_rows w row_most 0 (take (w.height * row_most) l) p
      = λ p i. ap (λ (x : List ℕ). get_or x p 0) same ∙ omega (arith, m.each p (omega arith), z p) in
      record {
        so = λ s. counted_agrees (λ p i. sym (at p i) ∙ tells.so s p (omega arith));
        not_so = λ s a. tells.not_so s (λ p i. let j : p < w.height * w.width = omega arith in at p j ∙ agrees_counted a p j);
      }

-- ---- a list further on
pub list_past : (most a b : ℕ) (l : List ℕ) → drop (b * most) (drop (a * most) l) ≡ drop ((a + b) * most) l
list_past most a b l = let e : a * most + b * most ≡ (a + b) * most = omega arith in drop-drop (b * most) (a * most) l ∙ ap (λ (n : ℕ). drop n l) e

list_from : (most a i : ℕ) (l : List ℕ) → list_at most (drop (a * most) l) i ≡ list_at most l (a + i)
list_from most a i l = ap (take most) (list_past most a i l)

-- ---- windows together
module _ (row_most : ℕ) (l : List ℕ) (column_most : ℕ) (k : List ℕ) where
  abbrev at : (top height left width : ℕ) → Window
  at top height left width = record { top = top; height = height; left = left; width = width }

  -- side by side: the columns from the first on
  pub wider : (top height a b : ℕ) → Agrees (at top height 0 a) row_most l column_most k
      → Agrees (at top height a b) row_most l column_most (drop (a * column_most) k)
      → Agrees (at top height 0 (a + b)) row_most l column_most k
  wider top height a b f g r c i j = by (dec_lt c a)
    where
      by : Dec (c < a) → times (suc (0 + c)) (list_at row_most l r) ≡ times (suc (top + r)) (list_at column_most k c)
      by (yes d) = f r c i d
      by (no d) =
          let e : a + (c - a) ≡ c = omega arith in
          let s : suc (0 + c) ≡ suc (a + (c - a)) = omega arith in
          ap (λ (x : ℕ). times x (list_at row_most l r)) s ∙ g r (c - a) i (omega arith)
          ∙ ap (times (suc (top + r))) (list_from column_most a (c - a) k ∙ ap (list_at column_most k) e)

  pub wide_part : (top height a b n : ℕ) → a + b ≤ n → Agrees (at top height 0 n) row_most l column_most k
      → Agrees (at top height a b) row_most l column_most (drop (a * column_most) k)
  wide_part top height a b n h f r c i j =
      let s : suc (a + c) ≡ suc (0 + (a + c)) = omega arith in
      ap (λ (x : ℕ). times x (list_at row_most l r)) s ∙ f r (a + c) i (omega arith) ∙ ap (times (suc (top + r))) (sym (list_from column_most a c k))

  -- one below the other: the rows from the first on
  pub higher : (a b width : ℕ) → Agrees (at 0 a 0 width) row_most l column_most k → Agrees (at a b 0 width) row_most (drop (a * row_most) l) column_most k
      → Agrees (at 0 (a + b) 0 width) row_most l column_most k
  higher a b width f g r c i j = by (dec_lt r a)
    where
      by : Dec (r < a) → times (suc (0 + c)) (list_at row_most l r) ≡ times (suc (0 + r)) (list_at column_most k c)
      by (yes d) = f r c d j
      by (no d) =
          let e : a + (r - a) ≡ r = omega arith in
          let s : suc (a + (r - a)) ≡ suc (0 + r) = omega arith in
          ap (times (suc (0 + c))) (ap (list_at row_most l) (sym e) ∙ sym (list_from row_most a (r - a) l)) ∙ g (r - a) c (omega arith) j
          ∙ ap (λ (x : ℕ). times x (list_at column_most k c)) s

  pub high_part : (a b n width : ℕ) → a + b ≤ n → Agrees (at 0 n 0 width) row_most l column_most k
      → Agrees (at a b 0 width) row_most (drop (a * row_most) l) column_most k
  high_part a b n width h f r c i j =
      let s : suc (0 + (a + r)) ≡ suc (a + r) = omega arith in
      ap (times (suc (0 + c))) (list_from row_most a r l) ∙ f (a + r) c (omega arith) j ∙ ap (λ (x : ℕ). times x (list_at column_most k c)) s
