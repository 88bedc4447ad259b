-- The window of all places: the model's `agree` holds exactly where columns and rows agree in it and name no index above the other side's count. Assumes
-- nothing.
use Rattle.integers.proofs.Prelude.{◌≡◌, refl, sym, ap, ap₂, ◌∙◌, Bool, true, false, ◌&&◌, List, [], ◌∷◌, ℕ, zero, suc, ◌+◌, ◌*◌, ◌≤◌, ◌<◌, max, arith}
use Rattle.integers.proofs.Prelude.{leb-true, leb-false, lt-leb, le-leb, leb, length, get_or, take, drop, take-add, drop-drop}
use Rattle.lists.specs.Entries.{every}
use Rattle.lists.proofs.Entries.{every_append}
use Rattle.model.specs.Alist.{largest, pieces, times, up_to, agree}
use Rattle.model.specs.AlistClaims.{SamePlaces}
use Rattle.model.proofs.Agreement.{same_inside, columns_up_to, rows_up_to, agreement, agree_not}
use Rattle.places.specs.Counters.{list_at, Agrees, Tells}

-- ---- the lists of a side
pub length_pieces : (n most : ℕ) (l : List ℕ) → length (pieces n most l) ≡ n
length_pieces zero most l = refl
length_pieces (suc n) most l = ap suc (length_pieces n most (drop most l))

pub get_or_pieces : (n most : ℕ) (l : List ℕ) (i : ℕ) → i < n → get_or (pieces n most l) i [] ≡ list_at most l i
get_or_pieces zero most l i h = absurd (omega arith)
get_or_pieces (suc n) most l zero h = let e : 0 ≡ 0 * most = omega arith in ap (λ (k : ℕ). take most (drop k l)) e
get_or_pieces (suc n) most l (suc i) h =
    let e : most + i * most ≡ suc i * most = omega arith in
    get_or_pieces n most (drop most l) i (omega arith) ∙ ap (take most) (drop-drop (i * most) most l ∙ ap (λ (k : ℕ). drop k l) e)

-- ---- the largest index
largest_up_to : (u : ℕ) (l : List ℕ) → every (λ i. leb i u) l ≡ leb (largest l) u
largest_up_to u [] = sym (le-leb 0 u (omega arith))
largest_up_to u (x ∷ l) = rw (largest_up_to u l) (by (leb x u) refl (leb (largest l) u) refl)
  where
    by : (s : Bool) → leb x u ≡ s → (t : Bool) → leb (largest l) u ≡ t → (s && t) ≡ leb (max x (largest l)) u
    by true e true f = sym (le-leb (max x (largest l)) u (omega (arith, leb-true x u e, leb-true (largest l) u f)))
    by true e false f = sym (lt-leb (max x (largest l)) u (omega (arith, leb-false (largest l) u f)))
    by false e t f = sym (lt-leb (max x (largest l)) u (omega (arith, leb-false x u e)))

pub up_to_pieces : (u n most : ℕ) (l : List ℕ) → up_to u (pieces n most l) ≡ leb (largest (take (n * most) l)) u
up_to_pieces u n most l = to n l ∙ largest_up_to u (take (n * most) l)
  where
    to : (n : ℕ) (l : List ℕ) → up_to u (pieces n most l) ≡ every (λ i. leb i u) (take (n * most) l)
    to zero l = let e : 0 * most ≡ 0 = omega arith in rw e
    to (suc n) l =
        let e : suc n * most ≡ most + n * most = omega arith in
        rw (to n (drop most l), e, take-add most (n * most) l) (sym (every_append (λ i. leb i u) (take most l) (take (n * most) (drop most l))))

-- ---- both sides: n columns k, m rows l
module _ (n column_most : ℕ) (k : List ℕ) (m row_most : ℕ) (l : List ℕ) where
  abbrev cs : List (List ℕ)
  cs = pieces n column_most k

  abbrev rs : List (List ℕ)
  rs = pieces m row_most l

  abbrev All : Type 0
  All = Agrees (record { top = 0; height = m; left = 0; width = n }) row_most l column_most k

  place : (r c : ℕ) → r < m → c < n
      → (times (suc (0 + c)) (list_at row_most l r) ≡ times (suc c) (get_or rs r [])) × (times (suc (0 + r)) (list_at column_most k c) ≡ times (suc r) (get_or cs c []))
  place r c i j =
      let e : suc (0 + c) ≡ suc c = omega arith in
      let f : suc (0 + r) ≡ suc r = omega arith in
      (ap₂ times e (sym (get_or_pieces m row_most l r i)), ap₂ times f (sym (get_or_pieces n column_most k c j)))

  same_all : SamePlaces cs rs → All
  same_all h r c i j = let p = place r c i j in p.0 ∙ h r c ∙ sym p.1

  columns_low : up_to (length rs) cs ≡ leb (largest (take (n * column_most) k)) m
  columns_low = rw (length_pieces m row_most l) (up_to_pieces m n column_most k)

  rows_low : up_to (length cs) rs ≡ leb (largest (take (m * row_most) l)) n
  rows_low = rw (length_pieces n column_most k) (up_to_pieces n m row_most l)

  -- an index above the other side's count
  pub columns_above : m < largest (take (n * column_most) k) → agree cs rs ≡ false
  columns_above h =
      agree_not cs rs (λ s. let z : ◌≡◌ {A = ℕ} 0 1 = cc (columns_up_to cs rs s, columns_low, lt-leb (largest (take (n * column_most) k)) m h) in omega arith)

  pub rows_above : n < largest (take (m * row_most) l) → agree cs rs ≡ false
  rows_above h =
      agree_not cs rs (λ s. let z : ◌≡◌ {A = ℕ} 0 1 = cc (rows_up_to cs rs s, rows_low, lt-leb (largest (take (m * row_most) l)) n h) in omega arith)

  -- and none
  pub all_tells : (t : Bool) → largest (take (n * column_most) k) ≤ m → largest (take (m * row_most) l) ≤ n → Tells t All → t ≡ agree cs rs
  all_tells true p q tells =
      sym ((agreement cs rs).1
      (same_inside cs rs (columns_low ∙ le-leb (largest (take (n * column_most) k)) m p) (rows_low ∙ le-leb (largest (take (m * row_most) l)) n q)
      (λ r c i j.
      let a : r < m = omega (arith, length_pieces m row_most l) in
      let b : c < n = omega (arith, length_pieces n column_most k) in
      let e = place r c a b in
      sym e.0 ∙ tells.so refl r c a b ∙ e.1)))
  all_tells false p q tells = sym (agree_not cs rs (λ s. tells.not_so refl (same_all s)))
