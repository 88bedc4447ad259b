-- Where the rows stand. Assumes nothing.
use Rattle.integers.proofs.Prelude.{◌≡◌, refl, ap, subst, ◌∙◌, List, [], ℕ, suc, ◌+◌, ◌-◌, ◌*◌, ◌/◌, ◌%◌, ◌≤◌, ◌<◌, arith, dec_lt, lt-ltb, le-ltb, ℤ, pos}
use Rattle.integers.proofs.Prelude.{nat_abs, length, get_or-eq_default, sets}
use Rattle.lists.specs.Tabulated.{tab, over}
use Rattle.lists.proofs.Tabulated.{length_tab, get_or_tab, tab_same, over_sets}
use Rattle.model.specs.Limits.{most_slack, most_multiplier, most_row}
use Rattle.model.specs.Iteration.{at, row, slack, multiplier}
use Rattle.model.specs.Bounds.{RowsWithin}
use Rattle.model.proofs.Rows.{at_tab}
use Rattle.rows.proofs.Four.{small_are}
use Rattle.layout.specs.Arranged.{Permutation}
use Rattle.layout.specs.Transposed.{cell, Fours, stored, place, straight}
use Rattle.layout.proofs.Arranged.{arranged_at, arranged_all, arranged_back}

-- ---- fours by their cells
pub cells_small : (n b : ℕ) (f : ℕ → ℕ → ℤ) {q : List (List ℤ)} → q ≡ tab n (λ k. tab 4 (f k)) → ((k j : ℕ) → k < n → j < 4 → nat_abs (f k j) ≤ b) → (k j : ℕ) → nat_abs (cell q k j) ≤ b
cells_small n b f {q} e h k = rw e (by (dec_lt k n))
  where
    by : Dec (k < n) → (j : ℕ) → nat_abs (cell (tab n (λ k. tab 4 (f k))) k j) ≤ b
    by (yes l) = rw (get_or_tab n (λ k. tab 4 (f k)) k [] l) (small_are b (f k) refl (λ j. h k j l))
    by (no l) = rw (get_or-eq_default (tab n (λ k. tab 4 (f k))) [] {n = k} (omega (arith, length_tab n (λ k. tab 4 (f k))))) (λ _. omega arith)

pub fours_are : (f : ℕ → ℕ → ℤ) → ((k j : ℕ) → k < 4 → j < 4 → nat_abs (f k j) ≤ most_row) → Fours (tab 4 (λ k. tab 4 (f k)))
fours_are f = cells_small 4 most_row f refl

pub cell_is : (f : ℕ → ℕ → ℤ) (k j : ℕ) → k < 4 → j < 4 → cell (tab 4 (λ k. tab 4 (f k))) k j ≡ f k j
cell_is f k j l m = ap (λ (q : List ℤ). at q j) (get_or_tab 4 (λ k. tab 4 (f k)) k [] l) ∙ get_or_tab 4 (f k) j (pos 0) m

module _ (T : ℕ) where
  -- among the first triples
  pub place_first : (i : ℕ) → i < 4 * (T % 4) → place T i ≡ i
  unfolding place
  place_first i h = rw (lt-ltb i (4 * (T % 4)) h) refl

  -- in a four, which begins with triple t
  pub place_four : (t k r : ℕ) → T % 4 ≤ t → (T - t) % 4 ≡ 0 → t ≤ T → k < 4 → r < 4 → place T (4 * (t + k) + r) ≡ 4 * (t + r) + k
  unfolding place
  place_four t k r h e g l m =
      let b = (t - T % 4) / 4 in
      let t_is : t ≡ T % 4 + 4 * b = omega arith in
      let u_is : 4 * (t + k) + r - 4 * (T % 4) ≡ 16 * b + (4 * k + r) = omega (arith, t_is) in
      let i = 16 * b + (4 * k + r) in
      let p : i / 16 ≡ b = omega arith in
      let q : i % 4 ≡ r = omega arith in
      let s : i % 16 ≡ 4 * k + r = omega arith in
      let w : (4 * k + r) / 4 ≡ k = omega arith in
      rw (le-ltb (4 * (t + k) + r) (4 * (T % 4)) (omega arith), u_is, p, q, s, w) (omega (arith, t_is))

-- ---- four stores of four are one of sixteen
pub sets_fours : (l : List ℤ) (t : ℕ) (f : ℕ → ℕ → ℤ)
    → sets (sets (sets (sets l (4 * t) (tab 4 (f 0))) (4 * (t + 1)) (tab 4 (f 1))) (4 * (t + 2)) (tab 4 (f 2))) (4 * (t + 3)) (tab 4 (f 3))
    ≡ sets l (4 * t) (tab 16 (λ j. f (j / 4) (j % 4)))
sets_fours l t f =
    let a : 4 * (t + 1) ≡ suc (suc (suc (suc (4 * t)))) = omega arith in
    let b : 4 * (t + 2) ≡ suc (suc (suc (suc (4 * (t + 1))))) = omega arith in
    let c : 4 * (t + 3) ≡ suc (suc (suc (suc (4 * (t + 2))))) = omega arith in
    rw (c, b, a)

-- ---- four fours, transposed, as they stand from triple t on in a list of which these entries are f's
pub cells_are : (f : ℕ → ℤ) (t : ℕ) (q : List (List ℤ)) → ((k r : ℕ) → k < 4 → r < 4 → cell q k r ≡ f (4 * (t + r) + k)) → (j : ℕ) → j < 16 → cell q (j % 4) (j / 4) ≡ f (4 * t + j)
cells_are f t q are j h = let e : 4 * (t + j / 4) + j % 4 ≡ 4 * t + j = omega arith in are (j % 4) (j / 4) (omega arith) (omega arith) ∙ ap f e

pub four_more : (s : List ℤ) (f : ℕ → ℤ) (t : ℕ) (q : List (List ℤ)) → 4 * t + 16 ≤ length s → ((k r : ℕ) → k < 4 → r < 4 → cell q k r ≡ f (4 * (t + r) + k))
    → stored (over (4 * t) f s) t q ≡ over (4 * (t + 4)) f s
four_more s f t q long are =
    let n : 4 * t + 16 ≡ 4 * (t + 4) = omega arith in
    ap (sets (over (4 * t) f s) (4 * t)) (tab_same 16 (λ j. cell q (j % 4) (j / 4)) (λ j. f (4 * t + j)) (cells_are f t q are))
    ∙ over_sets 16 (4 * t) f s long
    ∙ ap (λ (n : ℕ). over n f s) n

-- every entry is one of the first triples' or one of a four's
by_place : (T : ℕ) (P : ℕ → Type 0)
    → ((i : ℕ) → i < 4 * (T % 4) → P i)
    → ((t k r : ℕ) → T % 4 ≤ t → (T - t) % 4 ≡ 0 → t + 4 ≤ T → k < 4 → r < 4 → P (4 * (t + k) + r))
    → (i : ℕ) → i < 4 * T → P i
by_place T P one four i h = by (dec_lt i (4 * (T % 4)))
  where
    by : Dec (i < 4 * (T % 4)) → P i
    by (yes l) = one i l
    by (no l) =
        let u = i / 4 - T % 4 in
        let t = T % 4 + 4 * (u / 4) in
        let e : 4 * (t + u % 4) + i % 4 ≡ i = omega arith in
        subst P e (four t (u % 4) (i % 4) (omega arith) (omega arith) (omega arith) (omega arith) (omega arith))

-- ---- the rows of T triples, in the order of document 01
module _ (T : ℕ) where
  -- transposed twice, a four is as it was
  place_below : (i : ℕ) → i < 4 * T → place T i < 4 * T
  place_below =
      by_place T (λ i. place T i < 4 * T) (λ i h. rw (place_first T i h) (omega arith))
      (λ t k r h e g l m. rw (place_four T t k r h e (omega arith) l m) (omega arith))

  place_back : (i : ℕ) → i < 4 * T → place T (place T i) ≡ i
  place_back =
      by_place T (λ i. place T (place T i) ≡ i) (λ i h. rw (place_first T i h) (place_first T i h))
      (λ t k r h e g l m. rw (place_four T t k r h e (omega arith) l m) (place_four T t r k h e (omega arith) m l))

  pub transposed : Permutation (4 * T) (place T) (place T)
  transposed = record { below = place_below; below_back = place_below; back = place_back; forth = place_back }

  pub straight_straight : (s : List ℤ) → length s ≡ 4 * T → straight T (straight T s) ≡ s
  straight_straight = arranged_back transposed

module _ (T : ℕ) (s : List ℤ) where
  pub straight_first : (i : ℕ) → i < 4 * (T % 4) → at (straight T s) i ≡ at s i
  straight_first i h = arranged_at (4 * T) (place T) s i (omega arith) ∙ ap (at s) (place_first T i h)

  pub straight_four : (t k r : ℕ) → T % 4 ≤ t → (T - t) % 4 ≡ 0 → t < T → k < 4 → r < 4 → row (straight T s) (t + k) r ≡ row s (t + r) k
  straight_four t k r h e g l m =
      arranged_at (4 * T) (place T) s (4 * (t + k) + r) (omega arith) ∙ ap (at s) (place_four T t k r h e (omega arith) l m)

-- rows that are 0
pub straight_zero : (T : ℕ) → straight T (tab (4 * T) (λ _. pos 0)) ≡ tab (4 * T) (λ _. pos 0)
straight_zero T =
    tab_same (4 * T) (λ i. at (tab (4 * T) (λ _. pos 0)) (place T i)) (λ _. pos 0) (λ i _. at_tab (λ z. z ≡ pos 0) (4 * T) (λ _. pos 0) (place T i) (λ _. refl) refl)

-- rows that a run reaches, in the order of document 01, and back
pub straight_within : (n T : ℕ) (s : List ℤ) → RowsWithin n s → RowsWithin n (straight T s)
straight_within n T s w =
    let all = arranged_all (4 * T) (place T) s in
    record { multipliers = all (λ z. multiplier z ≤ most_multiplier n) (omega arith) w.multipliers; slacks = all (λ z. slack z ≤ most_slack) (omega arith) w.slacks }

pub straight_back : (n T : ℕ) (s : List ℤ) → length s ≡ 4 * T → RowsWithin n (straight T s) → RowsWithin n s
straight_back n T s e w = subst (RowsWithin n) (straight_straight T s e) (straight_within n T (straight T s) w)
