-- The rows of T triples, as one triple or four triples after the other are renewed with the values c. Assumes nothing.
use Rattle.integers.proofs.Prelude.{◌≡◌, refl, sym, ap, ap₂, subst, ◌∙◌, Bool, true, false, cond, not, ◌&&◌, List, ℕ, ◌+◌, ◌-◌, ◌*◌, ◌/◌, ◌%◌, ◌^◌, ◌≤◌, ◌<◌}
use Rattle.integers.proofs.Prelude.{arith, eqb, eqb-false, not-true, dec_lt, ltb-true, ltb-false, lt-ltb, le-ltb, le-leb, ltb, leb, ℤ, pos, negsuc, nat_abs}
use Rattle.integers.proofs.Prelude.{◌*ℤ◌, length, sets}
use native.Mathlib.Nat.{mul-le-mul}
use Rattle.integers.specs.Sum.{sum_ℕ}
use Rattle.integers.proofs.Sums.{sum_ℕ_same, sum_ℕ_split, sum_ℕ_bound, sum_ℕ_swap, sum_ℕ_fours}
use Rattle.integers.proofs.Linear.{about, abs_difference}
use Rattle.lists.specs.Tabulated.{tab, over}
use Rattle.lists.proofs.Entries.{every_at}
use Rattle.lists.proofs.Tests.{and_left, and_false}
use Rattle.lists.proofs.Tabulated.{length_tab, get_or_tab, tab_same, tab_get_or, length_over, over_in, over_out, over_sets, over_same, over_self}
use Rattle.quotient.specs.Quotient.{unit}
use Rattle.model.specs.Limits.{most_triples, most_done, most_slack, most_row}
use Rattle.model.specs.Causes.{◌if◌}
use Rattle.model.specs.Splitting.{blank, member}
use Rattle.model.specs.Iteration.{at, sum_at, row, slack, multiplier, renewed, renewed_at}
use Rattle.model.specs.Run.{square_of_change, changes, settled_by}
use Rattle.model.specs.Bounds.{RowsWithin}
use Rattle.model.proofs.Bounds.{renewed_slack, renewed_small, multiplier_change, sum_at_small}
use Rattle.model.proofs.Runs.{changes_rows, settled_by_lem}
use Rattle.rows.specs.Sides.{Rows, change_of}
use Rattle.rows.proofs.Four.{rows_are, side_multiplier, side_slack}
use Rattle.layout.specs.Transposed.{cell, Fours, lane, stored, place, straight, Aligned}
use Rattle.layout.proofs.Arranged.{arranged_at, sum_arranged}
use Rattle.layout.proofs.Places.{place_first, place_four, fours_are, cell_is, cells_are, transposed}
use Rattle.renewal.specs.InPlace.{without_blank, Known, SmallRow, triple_changes, four_changes, renewed_four, renewed_in, renewed_all, Left, renewed_from, changes_from, Renewed}

-- ---- how large
pub small_abs : (z : ℤ) → SmallRow z → nat_abs z ≤ most_row
small_abs z h = omega (arith, about z, h.0, h.1)

-- the rows of a triple and of four, before
pub old_rows : (s : List ℤ) (t : ℕ) → ((i : ℕ) → 4 * t ≤ i → SmallRow (at s i)) → Rows (tab 4 (λ r. row s t r))
old_rows s t small = rows_are (λ r. row s t r) (λ r _. small_abs (row s t r) (small (4 * t + r) (omega arith)))

pub old_fours : (s : List ℤ) (t : ℕ) → ((i : ℕ) → 4 * t ≤ i → SmallRow (at s i)) → Fours (tab 4 (lane s t))
old_fours s t small = fours_are (λ k r. row s (t + r) k) (λ k r _ _. small_abs (row s (t + r) k) (small (4 * (t + r) + k) (omega arith)))

module _ (ts : List ℕ) (c : List ℤ) (unit_most : (v : ℕ) → nat_abs (at c v) ≤ unit) where
  new_abs : (z : ℤ) (t r : ℕ) → r < 4 → SmallRow z → nat_abs (renewed z (sum_at ts c t r)) ≤ most_row
  new_abs z t r l h = renewed_small z (sum_at ts c t r) (sum_at_small ts c unit_most t r l) h.0

  -- the square of a change, on both sides
  multiplier_most : (z : ℤ) (t r : ℕ) → r < 4 → SmallRow z → change_of (pos 1) z (renewed z (sum_at ts c t r)) ≤ 4294967296
  multiplier_most z t r l h =
      let sum = sum_at ts c t r in
      let d = multiplier_change z sum (sum_at_small ts c unit_most t r l) in
      rw (side_multiplier z, side_multiplier (renewed z sum)) (mul-le-mul d d)

  slack_most : (z : ℤ) (t r : ℕ) → r < 4 → SmallRow z → change_of (negsuc 0) z (renewed z (sum_at ts c t r)) ≤ 4294967296
  slack_most z t r l h =
      let sum = sum_at ts c t r in
      let d = abs_difference (slack (renewed z sum)) (slack z) most_slack (omega (arith, renewed_slack z sum (sum_at_small ts c unit_most t r l))) (omega (arith, h.1)) in
      rw (side_slack z, side_slack (renewed z sum)) (mul-le-mul d d)

  -- and after
  pub new_rows : (s : List ℤ) (t : ℕ) → ((i : ℕ) → 4 * t ≤ i → SmallRow (at s i)) → Rows (tab 4 (λ r. renewed (row s t r) (sum_at ts c t r)))
  new_rows s t small = rows_are (λ r. renewed (row s t r) (sum_at ts c t r)) (λ r l. new_abs (row s t r) t r l (small (4 * t + r) (omega arith)))

  pub new_fours : (s : List ℤ) (t : ℕ) → ((i : ℕ) → 4 * t ≤ i → SmallRow (at s i)) → Fours (renewed_four ts s c t)
  new_fours s t small =
      fours_are (λ k r. renewed (row s (t + r) k) (sum_at ts c (t + k) r)) (λ k r _ l. new_abs (row s (t + r) k) (t + k) r l (small (4 * (t + r) + k) (omega arith)))

-- ---- a part of a total
grown : (a f w A : ℕ) → a + f ≡ 0 + w → w ≡ A → (a ≤ A) × (f ≡ 0 → a ≡ A)
grown a f w A p q = (omega arith, λ z. omega arith)

-- nothing is done
pub at_first : {T : ℕ} {s : List ℤ} → 4 * T ≡ length s → RowsWithin most_done s → Left T 0 s
at_first e w = record { long = sym e; small = λ i _. (w.multipliers i, w.slacks i) }

module _ (T : ℕ) (ts : List ℕ) (c : List ℤ) where
  -- ---- what is renewed, and what it adds to a total
  abbrev new : List ℤ → ℕ → ℤ
  new s i = renewed_in T ts s c i

  abbrev entry : ℕ → List ℤ → ℕ → ℤ
  entry t s i = cond (ltb i (4 * t)) (at s i) (new s i)

  abbrev change : ℤ → List ℤ → ℕ → ℕ
  change side s i = change_of side (at s i) (new s i)

  done : (t : ℕ) (s : List ℤ) (i : ℕ) → i < 4 * t → entry t s i ≡ at s i
  done t s i h = rw (lt-ltb i (4 * t) h)

  to_do : (t : ℕ) (s : List ℤ) (i : ℕ) → 4 * t ≤ i → entry t s i ≡ new s i
  to_do t s i h = rw (le-ltb i (4 * t) h)

  -- ---- the n triples from t on are renewed: their entries are stored
  module _ (n t : ℕ) (s s' : List ℤ) (f : ℕ → ℤ) (room : t + n ≤ T) (left : Left T t s)
      (put : s' ≡ sets s (4 * t) (tab (4 * n) f)) (are : (j : ℕ) → j < 4 * n → f j ≡ new s (4 * t + j)) where
    list_is : s' ≡ over (4 * (t + n)) (entry t s) s
    list_is =
        let e : 4 * t + 4 * n ≡ 4 * (t + n) = omega arith in
        put
        ∙ ap₂ (λ (k l : List ℤ). sets k (4 * t) l)
        (sym (over_same (4 * t) (entry t s) (at s) s (done t s) ∙ over_self (4 * t) s (pos 0) (omega (arith, left.long))))
        (tab_same (4 * n) f (λ j. entry t s (4 * t + j)) (λ j h. are j h ∙ sym (to_do t s (4 * t + j) (omega arith))))
        ∙ over_sets (4 * n) (4 * t) (entry t s) s (omega (arith, left.long))
        ∙ ap (λ (m : ℕ). over m (entry t s) s) e

    kept : (i : ℕ) → 4 * (t + n) ≤ i → at s' i ≡ at s i
    kept i h = ap (λ (l : List ℤ). at l i) list_is ∙ over_out (4 * (t + n)) (entry t s) s i (pos 0) h

    entry_same : (i : ℕ) → Dec (i < 4 * (t + n)) → entry (t + n) s' i ≡ entry t s i
    entry_same i (yes l) = done (t + n) s' i l ∙ ap (λ (k : List ℤ). at k i) list_is ∙ over_in (4 * (t + n)) (entry t s) s i (pos 0) l
    entry_same i (no l) =
        to_do (t + n) s' i (omega arith)
        ∙ ap (λ (z : ℤ). renewed z (sum_at ts c (place T i / 4) (place T i % 4))) (kept i (omega arith))
        ∙ sym (to_do t s i (omega arith))

    total : (side : ℤ) → sum_ℕ (4 * n) (λ j. change side s (4 * t + j)) + changes_from T ts c side (t + n) s' ≡ changes_from T ts c side t s
    total side =
        let m = 4 * T - 4 * (t + n) in
        let e : 4 * n + m ≡ 4 * T - 4 * t = omega arith in
        let same : (j : ℕ) → j < m → change side s' (4 * (t + n) + j) ≡ change side s (4 * t + (4 * n + j))
        = λ j _. let g : 4 * t + (4 * n + j) ≡ 4 * (t + n) + j = omega arith in rw (g, kept (4 * (t + n) + j) (omega arith)) in
        ap (λ (x : ℕ). sum_ℕ (4 * n) (λ j. change side s (4 * t + j)) + x) (sum_ℕ_same m _ _ same)
        ∙ sym (sum_ℕ_split (4 * n) m (λ j. change side s (4 * t + j)))
        ∙ ap (λ (k : ℕ). sum_ℕ k (λ j. change side s (4 * t + j))) e

    step : (m z a b : ℕ) → a ≡ m + sum_ℕ (4 * n) (λ j. change (pos 1) s (4 * t + j)) → b ≡ z + sum_ℕ (4 * n) (λ j. change (negsuc 0) s (4 * t + j)) → Renewed T ts c t (t + n) s s' m a z b
    step m z a b p q = record {
      left = record {
        long = ap length list_is ∙ length_over (4 * (t + n)) (entry t s) s (omega (arith, left.long)) ∙ left.long;
        small = λ i h. rw (kept i h) (left.small i (omega arith));
      };
      rows = tab_same (4 * T) (entry (t + n) s') (entry t s) (λ i _. entry_same i (dec_lt i (4 * (t + n))));
      of_multipliers = omega (arith, total (pos 1));
      of_slacks = omega (arith, total (negsuc 0));
    }

  -- ---- one of the first triples
  new_first : (s : List ℤ) (t r : ℕ) → t < T % 4 → r < 4 → renewed (row s t r) (sum_at ts c t r) ≡ new s (4 * t + r)
  new_first s t r h l =
      let d : (4 * t + r) / 4 ≡ t = omega arith in
      let m : (4 * t + r) % 4 ≡ r = omega arith in
      rw (place_first T (4 * t + r) (omega arith), d, m)

  module _ (t : ℕ) (s s' old new' : List ℤ) (m z a b : ℕ) (h : t < T % 4) (left : Left T t s)
      (old_is : old ≡ tab 4 (λ r. row s t r)) (new_is : new' ≡ tab 4 (λ r. renewed (row s t r) (sum_at ts c t r))) where
    triple_total : (side : ℤ) → triple_changes side old new' ≡ sum_ℕ 4 (λ r. change side s (4 * t + r))
    triple_total side =
        ap₂ (triple_changes side) old_is new_is
        ∙ sum_ℕ_same 4 (λ r. change_of side (row s t r) (renewed (row s t r) (sum_at ts c t r))) _ (λ r l. ap (change_of side (row s t r)) (new_first s t r h l))

    pub triple_renewed : s' ≡ sets s (4 * t) (tab 4 (at new')) → a ≡ m + triple_changes (pos 1) old new' → b ≡ z + triple_changes (negsuc 0) old new' → Renewed T ts c t (t + 1) s s' m a z b
    triple_renewed put p q =
        step 1 t s s' (λ r. renewed (row s t r) (sum_at ts c t r)) (omega arith) left (put ∙ ap (λ (k : List ℤ). sets s (4 * t) (tab 4 (at k))) new_is) (λ r l. new_first s t r h l)
        m z a b (p ∙ ap (λ (x : ℕ). m + x) (triple_total (pos 1))) (q ∙ ap (λ (x : ℕ). z + x) (triple_total (negsuc 0)))

  -- ---- four triples
  new_four : (s : List ℤ) (t k r : ℕ) → Aligned T t → k < 4 → r < 4 → renewed (row s (t + r) k) (sum_at ts c (t + k) r) ≡ new s (4 * (t + r) + k)
  new_four s t k r a l m =
      let d : (4 * (t + k) + r) / 4 ≡ t + k = omega arith in
      let e : (4 * (t + k) + r) % 4 ≡ r = omega arith in
      rw (place_four T t r k (omega (arith, a)) a.1 a.0 m l, d, e)

  module _ (t : ℕ) (s s' : List ℤ) (old new' : List (List ℤ)) (m z a b : ℕ) (al : Aligned T t) (h : t < T) (left : Left T t s)
      (old_is : old ≡ tab 4 (lane s t)) (new_is : new' ≡ renewed_four ts s c t) where
    four_total : (side : ℤ) → four_changes side old new' ≡ sum_ℕ 16 (λ j. change side s (4 * t + j))
    four_total side =
        let renewed_row : ℕ → ℕ → ℤ = λ k r. renewed (row s (t + r) k) (sum_at ts c (t + k) r) in
        ap₂ (four_changes side) old_is new_is
        ∙ sum_ℕ_swap 4 4 (λ k r. change_of side (row s (t + r) k) (renewed_row k r))
        ∙ sum_ℕ_same 4 (λ r. sum_ℕ 4 (λ k. change_of side (row s (t + r) k) (renewed_row k r))) _ (λ r l. sum_ℕ_same 4 (λ k. change_of side (row s (t + r) k) (renewed_row k r)) _ (λ k g.
        let e : 4 * (t + r) + k ≡ 4 * t + (4 * r + k) = omega arith in ap (change_of side (row s (t + r) k)) (new_four s t k r al g l) ∙ ap (change side s) e))
        ∙ sum_ℕ_fours 4 (λ j. change side s (4 * t + j))

    pub four_renewed : s' ≡ stored s t (renewed_four ts s c t) → a ≡ m + four_changes (pos 1) old new' → b ≡ z + four_changes (negsuc 0) old new'
        → Renewed T ts c t (t + 4) s s' m a z b
    four_renewed put e f =
        step 4 t s s' (λ j. cell (renewed_four ts s c t) (j % 4) (j / 4)) (omega (arith, al)) left put (cells_are (new s) t (renewed_four ts s c t) (λ k r l g.
        cell_is (λ k r. renewed (row s (t + r) k) (sum_at ts c (t + k) r)) k r l g ∙ new_four s t k r al l g))
        m z a b (e ∙ ap (λ (x : ℕ). m + x) (four_total (pos 1))) (f ∙ ap (λ (x : ℕ). z + x) (four_total (negsuc 0)))

  -- ---- nothing more, one after another, all
  pub renewed_none : (t m z : ℕ) (s : List ℤ) → Left T t s → Renewed T ts c t t s s m m z z
  renewed_none t m z s left = record { left = left; rows = refl; of_multipliers = refl; of_slacks = refl }

  pub both : {t u v m m' m'' z z' z'' : ℕ} {s s' s'' : List ℤ} → Renewed T ts c t u s s' m m' z z' → Renewed T ts c u v s' s'' m' m'' z' z'' → Renewed T ts c t v s s'' m m'' z z''
  both p q = record { left = q.left; rows = q.rows ∙ p.rows; of_multipliers = q.of_multipliers ∙ p.of_multipliers; of_slacks = q.of_slacks ∙ p.of_slacks }

  pub all_done : (s : List ℤ) → length s ≡ 4 * T → renewed_from T ts c T s ≡ s
  all_done s e = tab_same (4 * T) (entry T s) (at s) (done T s) ∙ ap (λ (n : ℕ). tab n (at s)) (sym e) ∙ tab_get_or s (pos 0)

  -- ---- how large the totals get
  module _ (few : T ≤ most_triples) (unit_most : (v : ℕ) → nat_abs (at c v) ≤ unit) where
    most : (side : ℤ) → ((z : ℤ) (t r : ℕ) → r < 4 → SmallRow z → change_of side z (renewed z (sum_at ts c t r)) ≤ 4294967296) → (s : List ℤ) → Left T 0 s → changes_from T ts c side 0 s ≤ 2 ^ 47
    most side one s left =
        omega (
          arith,
          sum_ℕ_bound (4 * T - 4 * 0) 4294967296 (λ i. change side s (4 * 0 + i)) (λ i _.
              one (at s (4 * 0 + i)) (place T (4 * 0 + i) / 4) (place T (4 * 0 + i) % 4) (omega arith) (left.small (4 * 0 + i) (omega arith))),
        )

    pub totals_small : {u a b : ℕ} {s s' : List ℤ} → Left T 0 s → Renewed T ts c 0 u s s' 0 a 0 b → (a ≤ 2 ^ 47) × (b ≤ 2 ^ 47)
    totals_small {s} left r =
        (omega (arith, r.of_multipliers, most (pos 1) (multiplier_most ts c unit_most) s left), omega (arith, r.of_slacks, most (negsuc 0) (slack_most ts c unit_most) s left))

  -- ---- in the order of document 01
  module _ (s : List ℤ) where
    new_place : (i : ℕ) → i < 4 * T → new s (place T i) ≡ renewed_at ts (straight T s) c i
    new_place i h = rw ((transposed T).back i h, arranged_at (4 * T) (place T) s i h)

    pub all_straight : straight T (renewed_from T ts c 0 s) ≡ renewed_all T ts s c
    all_straight =
        tab_same (4 * T) (λ i. at (renewed_from T ts c 0 s) (place T i)) (renewed_at ts (straight T s) c) (λ i h.
        get_or_tab (4 * T) (entry 0 s) (place T i) (pos 0) ((transposed T).below i h) ∙ to_do 0 s (place T i) (omega arith) ∙ new_place i h)

    whole : (side : ℤ) (part : ℤ → ℕ) → ((z : ℤ) → multiplier (side *ℤ z) ≡ part z) → changes_from T ts c side 0 s ≡ changes part T (straight T s) (renewed_all T ts s c)
    whole side part is =
        let h : ℕ → ℕ = change side s in
        let g : ℕ → ℕ = λ i. square_of_change (part (at (straight T s) i)) (part (at (renewed_all T ts s c) i)) in
        let all : 4 * T - 4 * 0 ≡ 4 * T = omega arith in
        ap (λ (n : ℕ). sum_ℕ n (λ j. h (4 * 0 + j))) all
        ∙ sum_ℕ_same (4 * T) (λ j. h (4 * 0 + j)) h (λ j _. let e : 4 * 0 + j ≡ j = omega arith in ap h e)
        ∙ sym (sum_arranged (transposed T) h)
        ∙ sum_ℕ_same (4 * T) (λ i. h (place T i)) g (λ i l.
        rw (is (at s (place T i)), is (new s (place T i)), arranged_at (4 * T) (place T) s i l, get_or_tab (4 * T) (renewed_at ts (straight T s) c) i (pos 0) l, new_place i l))
        ∙ sym (changes_rows part T (straight T s) (renewed_all T ts s c))

    -- whether the totals of u triples tell that the run is settled
    pub settled : (x u a b : ℕ) (s' : List ℤ) → Renewed T ts c 0 u s s' 0 a 0 b → (a ≤ x → b ≤ x → u ≡ T) → 1 if (leb a x && leb b x) ≡ settled_by x T (straight T s) (renewed_all T ts s c)
    settled x u a b s' r w =
        let none : u ≡ T → (side : ℤ) → changes_from T ts c side u s' ≡ 0 = λ e side. let z : 4 * T - 4 * u ≡ 0 = omega arith in ap (λ (n : ℕ). sum_ℕ n (λ j. change side s' (4 * u + j))) z in
        let p = grown a _ _ _ r.of_multipliers (whole (pos 1) multiplier side_multiplier) in
        let q = grown b _ _ _ r.of_slacks (whole (negsuc 0) slack side_slack) in
        settled_by_lem x T a b (straight T s) (renewed_all T ts s c) p.0 q.0 (λ h k. (p.1 (none (w h k) (pos 1)), q.1 (none (w h k) (negsuc 0))))

-- ---- the loop's test: t is below n, and neither total exceeds x
pub met : (t n a b x : ℕ) → ((ltb t n && leb a x) && leb b x) ≡ true → t < n
met t n a b x h = ltb-true t n (and_left (ltb t n) (leb a x) (and_left (ltb t n && leb a x) (leb b x) h))

pub unmet : (t n a b x : ℕ) → ((ltb t n && leb a x) && leb b x) ≡ false → a ≤ x → b ≤ x → n ≤ t
unmet t n a b x h p q = ltb-false t n (and_false (ltb t n) (leb a x) (and_false (ltb t n && leb a x) (leb b x) h (le-leb b x q)) (le-leb a x p))

-- ---- the test for a blank, once for all iterations
pub none_known : (ts : List ℕ) (T : ℕ) (known : Bool) → 3 * T ≡ length ts → known ≡ without_blank ts T → Known known ts
none_known ts T known long e k t h b =
    let other : not (eqb (member ts t 2) blank) ≡ true
    = subst (λ (u : ℕ). not (eqb (member ts u 2) blank) ≡ true) (get_or_tab T (λ t. t) t 0 (omega arith))
    (every_at (λ t. not (eqb (member ts t 2) blank)) (tab T (λ t. t)) t 0 (sym e ∙ k) (omega (arith, length_tab T (λ t. t)))) in
    eqb-false (member ts t 2) blank (not-true _ other) b
