-- Numbers are well formed exactly when their parts are as a walk finds them, one after the other. Assumes nothing.
use Rattle.integers.proofs.Prelude.{◌≡◌, refl, sym, ap, subst, true, false, ◌&&◌, List, [], ◌∷◌, ℕ, zero, suc, ◌+◌, ◌*◌, ◌≤◌, arith}
use Rattle.integers.proofs.Prelude.{eqb-true, eq-eqb, T, ltb, eqb, length, get_or, take, drop, length-drop, drop_of_length-le}
use Rattle.lists.specs.Entries.{every}
use Rattle.lists.proofs.Tests.{and_left, and_right, and_both, fails}
use Rattle.model.specs.Alist.{pieces, column_degrees, row_degrees, column_lists, row_lists, number_count, largest, filled, all_filled}
use Rattle.model.specs.Alist.{well_formed}
use Rattle.model.proofs.AlistLines.{small}
use Rattle.model.proofs.AlistParts.{form_parts}
use Rattle.numbers.specs.Walked.{Small}
use Rattle.numbers.proofs.Walk.{small_none, small_cons, small_join, small_front, small_behind, small_all}
use Rattle.alist.specs.Form.{filled_list, filled_lists}

-- ---- one list
list_says : (d most : ℕ) (l : List ℕ) → filled_list d most l ≡ true → Small most l × (filled d (take most l) ≡ true)
unfolding filled_list
list_says zero zero l h = (small_none l, refl)
list_says (suc d) zero l h = absurd (subst T (sym h) tt)
list_says d (suc most) [] h = absurd (subst T (sym h) tt)
list_says zero (suc most) (x ∷ l) h =
    let e = and_left (small x && eqb x 0) (filled_list 0 most l) h in
    let more = list_says zero most l (and_right (small x && eqb x 0) (filled_list 0 most l) h) in
    (small_cons most x l (and_left (small x) (eqb x 0) e) more.0, and_both (eqb x 0) (filled 0 (take most l)) (and_right (small x) (eqb x 0) e) more.1)
list_says (suc d) (suc most) (x ∷ l) h =
    let e = and_left (small x && ltb 0 x) (filled_list d most l) h in
    let more = list_says d most l (and_right (small x && ltb 0 x) (filled_list d most l) h) in
    (small_cons most x l (and_left (small x) (ltb 0 x) e) more.0, and_both (ltb 0 x) (filled d (take most l)) (and_right (small x) (ltb 0 x) e) more.1)

says_list : (d most : ℕ) (l : List ℕ) → Small most l → filled d (take most l) ≡ true → filled_list d most l ≡ true
unfolding filled_list
says_list zero zero l s h = refl
says_list (suc d) zero l s h = h
says_list d (suc most) [] s h = absurd (omega (arith, s.long))
says_list zero (suc most) (x ∷ l) s h =
    let front = s.small in
    let more = says_list zero most l (record { long = omega (arith, s.long); small = and_right (small x) (every small (take most l)) front })
    (and_right (eqb x 0) (filled 0 (take most l)) h) in
    rw (and_left (small x) (every small (take most l)) front, and_left (eqb x 0) (filled 0 (take most l)) h) more
says_list (suc d) (suc most) (x ∷ l) s h =
    let front = s.small in
    let more = says_list d most l (record { long = omega (arith, s.long); small = and_right (small x) (every small (take most l)) front })
    (and_right (ltb 0 x) (filled d (take most l)) h) in
    rw (and_left (small x) (every small (take most l)) front, and_left (ltb 0 x) (filled d (take most l)) h) more

-- ---- the lists of a side, one for each degree
pub lists_say : (count most : ℕ) (ds l : List ℕ) → count ≤ length ds → filled_lists count most ds l ≡ true
    → Small (count * most) l × (all_filled (take count ds) (pieces count most l) ≡ true)
unfolding filled_lists
lists_say zero most ds l k h = let z : 0 * most ≡ 0 = omega arith in (rw z (small_none l), refl)
lists_say (suc count) most [] l k h = absurd (omega arith)
lists_say (suc count) most (d ∷ ds) l k h =
    let test = filled_list d most l in
    let tests = filled_lists count most ds (drop most l) in
    let one = list_says d most l (and_left test tests h) in
    let more = lists_say count most ds (drop most l) (omega arith) (and_right test tests h) in
    let e : suc count * most ≡ most + count * most = omega arith in
    (rw e (small_join most (count * most) l one.0 more.0), rw one.1 more.1)

say_lists : (count most : ℕ) (ds l : List ℕ) → count ≤ length ds → every small l ≡ true → count * most ≤ length l
    → all_filled (take count ds) (pieces count most l) ≡ true → filled_lists count most ds l ≡ true
unfolding filled_lists
say_lists zero most ds l k s n h = refl
say_lists (suc count) most [] l k s n h = absurd (omega arith)
say_lists (suc count) most (d ∷ ds) l k s n h =
    let test = filled d (take most l) in
    let tests = all_filled (take count ds) (pieces count most (drop most l)) in
    let e : suc count * most ≡ most + count * most = omega arith in
    let room : count * most ≤ length (drop most l) = omega (arith, length-drop most l) in
    rw (says_list d most l (small_front most l s (omega arith)) (and_left test tests h))
    (say_lists count most ds (drop most l) (omega arith) (small_behind most l s) room (and_right test tests h))

-- ---- the parts of the numbers l
pub record Parts (l : List ℕ) : Type 0 where
  pub sizes : Small 4 l
  pub degrees_of_columns : Small (get_or l 0 0) (column_degrees l)
  pub column_most : get_or l 2 0 ≡ largest (take (get_or l 0 0) (column_degrees l))
  pub degrees_of_rows : Small (get_or l 1 0) (row_degrees l)
  pub row_most : get_or l 3 0 ≡ largest (take (get_or l 1 0) (row_degrees l))
  pub lists_of_columns : filled_lists (get_or l 0 0) (get_or l 2 0) (column_degrees l) (column_lists l) ≡ true
  pub lists_of_rows : filled_lists (get_or l 1 0) (get_or l 3 0) (row_degrees l) (row_lists l) ≡ true
  pub none_left : drop (get_or l 1 0 * get_or l 3 0) (row_lists l) ≡ []

module _ (l : List ℕ) where
  abbrev n : ℕ
  n = get_or l 0 0

  abbrev m : ℕ
  m = get_or l 1 0

  abbrev c : ℕ
  c = get_or l 2 0

  abbrev r : ℕ
  r = get_or l 3 0

  pub parts_of : well_formed l ≡ true → Parts l
  parts_of h =
      let f = form_parts l h in
      let s0 = f.0 in
      let long = f.1 in
      let c_most = eqb c (largest (take n (column_degrees l))) in
      let c_lists = all_filled (take n (column_degrees l)) (pieces n c (column_lists l)) in
      let r_most = eqb r (largest (take m (row_degrees l))) in
      let r_lists = all_filled (take m (row_degrees l)) (pieces m r (row_lists l)) in
      let s1 = small_behind 4 l s0 in
      let s2 = small_behind n (column_degrees l) s1 in
      let s3 = small_behind m (row_degrees l) s2 in
      let s4 = small_behind (n * c) (column_lists l) s3 in
      let l1 = length-drop 4 l in
      let l2 = length-drop n (column_degrees l) in
      let l3 = length-drop m (row_degrees l) in
      let l4 = length-drop (n * c) (column_lists l) in
      record {
        sizes = small_front 4 l s0 (omega arith);
        degrees_of_columns = small_front n (column_degrees l) s1 (omega arith);
        column_most = eqb-true c _ (and_left c_most c_lists f.2);
        degrees_of_rows = small_front m (row_degrees l) s2 (omega arith);
        row_most = eqb-true r _ (and_left r_most r_lists f.3);
        lists_of_columns = say_lists n c (column_degrees l) (column_lists l) (omega arith) s3 (omega arith) (and_right c_most c_lists f.2);
        lists_of_rows = say_lists m r (row_degrees l) (row_lists l) (omega arith) s4 (omega arith) (and_right r_most r_lists f.3);
        none_left = drop_of_length-le (row_lists l) {i = m * r} (omega arith);
      }

pub well_formed_lem : (l : List ℕ) → Parts l → well_formed l ≡ true
unfolding well_formed
well_formed_lem l p =
    let rl = lists_say _ _ _ _ p.degrees_of_rows.long p.lists_of_rows in
    let cl = lists_say _ _ _ _ p.degrees_of_columns.long p.lists_of_columns in
    let a4 = small_all _ _ rl.0 (ap (every small) p.none_left) in
    let a3 = small_all _ _ cl.0 a4.0 in
    let a2 = small_all _ _ p.degrees_of_rows a3.0 in
    let a1 = small_all _ _ p.degrees_of_columns a2.0 in
    let a0 = small_all _ _ p.sizes a1.0 in
    let long : length l ≡ number_count l = omega (arith, a0.1, a1.1, a2.1, a3.1, a4.1, ap length p.none_left) in
    rw (a0.0, eq-eqb (length l) (number_count l) long, eq-eqb _ _ p.column_most, cl.1, eq-eqb _ _ p.row_most, rl.1)

-- where a part is not so, the numbers are not well formed
pub not_formed : (l : List ℕ) → (Parts l → ⊥) → well_formed l ≡ false
not_formed l h = fails (well_formed l) (λ e. h (parts_of l e))
