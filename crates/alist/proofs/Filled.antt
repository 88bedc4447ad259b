-- A walk over lists, number by number and list by list: what is left decides. Assumes nothing.
use Rattle.integers.proofs.Prelude.{◌≡◌, refl, sym, ap, Bool, true, false, ◌&&◌, List, [], ◌∷◌, ℕ, zero, suc, ◌+◌, ◌-◌, ◌*◌, ◌≤◌, ◌<◌, arith, add-one}
use Rattle.integers.proofs.Prelude.{ltb-true, lt-ltb, lt-leb, le-leb, ne_eqb, leb, ltb, eqb, get_or, drop, drop-drop}
use mathlib.Core.Bool.{beq}
use Rattle.lists.proofs.Tests.{same_test}
use Rattle.model.specs.Limits.{most_number}
use Rattle.model.proofs.AlistLines.{small}
use Rattle.numbers.specs.Walked.{none}
use Rattle.numbers.proofs.Walk.{first_behind, next_behind}
use Rattle.alist.specs.Form.{filled_list, filled_lists}

-- ---- one list
-- an index where the degree asks for one, otherwise 0
abbrev pub fits : ℕ → ℕ → ℕ → Bool
fits i degree x = small x && beq (ltb i degree) (ltb 0 x)

list_head : (degree most : ℕ) (l : List ℕ)
    → filled_list degree (suc most) l ≡ (fits 0 degree (get_or l 0 none) && filled_list (degree - 1) most (drop 1 l))
unfolding filled_list
list_head degree most [] = refl
list_head zero most (x ∷ l) = rw (by x)
  where
    by : (x : ℕ) → eqb x 0 ≡ beq false (ltb 0 x)
    by zero = refl
    by (suc x) = rw (ne_eqb (suc x) 0 (λ p. omega arith), lt-ltb 0 (suc x) (omega arith))
list_head (suc degree) most (x ∷ l) =
    let z : suc degree - 1 ≡ degree = omega arith in
    rw (lt-ltb 0 (suc degree) (omega arith), z) (ap (λ (t : Bool). (small x && t) && filled_list degree most l) (by (ltb 0 x)))
  where
    by : (t : Bool) → t ≡ beq true t
    by true = refl
    by false = refl

-- whether a further index is due
due : (i degree : ℕ) → ltb 0 (degree - i) ≡ ltb i degree
due i degree =
    same_test (ltb 0 (degree - i)) (ltb i degree) (λ e. lt-ltb i degree (omega (arith, ltb-true 0 (degree - i) e)))
    (λ e. lt-ltb 0 (degree - i) (omega (arith, ltb-true i degree e)))

pub list_next : (degree most i : ℕ) (l : List ℕ) → i < most
    → filled_list (degree - i) (most - i) (drop i l) ≡ (fits i degree (get_or l i none) && filled_list (degree - suc i) (most - suc i) (drop (suc i) l))
list_next degree most i l h =
    let e : most - i ≡ suc (most - suc i) = omega arith in
    let d : degree - i - 1 ≡ degree - suc i = omega arith in
    rw (e, list_head (degree - i) (most - suc i) (drop i l), due i degree, first_behind l i, next_behind l i, d)

-- what the number x at hand decides: it is none of a text, it is not as the degree asks, or it is and what is left decides
module _ (degree most i : ℕ) (l : List ℕ) (h : i < most) where
  pub list_none : most_number < get_or l i none → filled_list (degree - i) (most - i) (drop i l) ≡ false
  list_none k = rw (list_next degree most i l h, lt-leb (get_or l i none) most_number k)

  module _ {x : ℕ} (e : x ≡ get_or l i none) where
    pub list_not : beq (ltb i degree) (ltb 0 x) ≡ false → filled_list (degree - i) (most - i) (drop i l) ≡ false
    list_not k = rw (list_next degree most i l h, ← e, k) (no_more (small x))
      where
        no_more : (t : Bool) → ((t && false) && filled_list (degree - suc i) (most - suc i) (drop (suc i) l)) ≡ false
        no_more true = refl
        no_more false = refl

    pub list_more : x ≤ most_number → beq (ltb i degree) (ltb 0 x) ≡ true
        → filled_list (degree - i) (most - i) (drop i l) ≡ filled_list (degree - (i + 1)) (most - (i + 1)) (drop (i + 1) l)
    list_more k m = rw (list_next degree most i l h, ← e, le-leb x most_number k, m, add-one i)

-- a list is no longer than the largest degree
pub list_above : (degree most : ℕ) (l : List ℕ) → most < degree → filled_list degree most l ≡ false
unfolding filled_list
list_above zero most l h = absurd (omega arith)
list_above (suc d) zero l h = refl
list_above (suc d) (suc most) [] h = refl
list_above (suc d) (suc most) (x ∷ l) h = rw (list_above d most l (omega arith)) (none_more (small x && ltb 0 x))
  where
    none_more : (t : Bool) → (t && false) ≡ false
    none_more true = refl
    none_more false = refl

pub list_end : (degree most : ℕ) (l : List ℕ) → filled_list (degree - most) (most - most) l ≡ leb degree most
unfolding filled_list
list_end degree most l = let e : most - most ≡ 0 = omega arith in rw e (by (degree - most) refl)
  where
    by : (k : ℕ) → degree - most ≡ k → filled_list k 0 l ≡ leb degree most
    by zero p = sym (le-leb degree most (omega arith))
    by (suc k) p = sym (lt-leb degree most (omega arith))

-- ---- the lists of a side
pub lists_next : (count most i : ℕ) (ds l : List ℕ) → i < count
    → filled_lists (count - i) most (drop i ds) (drop (i * most) l)
    ≡ (filled_list (get_or ds i none) most (drop (i * most) l) && filled_lists (count - suc i) most (drop (suc i) ds) (drop (suc i * most) l))
unfolding filled_lists
lists_next count most i ds l h =
    let e : count - i ≡ suc (count - suc i) = omega arith in
    let m : i * most + most ≡ suc i * most = omega arith in
    rw (e, first_behind ds i, next_behind ds i, drop-drop most (i * most) l, m)

-- what the list at hand decides: its degree is none of a text, it is not so, or it is and those that are left decide
module _ (count most i : ℕ) (ds l : List ℕ) (h : i < count) where
  pub lists_none : most ≤ most_number → most_number < get_or ds i none → filled_lists (count - i) most (drop i ds) (drop (i * most) l) ≡ false
  lists_none m k = rw (lists_next count most i ds l h, list_above (get_or ds i none) most (drop (i * most) l) (omega arith))

  module _ {degree : ℕ} {k : List ℕ} (d : degree ≡ get_or ds i none) (e : k ≡ drop (i * most) l) where
    pub lists_not : filled_list degree most k ≡ false → filled_lists (count - i) most (drop i ds) (drop (i * most) l) ≡ false
    lists_not f = rw (lists_next count most i ds l h, ← d, ← e, f)

    pub lists_more : filled_list degree most k ≡ true
        → filled_lists (count - i) most (drop i ds) (drop (i * most) l) ≡ filled_lists (count - (i + 1)) most (drop (i + 1) ds) (drop ((i + 1) * most) l)
    lists_more f = rw (lists_next count most i ds l h, ← d, ← e, f, add-one i)

    pub lists_behind : drop most k ≡ drop ((i + 1) * most) l
    lists_behind = let m : i * most + most ≡ (i + 1) * most = omega arith in rw (e, drop-drop most (i * most) l, m)

pub lists_end : (count most i : ℕ) (ds l : List ℕ) → count ≤ i → filled_lists (count - i) most ds l ≡ true
unfolding filled_lists
lists_end count most i ds l h = let e : count - i ≡ 0 = omega arith in rw e
