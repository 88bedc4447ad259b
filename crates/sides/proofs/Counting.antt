-- One more at each bit of a check, and a number put at each bit's place: bit by bit. Assumes nothing.
use Rattle.integers.proofs.Prelude.{◌≡◌, refl, sym, ap, ◌∙◌, false, List, [], ◌∷◌, ◌++◌, ℕ, ◌+◌, ◌≤◌, ◌<◌, arith, add-one, eq-eqb, ne_eqb, eqb, length, get_or}
use Rattle.integers.proofs.Prelude.{take, set, length-set, length-take-le, take-suc, get_or-take}
use Rattle.lists.specs.Entries.{some}
use Rattle.lists.proofs.Tabulated.{length_tab, get_or_tab, tab_same, tab_get_or, tab_set}
use Rattle.lists.proofs.Entries.{some_last, none_in}
use Rattle.model.specs.Sound.{Rising}
use Rattle.model.proofs.Sound.{rising_below, rising_apart}
use Rattle.sides.specs.Columns.{has, counted, placed}

-- ---- the counts
pub counted_none : (l : List ℕ) → counted [] l ≡ l
counted_none l = tab_same (length l) (λ b. get_or l b 0 + 0) (λ b. get_or l b 0) (λ b h. omega arith) ∙ tab_get_or l 0

pub counted_at : (c l : List ℕ) (b : ℕ) → b < length l → get_or (counted c l) b 0 ≡ get_or l b 0 + has b c
counted_at c l b h = get_or_tab (length l) (λ b. get_or l b 0 + has b c) b 0 h

pub length_counted : (c l : List ℕ) → length (counted c l) ≡ length l
length_counted c l = length_tab (length l) (λ b. get_or l b 0 + has b c)

-- the first i bits of a check c are counted in k, which was l, and x is the next
pub record Turn (n : ℕ) (c l k : List ℕ) (i x : ℕ) : Type 0 where
  pub rising : Rising n 0 c
  pub room : n ≤ length l
  pub below : i < length c
  pub so_far : k ≡ counted (take i c) l
  pub is : x ≡ get_or c i 0

module _ {n : ℕ} {c l k : List ℕ} {i x : ℕ} (t : Turn n c l k i x) where
  pub turn_bit : x < n
  turn_bit = omega (arith, rising_below n 0 c t.rising i t.below, t.is)

  inside : x < length l
  inside = omega (arith, turn_bit, t.room)

  pub turn_entry : x < length k
  turn_entry = omega (arith, inside, ap length t.so_far, length_counted (take i c) l)

  -- bits rise, so this one is new
  new : some (eqb x) (take i c) ≡ false
  new =
      none_in (eqb x) (take i c) 0
      (λ k m.
      let o : k < i = omega (arith, length-take-le i c (omega (arith, t.below))) in
      rw (get_or-take i c k 0 o) (ne_eqb x (get_or c k 0) (λ e. omega (arith, rising_apart n 0 c t.rising k i o t.below, t.is))))

  pub turn_value : get_or k x 0 ≡ get_or l x 0
  turn_value = ap (λ (m : List ℕ). get_or m x 0) t.so_far ∙ counted_at (take i c) l x inside ∙ rw new (omega arith)

  pub turn_next : (v : ℕ) → v ≡ get_or k x 0 + 1 → set k x v ≡ counted (take (i + 1) c) l
  turn_next v e =
      ap (λ (m : List ℕ). set m x v) t.so_far
      ∙ rw (add-one i, take-suc c i 0 t.below, ← t.is)
      (tab_set (length l) (λ b. get_or l b 0 + has b (take i c)) (λ b. get_or l b 0 + has b (take i c ++ (x ∷ []))) x v inside
      (rw (some_last (eqb x) (take i c) x, eq-eqb x x refl) (sym (e ∙ ap (λ (m : ℕ). m + 1) turn_value)))
      (λ u k p. rw (some_last (eqb u) (take i c) x, ne_eqb u x p)))

-- ---- the places
pub length_placed : (j : ℕ) (next c e : List ℕ) → length (placed j next c e) ≡ length e
length_placed j next [] e = refl
length_placed j next (b ∷ c) e = length_placed j next c (set e (get_or next b 0) j) ∙ length-set e (get_or next b 0) j

placed_last : (j : ℕ) (next c e : List ℕ) (x : ℕ) → placed j next (c ++ (x ∷ [])) e ≡ set (placed j next c e) (get_or next x 0) j
placed_last j next [] e x = refl
placed_last j next (b ∷ c) e x = placed_last j next c (set e (get_or next b 0) j) x

pub placed_next : (j : ℕ) (next c e : List ℕ) (i x : ℕ) → i < length c → x ≡ get_or c i 0
    → set (placed j next (take i c) e) (get_or next x 0) j ≡ placed j next (take (i + 1) c) e
placed_next j next c e i x h k = rw (add-one i, take-suc c i 0 h, ← k) (sym (placed_last j next (take i c) e x))
