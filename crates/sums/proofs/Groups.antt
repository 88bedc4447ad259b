-- The shares of triples, by the rows as they stand while a run goes. Assumes nothing.
use Rattle.integers.proofs.Prelude.{◌≡◌, refl, sym, ap, ◌∙◌, Bool, true, false, List, ℕ, suc, ◌+◌, ◌-◌, ◌*◌, ◌%◌, ◌≤◌, ◌<◌, arith, ltb-true, ltb-false}
use Rattle.integers.proofs.Prelude.{ltb, ℤ, pos, nat_abs, ◌*ℤ◌, length, sets, w32, to_z, of_z}
use mathlib.Core.Logic.{◌⊎◌, inl, inr}
use lib.Seq.{length-sets}
use Rattle.integers.specs.Sum.{sum_ℤ}
use Rattle.integers.proofs.Sums.{sum_ℤ_same}
use Rattle.integers.proofs.Machine.{param}
use Rattle.lists.specs.Tabulated.{tab}
use Rattle.lists.proofs.Tabulated.{get_or_tab, tab_same, sets_at}
use Rattle.model.specs.Limits.{most_done, most_row}
use Rattle.model.specs.Splitting.{member}
use Rattle.model.specs.Iteration.{at, row, sign, slack, multiplier, share}
use Rattle.model.specs.Bounds.{RowsWithin}
use Rattle.model.proofs.Rows.{at_tab}
use Rattle.layout.specs.Transposed.{lane, straight}
use Rattle.layout.proofs.Places.{straight_first, straight_four}
use Rattle.sums.specs.Shares.{Copied, Shared, Group, InFours}
use Rattle.model.proofs.Bounds.{share_small}
use Rattle.sums.proofs.Sums.{reached}

-- what `rows::shares` forms of four rows
abbrev pub formed : List ℤ → List ℤ
formed q = tab 3 (λ p. sum_ℤ 4 (λ r. sign r p *ℤ pos (slack (at q r) + multiplier (at q r))))

-- the share of four rows that are those of triple t in s
share_is : (q s : List ℤ) (t p : ℕ) → ((r : ℕ) → r < 4 → at q r ≡ row s t r) → share q 0 p ≡ share s t p
unfolding share
share_is q s t p h =
    let signed : ℕ → ℤ → ℤ = λ r z. sign r p *ℤ pos (slack z + multiplier z) in
    sum_ℤ_same 4 (λ r. signed r (at q r)) (λ r. signed r (row s t r)) (λ r l. ap (signed r) (h r l))

-- what was formed, as it is read
pub read_formed : (q x : List ℤ) (p : ℕ) → ((r : ℕ) → nat_abs (at q r) ≤ most_row) → p < 3 → x ≡ formed q → to_z w32 (of_z w32 (at x p)) ≡ share q 0 p
unfolding share
read_formed q x p h l e =
    let is : at x p ≡ share q 0 p = ap (λ (k : List ℤ). at k p) e ∙ get_or_tab 3 (share q 0) p (pos 0) l in
    (param w32 (at x p) (4 * most_row) tt (rw is (share_small q 0 p l (λ r. h (4 * 0 + r))))).is ∙ is

module _ (T : ℕ) (s : List ℤ) where
  -- one of the first triples
  pub first_formed : (t : ℕ) (q : List ℤ) → t < T % 4 → q ≡ tab 4 (λ r. row s t r) → formed q ≡ tab 3 (share (straight T s) t)
  unfolding share
  first_formed t q h e =
      tab_same 3 (share q 0) (share (straight T s) t) (λ p _. share_is q (straight T s) t p
      (λ r l. ap (λ (k : List ℤ). at k r) e ∙ get_or_tab 4 (λ r. row s t r) r (pos 0) l ∙ sym (straight_first T s (4 * t + r) (omega arith))))

  -- triple k of the four from t on
  pub lane_share : (t k p : ℕ) → InFours T t 4 → k < 4 → share (lane s t k) 0 p ≡ share (straight T s) (t + k) p
  lane_share t k p f l =
      share_is (lane s t k) (straight T s) (t + k) p
      (λ r m. get_or_tab 4 (λ r. row s (t + r) k) r (pos 0) m ∙ sym (straight_four T s t k r f.first f.whole (omega (arith, f.room)) l m))

module _ (s : List ℤ) (w : RowsWithin most_done s) where
  pub four_small : (f : ℕ → ℕ) (q : List ℤ) → q ≡ tab 4 (λ r. at s (f r)) → (r : ℕ) → nat_abs (at q r) ≤ most_row
  four_small f q e r = rw e (at_tab (λ z. nat_abs z ≤ most_row) 4 (λ r. at s (f r)) r (λ _. reached s w (f r)) (omega arith))

-- ---- the shares of four b of the triples from t on are stored, one position after the other
-- those of the first r positions are stored
abbrev Stored : List ℤ → ℕ → ℕ → ℕ → List ℤ → Type 0
Stored s t b r q = (p i : ℕ) → p < 3 → i < 4 * (b + 1) → (p < r) ⊎ (i < 4 * b) → at q (32 * p + i) ≡ share s (t + i) p

module _ (s : List ℤ) (t b : ℕ) (few : b < 8) (r : ℕ) (one : r < 3) (n : ℕ) (place : n ≡ 32 * r + 4 * b) (f : ℕ → ℤ)
    (are : (k : ℕ) → k < 4 → f k ≡ share s (t + (4 * b + k)) r) where
  stored_next : (q : List ℤ) → length q ≡ 96 → Stored s t b r q → Stored s t b (suc r) (sets q n (tab 4 f))
  stored_next q long g p i hp hi due =
      sets_at (λ z. z ≡ share s (t + i) p) (pos 0) (32 * p + i) 4 n f q (omega (arith, place, long))
      (λ k m e.
      let x : p ≡ r = omega (arith, place, e) in
      let y : i ≡ 4 * b + k = omega (arith, place, e) in
      rw (x, y) (are k m))
      (λ out. g p i hp hi (still due (λ x. omega (arith, place, out (i - 4 * b) (omega arith)))))
    where
      split : (c : Bool) → ltb p r ≡ c → p < suc r → (p ≡ r → i < 4 * b) → (p < r) ⊎ (i < 4 * b)
      split true e h old = inl (ltb-true p r e)
      split false e h old = inr (old (omega (arith, ltb-false p r e)))

      still : (p < suc r) ⊎ (i < 4 * b) → (p ≡ r → i < 4 * b) → (p < r) ⊎ (i < 4 * b)
      still (inl h) old = split (ltb p r) refl h old
      still (inr h) old = inr h

-- all three
pub shared_next : (s : List ℤ) (t b : ℕ) (f : ℕ → ℕ → ℤ) → b < 8 → ((p k : ℕ) → p < 3 → k < 4 → f p k ≡ share s (t + (4 * b + k)) p)
    → (q x y z : List ℤ) → length q ≡ 96 → Shared s t (4 * b) q
    → x ≡ sets q (4 * b) (tab 4 (f 0)) → y ≡ sets x (4 * (8 + b)) (tab 4 (f 1)) → z ≡ sets y (4 * (16 + b)) (tab 4 (f 2)) → Shared s t (4 * (b + 1)) z
shared_next s t b f few are q x y z long g ex ey ez p i hp hi =
    let one = put 0 (omega arith) (4 * b) (omega arith) q x long ex none in
    let two = put 1 (omega arith) (4 * (8 + b)) (omega arith) x y one.0 ey one.1 in
    (put 2 (omega arith) (4 * (16 + b)) (omega arith) y z two.0 ez two.1).1 p i hp hi (inl hp)
  where
    put : (r : ℕ) → r < 3 → (n : ℕ) → n ≡ 32 * r + 4 * b → (k l : List ℤ) → length k ≡ 96 → l ≡ sets k n (tab 4 (f r)) → Stored s t b r k
        → (length l ≡ 96) × Stored s t b (suc r) l
    put r h n e k l long is old = rw is (length-sets k n (tab 4 (f r)) ∙ long, stored_next s t b few r h n e (f r) (λ i m. are r i h m) k long old)

    none : Stored s t b 0 q
    none p i hp hi (inl h) = absurd (omega arith)
    none p i hp hi (inr h) = g p i hp h

-- ---- triple t + i is copied
pub copied_next : (ts : List ℕ) (t i : ℕ) (us : List ℕ) → 3 * i + 3 ≤ length us → Copied ts t i us → Copied ts t (suc i) (sets us (3 * i) (tab 3 (member ts (t + i))))
copied_next ts t i us room g j hj p hp =
    sets_at (λ z. z ≡ member ts (t + j) p) 0 (3 * j + p) 3 (3 * i) (member ts (t + i)) us (omega arith)
    (λ q m e.
    let x : j ≡ i = omega arith in
    let y : p ≡ q = omega arith in
    rw (x, y))
    (λ out. g j (omega (arith, out p hp)) p hp)

-- fewer of a group
pub group_fewer : {ts : List ℕ} {s : List ℤ} {t n : ℕ} {us : List ℕ} {q : List ℤ} → Group ts s t n us q → (m : ℕ) → m ≤ n → Group ts s t m us q
group_fewer g m h = record {
  few = omega (arith, g.few);
  room = omega (arith, g.room);
  copied = λ i k. g.copied i (omega arith);
  shared = λ p i l k. g.shared p i l (omega arith);
}
