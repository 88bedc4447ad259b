-- S, as the shares of one triple after another are added. Assumes nothing.
use Rattle.integers.proofs.Prelude.{◌≡◌, refl, sym, ap, ◌∙◌, Bool, true, false, List, [], ◌∷◌, ℕ, suc, ◌+◌, ◌*◌, ◌^◌, ◌≤◌, ◌<◌, arith, eq-eqb, ne_eqb, eqb, ℤ}
use Rattle.integers.proofs.Prelude.{pos, nat_abs, ◌+ℤ◌, length, set, w32, to_z, of_z}
use mathlib.Core.Logic.{◌⊎◌, inl, inr}
use native.Mathlib.Nat.{le_trans}
use lib.IntN.{+ℤ_idr, +ℤ_assoc}
use Rattle.integers.specs.Sum.{sum_ℤ}
use Rattle.integers.proofs.Sums.{sum_ℕ_bound, sum_ℤ_bound}
use Rattle.integers.proofs.Linear.{abs_add}
use Rattle.integers.proofs.Machine.{param}
use Rattle.lists.specs.Tabulated.{tab}
use Rattle.lists.proofs.Tabulated.{length_tab, get_or_tab, tab_same, tab_set}
use Rattle.model.specs.Limits.{most_triples, most_done, most_row}
use Rattle.model.specs.Splitting.{blank, member, Members}
use Rattle.model.specs.Iteration.{at, share, ◌when◌, sum_of}
use Rattle.model.specs.Bounds.{RowsWithin}
use Rattle.model.proofs.Bounds.{row_small, share_small}
use Rattle.sums.specs.Shares.{Summed, Shared}

-- one entry is increased
pub increased : (n : ℕ) (f : ℕ → ℤ) (v : ℕ) (x : ℤ) → v < n → set (tab n f) v (f v +ℤ x) ≡ tab n (λ u. f u +ℤ (x when eqb v u))
increased n f v x h =
    tab_set n f (λ u. f u +ℤ (x when eqb v u)) v (f v +ℤ x) h
    (rw (eq-eqb v v refl)) (λ u k p. rw (ne_eqb v u (λ e. p (sym e))) (+ℤ_idr (f u)))

-- ---- how large shares and sums are
-- rows that a run reaches
pub reached : (s : List ℤ) → RowsWithin most_done s → (i : ℕ) → nat_abs (at s i) ≤ most_row
reached s w i = row_small most_done s (omega arith) w i

-- a share, as it is read
pub read_share : (s : List ℤ) (t p : ℕ) (x : ℤ) → RowsWithin most_done s → p < 3 → x ≡ share s t p → to_z w32 (of_z w32 x) ≡ share s t p
read_share s t p x w l e = (param w32 x (4 * most_row) tt (rw e (share_small s t p l (λ r. reached s w (4 * t + r))))).is ∙ e

-- the three of the last triple of a group, read from the list of shares
pub read_three : (s q : List ℤ) (t i : ℕ) → RowsWithin most_done s → Shared s t (suc i) q
    → to_z w32 (of_z w32 (at q i)) ∷ to_z w32 (of_z w32 (at q (32 + i))) ∷ to_z w32 (of_z w32 (at q (64 + i))) ∷ [] ≡ tab 3 (share s (t + i))
read_three s q t i w g =
    let one : (p j : ℕ) → p < 3 → j ≡ 32 * p + i → to_z w32 (of_z w32 (at q j)) ≡ share s (t + i) p
    = λ p j l e. read_share s (t + i) p (at q j) w l (rw e (g p i l (omega arith))) in
    rw (one 0 i (omega arith) (omega arith), one 1 (32 + i) (omega arith) (omega arith), one 2 (64 + i) (omega arith) (omega arith))

-- ---- the sums of the first t triples, and of triple t at its first p positions
module _ (ts : List ℕ) (t : ℕ) (s : List ℤ) where
  abbrev term : ℕ → ℕ → ℤ
  term u p = share s t p when eqb (member ts t p) u

  abbrev pub partly : ℕ → ℕ → ℤ
  partly p u = sum_of ts t s u +ℤ sum_ℤ p (term u)

  when_small : (b : Bool) (z : ℤ) (n : ℕ) → nat_abs z ≤ n → nat_abs (z when b) ≤ n
  when_small true z n h = h
  when_small false z n h = omega arith

  module _ (w : RowsWithin most_done s) where
    terms_small : (u p : ℕ) → p ≤ 3 → nat_abs (sum_ℤ p (term u)) ≤ p * (4 * most_row)
    terms_small u p h =
        le_trans (sum_ℤ_bound p (term u) (λ _. 4 * most_row) (λ q l. when_small (eqb (member ts t q) u) (share s t q) (4 * most_row)
        (share_small s t q (omega arith) (λ r. reached s w (4 * t + r)))))
        (sum_ℕ_bound p (4 * most_row) (λ _. 4 * most_row) (λ _ _. omega arith))

-- after all
module _ (ts : List ℕ) (s : List ℤ) (w : RowsWithin most_done s) where
  sums_small : (t u : ℕ) → nat_abs (sum_of ts t s u) ≤ t * (12 * most_row)
  unfolding sum_of
  sums_small t u =
      le_trans (sum_ℤ_bound t (λ t. sum_ℤ 3 (term ts t s u)) (λ _. 12 * most_row) (λ t _. terms_small ts t s w u 3 (omega arith)))
      (sum_ℕ_bound t (12 * most_row) (λ _. 12 * most_row) (λ _ _. omega arith))

  pub partly_small : (t p u : ℕ) → t ≤ most_triples → p ≤ 3 → nat_abs (partly ts t s p u) ≤ 2 ^ 60
  partly_small t p u h k = omega (arith, abs_add (sum_of ts t s u) (sum_ℤ p (term ts t s u)), sums_small t u, terms_small ts t s w u p k)

-- ---- a list of them
pub summed_none : {ts : List ℕ} {n : ℕ} {s : List ℤ} (l : List ℤ) → Members ts n → RowsWithin most_done s → l ≡ tab n (λ _. pos 0) → Summed ts (length l) 0 s l
unfolding sum_of
summed_none {n = n} l named w e = let f : length l ≡ n = ap length e ∙ length_tab n (λ _. pos 0) in record { named = rw f named; within = w; are = rw f e }

module _ {ts : List ℕ} {N t : ℕ} {s l : List ℤ} where
  pub summed_long : Summed ts N t s l → length l ≡ N
  summed_long g = ap length g.are ∙ length_tab N (sum_of ts t s)

  pub summed_also : Summed ts N t s l → {M u : ℕ} → N ≡ M → t ≡ u → Summed ts M u s l
  summed_also g d e = rw (← d, ← e) g

  pub partly_none : Summed ts N t s l → l ≡ tab N (partly ts t s 0)
  partly_none g = g.are ∙ tab_same N (sum_of ts t s) (partly ts t s 0) (λ u _. sym (+ℤ_idr (sum_of ts t s u)))

  pub partly_all : Summed ts N t s l → (k : List ℤ) → k ≡ tab N (partly ts t s 3) → Summed ts N (suc t) s k
  unfolding sum_of
  partly_all g k e = record { named = g.named; within = g.within; are = e }

  -- what is asked where v, the variable at position p, is given its share, and what it comes to
  module _ (g : Summed ts N t s l) (h : t < most_triples) (k : List ℤ) (p : ℕ) (e : k ≡ tab N (partly ts t s p)) (v : ℕ) (is : v ≡ member ts t p) where
    long : length k ≡ N
    long = ap length e ∙ length_tab N (partly ts t s p)

    pub may_add : p < 3 → member ts t p < N → (v < length k) × (nat_abs (at k v) ≤ 2 ^ 60)
    may_add m j =
        let below : v < N = omega arith in
        (omega (arith, long), rw (e, get_or_tab N (partly ts t s p) v (pos 0) below) (partly_small ts s g.within t p v (omega arith) (omega arith)))

    pub may_add_third : p < 3 → (member ts t p < N) ⊎ (member ts t p ≡ blank)
        → (length k ≤ blank) × ((v ≡ blank → ⊥) → (v < length k) × (nat_abs (at k v) ≤ 2 ^ 60))
    may_add_third m (inl j) = (omega (arith, long, g.named.few), λ _. may_add m j)
    may_add_third m (inr j) = (omega (arith, long, g.named.few), λ other. absurd (other (is ∙ j)))

    pub partly_next : (x : ℤ) (r : List ℤ) → x ≡ share s t p → r ≡ tab N (λ u. partly ts t s p u +ℤ (x when eqb v u)) → r ≡ tab N (partly ts t s (suc p))
    partly_next x r f c =
        c ∙ rw (f, is) (tab_same N (λ u. partly ts t s p u +ℤ term ts t s u p) (partly ts t s (suc p)) (λ u _. +ℤ_assoc (sum_of ts t s u) (sum_ℤ p (term ts t s u)) (term ts t s u p)))
