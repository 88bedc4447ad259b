-- Lists whose entries stand in another order: laws of every permutation. Assumes nothing.
use Rattle.integers.proofs.Prelude.{◌≡◌, refl, sym, ap, ◌∙◌, cond, List, ℕ, ◌<◌, eq-eqb, ne_eqb, eqb, ℤ, pos, length}
use mathlib.Core.Logic.{◌≢◌}
use Rattle.integers.specs.Sum.{sum_ℕ}
use Rattle.integers.proofs.Sums.{sum_ℕ_same, sum_ℕ_only, sum_ℕ_swap}
use Rattle.lists.specs.Tabulated.{tab}
use Rattle.lists.proofs.Tabulated.{get_or_tab, tab_same, tab_get_or}
use Rattle.model.specs.Iteration.{at}
use Rattle.model.proofs.Rows.{at_tab}
use Rattle.layout.specs.Arranged.{Permutation, arranged}

pub inverse : {n : ℕ} {f g : ℕ → ℕ} → Permutation n f g → Permutation n g f
inverse p = record { below = p.below_back; below_back = p.below; back = p.forth; forth = p.back }

-- ---- each entry
module _ (n : ℕ) (f : ℕ → ℕ) (l : List ℤ) where
  pub arranged_at : (i : ℕ) → i < n → at (arranged n f l) i ≡ at l (f i)
  arranged_at i h = get_or_tab n (λ i. at l (f i)) i (pos 0) h

  -- what holds of 0 and of all entries
  pub arranged_all : (P : ℤ → Type 0) → P (pos 0) → ((i : ℕ) → P (at l i)) → (i : ℕ) → P (at (arranged n f l) i)
  arranged_all P z h i = at_tab P n (λ i. at l (f i)) i (λ _. h (f i)) z

module _ {n : ℕ} {f g : ℕ → ℕ} (p : Permutation n f g) where
  -- ---- arranged by f, then by g: the list
  pub arranged_back : (l : List ℤ) → length l ≡ n → arranged n g (arranged n f l) ≡ l
  arranged_back l e =
      tab_same n (λ i. at (arranged n f l) (g i)) (at l) (λ i h. arranged_at n f l (g i) (p.below_back i h) ∙ ap (at l) (p.forth i h))
      ∙ ap (λ (m : ℕ). tab m (at l)) (sym e)
      ∙ tab_get_or l (pos 0)

  -- ---- a sum over all places: h of place j counts where f of i is j, which is at one i
  pub sum_arranged : (h : ℕ → ℕ) → sum_ℕ n (λ i. h (f i)) ≡ sum_ℕ n h
  sum_arranged h =
      sum_ℕ_same n (λ i. h (f i)) (λ i. sum_ℕ n (w i)) (λ i l. sym (sum_ℕ_only n (f i) (w i) (p.below i l) (λ j _ d. none i j (λ e. d (sym e))) ∙ one i (f i) refl))
      ∙ sum_ℕ_swap n n w
      ∙ sum_ℕ_same n (λ j. sum_ℕ n (λ i. w i j)) h (λ j l. sum_ℕ_only n (g j) (λ i. w i j) (p.below_back j l) (λ i m d. none i j (λ e. d (sym (p.back i m) ∙ ap g e))) ∙ one (g j) j (p.forth j l))
    where
      w : ℕ → ℕ → ℕ
      w i j = cond (eqb (f i) j) (h j) 0

      one : (i j : ℕ) → f i ≡ j → w i j ≡ h j
      one i j e = rw (eq-eqb (f i) j e)

      none : (i j : ℕ) → f i ≢ j → w i j ≡ 0
      none i j d = rw (ne_eqb (f i) j d)
