-- Lists of counters: sums, zeros, and lists that are more than others. Assumes nothing.
use Rattle.integers.proofs.Prelude.{◌≡◌, refl, sym, ap, ◌∙◌, Bool, true, false, cond, List, [], ◌∷◌, ◌++◌, ℕ, zero, suc, ◌+◌, ◌-◌, ◌≤◌, ◌<◌, arith, eqb}
use Rattle.integers.proofs.Prelude.{eqb-true, eqb-false, length, get_or, take, drop, set, length-set, get_or-drop}
use lib.ListN.{replicate}
use lib.Seq.{get_or-set_same, get_or-set_other}
use Rattle.lists.specs.Entries.{sum}
use Rattle.model.specs.Causes.{◌if◌}
use Rattle.places.specs.Counters.{Tells, More, Above, Zeros}

-- ---- sums
pub sum_set : (l : List ℕ) (i x : ℕ) → i < length l → sum (set l i x) + get_or l i 0 ≡ sum l + x
sum_set [] i x h = absurd (omega arith)
sum_set (y ∷ l) zero x h = omega arith
sum_set (y ∷ l) (suc i) x h = omega (arith, sum_set l i x (omega arith))

pub sum_at : (l : List ℕ) (i : ℕ) → get_or l i 0 ≤ sum l
sum_at [] i = omega arith
sum_at (y ∷ l) zero = omega arith
sum_at (y ∷ l) (suc i) = omega (arith, sum_at l i)

pub sum_none : (l : List ℕ) → ((i : ℕ) → i < length l → get_or l i 0 ≡ 0) → sum l ≡ 0
sum_none [] h = refl
sum_none (y ∷ l) h = omega (arith, h 0 (omega arith), sum_none l (λ i k. h (suc i) (omega arith)))

-- ---- zeros
pub zeros_at : (n : ℕ) → Zeros (replicate n 0)
zeros_at zero p = refl
zeros_at (suc n) zero = refl
zeros_at (suc n) (suc p) = zeros_at n p

pub zeros_sum : (l : List ℕ) → Zeros l → sum l ≡ 0
zeros_sum l h = sum_none l (λ i k. h i)

pub zeros_take : (n : ℕ) (l : List ℕ) → Zeros l → Zeros (take n l)
zeros_take zero l h p = refl
zeros_take (suc n) [] h p = refl
zeros_take (suc n) (x ∷ l) h zero = h 0
zeros_take (suc n) (x ∷ l) h (suc p) = zeros_take n l (λ i. h (suc i)) p

-- a part that was lent, n counters long, comes back as k
pub zeros_back : (n : ℕ) (l k : List ℕ) → Zeros l → Zeros k → Zeros (k ++ drop n l)
zeros_back n l k h z = both k (drop n l) z (λ p. get_or-drop n l p 0 ∙ h (n + p))
  where
    both : (k m : List ℕ) → Zeros k → Zeros m → Zeros (k ++ m)
    both [] m z h p = h p
    both (x ∷ k) m z h zero = z 0
    both (x ∷ k) m z h (suc p) = both k m (λ i. z (suc i)) h p

-- ---- counters that are more
module _ (l : List ℕ) (i : ℕ) where
  set_at : (x p : ℕ) → p < length l → get_or (set l i x) p 0 ≡ cond (eqb p i) x (get_or l p 0)
  set_at x p h = by (eqb p i) refl
    where
      by : (t : Bool) → eqb p i ≡ t → get_or (set l i x) p 0 ≡ cond t x (get_or l p 0)
      by true e = rw (eqb-true p i e) (get_or-set_same l i x 0 (omega (arith, eqb-true p i e)))
      by false e = get_or-set_other l i p x 0 (eqb-false p i e)

  -- by one, at i
  pub more_up : More (λ p. 1 if eqb p i) l (set l i (get_or l i 0 + 1))
  more_up = record { long = length-set l i (get_or l i 0 + 1); each = λ p h. set_at (get_or l i 0 + 1) p h ∙ by p (eqb p i) refl }
    where
      by : (p : ℕ) (t : Bool) → eqb p i ≡ t → cond t (get_or l i 0 + 1) (get_or l p 0) ≡ get_or l p 0 + 1 if t
      by p true e = rw (eqb-true p i e)
      by p false e = omega arith

  pub more_down : 0 < get_or l i 0 → More (λ p. 1 if eqb p i) (set l i (get_or l i 0 - 1)) l
  more_down k = record {
    long = sym (length-set l i (get_or l i 0 - 1));
    each = λ p h.
        let j : p < length l = omega (arith, length-set l i (get_or l i 0 - 1)) in
        by p (eqb p i) refl ∙ ap (λ (n : ℕ). n + 1 if eqb p i) (sym (set_at (get_or l i 0 - 1) p j));
  }
    where
      by : (p : ℕ) (t : Bool) → eqb p i ≡ t → get_or l p 0 ≡ cond t (get_or l i 0 - 1) (get_or l p 0) + 1 if t
      by p true e = rw (eqb-true p i e) (omega arith)
      by p false e = omega arith

pub more_none : (f : ℕ → ℕ) (l : List ℕ) → ((p : ℕ) → p < length l → f p ≡ 0) → More f l l
more_none f l h = record { long = refl; each = λ p k. omega (arith, h p k) }

pub more_then : (f g h : ℕ → ℕ) {l m n : List ℕ} → More f l m → More g m n → ((p : ℕ) → p < length l → h p ≡ f p + g p) → More h l n
more_then f g h a b e = record {
  long = b.long ∙ a.long;
  each = λ p k. omega (arith, a.each p k, b.each p (omega (arith, a.long)), e p k);
}

-- ---- what the counters tell at the end
module _ (f : ℕ → ℕ) (old : List ℕ) where
  abbrev Equal : Type 0
  Equal = (p : ℕ) → p < length old → get_or old p 0 ≡ f p

  pub above_tells : Above f old → Tells false Equal
  above_tells (p, h, k) = record { so = λ e. let z : ◌≡◌ {A = ℕ} 0 1 = cc in absurd (omega arith); not_so = λ _ e. omega (arith, e p h) }

  module _ (now : List ℕ) (n : ℕ) (m : More f now old) (e : n ≡ sum now) where
    pub end_tells : Tells (eqb n 0) Equal
    end_tells = record {
      so = λ z p h. omega (arith, eqb-true n 0 z, m.each p (omega (arith, m.long)), sum_at now p);
      not_so = λ z h.
          let none : sum now ≡ 0 = sum_none now (λ p k. omega (arith, m.each p k, h p (omega (arith, m.long)))) in
          eqb-false n 0 z (e ∙ none);
    }

    pub end_zeros : eqb n 0 ≡ true → Zeros now
    end_zeros z p = omega (arith, eqb-true n 0 z, sum_at now p)
