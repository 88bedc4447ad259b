-- How large a value is; a range of a list, as its entries are written one by one. Assumes nothing.
use Rattle.integers.proofs.Prelude.{◌≡◌, ap, ◌∙◌, List, ℕ, zero, suc, ◌+◌, ◌-◌, ◌*◌, ◌≤◌, arith, ℤ, nat_abs, length, get_or, set, sets, to_z, of_z, to_z-of_z}
use mir.Syntax.{Width}
use mir.Val.{SFits}
use Rattle.lists.specs.Tabulated.{tab}
use Rattle.lists.proofs.Tabulated.{tab_same, over_sets, over_whole}
use Rattle.quotient.specs.Quotient.{unit}
use Rattle.quotient.proofs.Laws.{quotient_range}
use Rattle.model.specs.Iteration.{at, numerator, divisor}
use Rattle.model.proofs.Rows.{at_tab}
use Rattle.values.specs.Values.{value_from}

pub value_small : (S : List ℤ) (counts : List ℕ) (costs : List ℤ) (W A n v : ℕ) → nat_abs (at (tab n (value_from S counts costs W A)) v) ≤ unit
value_small S counts costs W A n v =
    at_tab (λ z. nat_abs z ≤ unit) n (value_from S counts costs W A) v
    (λ _. quotient_range (numerator W (at S v) (at costs v)) (divisor (4 * get_or counts v 0) A)) (omega arith)

module _ {A : Type 0} where
  -- one store behind k of them, from n on
  pub sets_next : (k n : ℕ) (f : ℕ → A) (l : List A) → set (sets l n (tab k f)) (n + k) (f k) ≡ sets l n (tab (suc k) f)
  sets_next zero n f l = let e : n + 0 ≡ n = omega arith in ap (λ (i : ℕ). set l i (f 0)) e
  sets_next (suc k) n f l =
      let e : n + suc k ≡ suc n + k = omega arith in
      ap (λ (i : ℕ). set (sets (set l n (f 0)) (suc n) (tab k (λ i. f (suc i)))) i (f (suc k))) e ∙ sets_next k (suc n) (λ i. f (suc i)) (set l n (f 0))

  -- the first n entries, and then those behind them
  sets_both : (n : ℕ) (f : ℕ → A) (l : List A) → n ≤ length l
      → sets (sets l 0 (tab (n - 0) (λ i. f (0 + i)))) n (tab (length l - n) (λ i. f (n + i))) ≡ tab (length l) f
  sets_both n f l h =
      let z : n - 0 ≡ n = omega arith in
      let o : 0 + n ≡ n = omega arith in
      let e : n + (length l - n) ≡ length l = omega arith in
      rw (z, over_sets n 0 f l (omega arith), o, over_sets (length l - n) n f l (omega arith), e) (over_whole (length l) f l (omega arith))

  -- f's entries, where behind the first n they came as g's
  pub both_ranges : (f g : ℕ → A) (n : ℕ) (old k l : List A) → n ≤ length old → ((i : ℕ) → g (n + i) ≡ f (n + i))
      → k ≡ sets old 0 (tab (n - 0) (λ i. f (0 + i))) → l ≡ sets k n (tab (length old - n) (λ i. g (n + i))) → l ≡ tab (length old) f
  both_ranges f g n old k l h same first second =
      second
      ∙ rw (first) (ap (sets (sets old 0 (tab (n - 0) (λ i. f (0 + i)))) n) (tab_same (length old - n) (λ i. g (n + i)) (λ i. f (n + i)) (λ i _. same i)))
      ∙ sets_both n f old h

-- the entry v of the range from n on, as a call gives it
pub range_next : (w : Width) (n v : ℕ) (f : ℕ → ℤ) (l : List ℤ) (r : ℤ) → n ≤ v → SFits w r → r ≡ f v
    → set (sets l n (tab (v - n) (λ i. f (n + i)))) v (to_z w (of_z w r)) ≡ sets l n (tab (v + 1 - n) (λ i. f (n + i)))
range_next w n v f l r h k e =
    let d : n + (v - n) ≡ v = omega arith in
    let m : v + 1 - n ≡ suc (v - n) = omega arith in
    rw (to_z-of_z k ∙ e, m) (rw d at (sets_next (v - n) n (λ i. f (n + i)) l))
