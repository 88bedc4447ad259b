-- Counts that grow with the triples. Assumes nothing.
use Rattle.integers.proofs.Prelude.{◌≡◌, refl, sym, ap, ◌∙◌, List, ◌++◌, ℕ, zero, suc, ◌+◌, ◌*◌, ◌≤◌, ◌<◌, arith, add-one, add-two, eq-eqb, ne_eqb, eqb, length, get_or, take, drop, length-take-le}
use lib.ListN.{replicate}
use mathlib.Core.Logic.{◌⊎◌, inl, inr}
use Rattle.integers.specs.Sum.{sum_ℕ}
use Rattle.integers.proofs.Sums.{sum_ℕ_bound}
use Rattle.lists.specs.Tabulated.{over, written}
use Rattle.lists.proofs.Tabulated.{tab_replicate, length_over, over_in, over_set, over_same, over_tab}
use Rattle.model.specs.Causes.{◌if◌}
use Rattle.model.specs.Code.{Code, triples, variables}
use Rattle.model.specs.Sound.{Sound}
use Rattle.model.specs.Splitting.{blank, system_of}
use Rattle.model.specs.Iteration.{occurrences, counts_of}
use Rattle.model.proofs.TripleRule.{if_most, members_at, members_long, members}
use Rattle.triples.specs.Counting.{counted}

pub count_next : (n : ℕ) (f : ℕ → ℕ) (old : List ℕ) (v : ℕ) → n ≤ blank → (v < n) ⊎ (v ≡ blank) → counted (over n f old) v ≡ over n (λ u. f u + 1 if eqb v u) old
count_next n f old v few (inl h) =
    rw (ne_eqb v blank (λ e. omega arith))
    (over_set n f (λ u. f u + 1 if eqb v u) old v (get_or (over n f old) v 0 + 1) h
    (rw (over_in n f old v 0 h, eq-eqb v v refl))
    (λ u l p. rw (ne_eqb v u (λ e. p (sym e))) (omega arith)))
count_next n f old v few (inr h) =
    rw (eq-eqb v blank h) (over_same n f (λ u. f u + 1 if eqb v u) old (λ u l. rw (ne_eqb v u (λ e. omega arith)) (omega arith)))

-- how often v stands in the first n entries
abbrev pub hits : List ℕ → ℕ → ℕ → ℕ
hits ts n v = sum_ℕ n (λ i. 1 if eqb (get_or ts i 0) v)

pub hits_most : (ts : List ℕ) (n v : ℕ) → hits ts n v ≤ n
hits_most ts n v = omega (arith, sum_ℕ_bound n 1 (λ i. 1 if eqb (get_or ts i 0) v) (λ i h. if_most (eqb (get_or ts i 0) v)))

-- and in t triples
pub hits_triples : (ts : List ℕ) (t v : ℕ) → hits ts (3 * t) v ≡ occurrences ts t v
unfolding occurrences
hits_triples ts zero v = refl
hits_triples ts (suc t) v =
    let e : 3 * suc t ≡ suc (suc (suc (3 * t))) = omega arith in
    let z : 3 * t + 0 ≡ 3 * t = omega arith in
    rw (e, hits_triples ts t v, z, add-one (3 * t), add-two (3 * t)) (omega arith)

-- ---- the triples of a sound code, entry by entry
module _ (k : Code) (s : Sound k) (ts : List ℕ) (is : ts ≡ (system_of k).members) (old : List ℕ) (fits : variables k ≤ length old) where
  -- the counts after i entries
  abbrev pub counts_to : ℕ → List ℕ
  counts_to i = over (variables k) (hits ts i) old

  long : length ts ≡ 3 * triples k
  long = ap length is ∙ members_long k s

  named : (i : ℕ) → i < length ts → (get_or ts i 0 < variables k) ⊎ (get_or ts i 0 ≡ blank)
  named = members_at ts (triples k) (variables k) long (rw is (members k s))

  -- what is filled with 0
  pub none_counted : (n : ℕ) (zeros : List ℕ) → n ≡ variables k → zeros ≡ replicate (length (take n old)) 0 → zeros ++ drop n old ≡ counts_to 0
  none_counted n zeros e z =
      let zero = z ∙ ap (λ (m : ℕ). replicate m 0) (length-take-le n old (omega (arith, e, fits))) ∙ sym (tab_replicate n 0) in
      rw zero (ap (λ (m : ℕ). over m (λ v. 0) old) e)

  module _ (i : ℕ) (within : i < length ts) (now : List ℕ) (so_far : now ≡ counts_to i) where
    pub may_count : (get_or ts i 0 ≡ blank → ⊥) → (get_or ts i 0 < length now) × (get_or now (get_or ts i 0) 0 < 65535)
    may_count other = by (named i within)
      where
        by : (get_or ts i 0 < variables k) ⊎ (get_or ts i 0 ≡ blank) → (get_or ts i 0 < length now) × (get_or now (get_or ts i 0) 0 < 65535)
        by (inl h) = (
          omega (arith, ap length so_far, length_over (variables k) (hits ts i) old fits),
          omega (arith, ap (λ (l : List ℕ). get_or l (get_or ts i 0) 0) so_far, over_in (variables k) (hits ts i) old (get_or ts i 0) 0 h, hits_most ts i (get_or ts i 0), long, s.triples_most),
        )
        by (inr e) = absurd (other e)

    pub one_counted : counted now (get_or ts i 0) ≡ counts_to (i + 1)
    one_counted = rw (so_far, add-one i) (count_next (variables k) (hits ts i) old (get_or ts i 0) (members k s).few (named i within))

  pub all_counted : (i : ℕ) (now : List ℕ) → length ts ≤ i → i ≤ length ts → now ≡ counts_to i → now ≡ written (counts_of (system_of k)) old
  unfolding counts_of system_of
  all_counted i now h l e =
      let whole : i ≡ 3 * triples k = omega (arith, long) in
      e ∙ over_same (variables k) (hits ts i) (occurrences ts (triples k)) old (λ v h. ap (λ (n : ℕ). hits ts n v) whole ∙ hits_triples ts (triples k) v)
      ∙ rw is (over_tab (variables k) (occurrences (system_of k).members (triples k)) old)
