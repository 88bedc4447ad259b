-- Demand 3, for every accepted code. Assumes nothing.
use Rattle.integers.proofs.Prelude.{◌≡◌, refl, sym, ap, ◌∙◌, Bool, true, false, cond, List, [], ◌∷◌, ℕ, zero, suc, ◌+◌, ◌%◌, ◌≤◌, ◌<◌, arith, dec_lt}
use Rattle.integers.proofs.Prelude.{ltb-false, lt-ltb, eqb-false, eqb, ltb, ℤ, pos, negsuc, nat_abs, lt_z, length, get_or, get_or-eq_default}
use Rattle.integers.proofs.Linear.{abs_neg}
use Rattle.lists.specs.Entries.{total}
use Rattle.lists.proofs.Tabulated.{get_or_tab, tab_same}
use Rattle.lists.proofs.Entries.{first_same, first_before}
use Rattle.quotient.specs.Quotient.{quotient}
use Rattle.quotient.proofs.Laws.{quotient_odd}
use Rattle.model.specs.Causes.{◌if◌}
use Rattle.model.specs.Code.{Code}
use Rattle.model.specs.Records.{code_of, judge}
use Rattle.model.specs.Sound.{Sound}
use Rattle.model.specs.Splitting.{system_of}
use Rattle.model.specs.Iteration.{at}
use Rattle.model.specs.Run.{run_from}
use Rattle.model.specs.Words.{bit_at, bit_of, word_of, first_undecided, odd, first_odd, tested, outcome}
use Rattle.model.specs.Points.{Codeword, point_of}
use Rattle.model.specs.Reflection.{negated_if, reflect, sum_of_words}
use Rattle.model.specs.Claims.{Reflection, Demand3}
use Rattle.model.proofs.Accepted.{accepted}
use Rattle.model.proofs.Points.{totals_bits, point_begins, point_long, blank_bit, point_even, point_binary, points}
use Rattle.model.proofs.Reflection.{turned_zero, reflect_at, unique, injective, opposite, begun, each, ends}

-- ---- from values to word
turned_undecided : (b : ℕ) (z : ℤ) → eqb (nat_abs (negated_if b z)) 0 ≡ eqb (nat_abs z) 0
turned_undecided zero z = refl
turned_undecided (suc b) z = rw (abs_neg z)

turned_bit : (b : ℕ) (z : ℤ) → b < 2 → eqb (nat_abs z) 0 ≡ false → bit_of (negated_if b z) ≡ (b + bit_of z) % 2
turned_bit zero z h e = by (lt_z (pos 0) z)
  where
    by : (t : Bool) → 1 if t ≡ (0 + 1 if t) % 2
    by true = refl
    by false = refl
turned_bit (suc b) (pos zero) h e = absurd (eqb-false 0 0 e refl)
turned_bit (suc b) (pos (suc n)) h e = rw (lt-ltb 0 (suc n) (omega arith)) (omega arith)
turned_bit (suc b) (negsuc n) h e = rw (lt-ltb 0 (suc n) (omega arith)) (omega arith)

-- parities of a sum of words
pub total_sum : (x y : ℕ → ℕ) (c : List ℕ) → total (λ i. (x i + y i) % 2) c % 2 ≡ (total x c + total y c) % 2
total_sum x y [] = refl
total_sum x y (i ∷ c) = omega (arith, total_sum x y c)

pub sum_entry : (w u : List ℕ) (i : ℕ) → i < length w → bit_at (sum_of_words w u) i ≡ (bit_at w i + bit_at u i) % 2
unfolding sum_of_words
sum_entry w u i h = get_or_tab (length w) (λ i. (bit_at w i + bit_at u i) % 2) i 0 h

module _ (k : Code) (s : Sound k) (w : List ℕ) (c : Codeword k w) where
  -- two lists of values, one reflected by the word
  module _ (z z' : List ℤ) (turns : (v : ℕ) → v < k.bits → at z' v ≡ negated_if (bit_at w v) (at z v)) where
    undecided_same : first_undecided k z' ≡ first_undecided k z
    unfolding first_undecided
    undecided_same = first_same k.bits (λ v. eqb (nat_abs (at z' v)) 0) (λ v. eqb (nat_abs (at z v)) 0) (λ v h. rw (turns v h) (turned_undecided (bit_at w v) (at z v)))

    word_turned : k.bits ≤ first_undecided k z → word_of k z' ≡ sum_of_words w (word_of k z)
    unfolding first_undecided word_of sum_of_words
    word_turned decided =
        rw c.word.long
        (tab_same k.bits (λ v. bit_of (at z' v)) (λ i. (bit_at w i + bit_at (word_of k z) i) % 2) (λ v h.
        rw (turns v h, get_or_tab k.bits (λ v. bit_of (at z v)) v 0 h)
        (turned_bit (bit_at w v) (at z v) (c.word.binary v) (first_before k.bits (λ v. eqb (nat_abs (at z v)) 0) v (omega arith)))))

    odd_same : k.bits ≤ first_undecided k z → first_odd k (word_of k z') ≡ first_odd k (word_of k z)
    unfolding first_odd
    odd_same decided =
        let u = word_of k z in
        first_same (length k.checks) (λ j. odd (word_of k z') (get_or k.checks j [])) (λ j. odd u (get_or k.checks j [])) (λ j h.
        let check = get_or k.checks j [] in
        let e : total (bit_at (word_of k z')) check % 2 ≡ total (bit_at u) check % 2
        = rw (word_turned decided) (ap (λ (n : ℕ). n % 2) (totals_bits k.bits (bit_at (sum_of_words w u)) (λ i. (bit_at w i + bit_at u i) % 2) k.checks (sum_at u) s.checks j)
        ∙ total_sum (bit_at w) (bit_at u) check ∙ omega (arith, c.even j h)) in
        ap (λ (n : ℕ). eqb n 1) e)
      where
        sum_at : (u : List ℕ) (i : ℕ) → i < k.bits → bit_at (sum_of_words w u) i ≡ (bit_at w i + bit_at u i) % 2
        sum_at u i h = sum_entry w u i (omega (arith, c.word.long))

    outcome_same : outcome k z' ≡ outcome k z
    unfolding outcome tested
    outcome_same = rw undecided_same (by (ltb (first_undecided k z) k.bits) refl)
      where
        by : (t : Bool) → ltb (first_undecided k z) k.bits ≡ t
            → cond t (record { number = 16; place = first_undecided k z }) (tested k (word_of k z')) ≡ cond t (record { number = 16; place = first_undecided k z }) (tested k (word_of k z))
        by true e = refl
        by false e = rw (odd_same (ltb-false (first_undecided k z) k.bits e))

    word_same : (outcome k z).number ≡ 0 → word_of k z' ≡ sum_of_words w (word_of k z)
    unfolding outcome
    word_same h = word_turned (by (ltb (first_undecided k z) k.bits) refl h)
      where
        by : (t : Bool) → ltb (first_undecided k z) k.bits ≡ t → (cond t (record { number = 16; place = first_undecided k z }) (tested k (word_of k z))).number ≡ 0 → k.bits ≤ first_undecided k z
        by true e h = absurd (omega arith)
        by false e h = ltb-false (first_undecided k z) k.bits e

  -- ---- the costs
  costs_turned : (costs : List ℤ) → length costs ≡ k.bits → (v : ℕ) → at (reflect w costs) v ≡ negated_if (bit_at (point_of k w) v) (at costs v)
  costs_turned costs h v = reflect_at w costs v ∙ by (dec_lt v k.bits)
    where
      by : Dec (v < k.bits) → negated_if (bit_at w v) (at costs v) ≡ negated_if (bit_at (point_of k w) v) (at costs v)
      by (yes l) = rw (point_begins k s w c.word.long v l)
      by (no l) =
          let none : at costs v ≡ pos 0 = get_or-eq_default costs (pos 0) (omega arith) in
          rw none (turned_zero (bit_at w v) ∙ sym (turned_zero (bit_at (point_of k w) v)))

  reflection : Reflection k w
  reflection =
      let g = system_of k in
      let x = point_of k w in
      let bin = point_binary k s w c in
      let still = blank_bit k s x (point_long k s w c.word.long) in
      let even = point_even k s w c in
      record {
        opposite = opposite g x bin still even;
        unique = unique x g.members;
        injective = injective x g.members;
        begun = begun g x bin still even;
        whole = λ o costs h more done a b m.
            let turns = costs_turned costs h in
            let e = ends g x bin still even quotient quotient_odd o costs (reflect w costs) turns more done a b m in
            let z = (run_from quotient g o costs more done a).last.values in
            let z' = (run_from quotient g o (reflect w costs) more done b).last.values in
            let bits : (v : ℕ) → v < k.bits → at z' v ≡ negated_if (bit_at w v) (at z v) = λ v l. e.last.values v ∙ rw (point_begins k s w c.word.long v l) in
            record {
              each = each g x bin still even quotient quotient_odd o costs (reflect w costs) turns a b m;
              ends = record { count = e.k; settled = e.settled; last = e.last; answer = outcome_same z z' bits; word = word_same z z' bits };
            };
      }

-- every code that the reader accepts
pub demand_3 : (b : List ℕ) → judge b ≡ 0 → Demand3 (code_of b)
demand_3 b h = let s = accepted b h in record { points = points (code_of b) s; reflects = reflection (code_of b) s }
