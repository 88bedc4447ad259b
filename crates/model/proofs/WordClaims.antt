-- Codewords, joined to what is tested and written, and the point of a codeword. Assumes nothing.
use Rattle.integers.proofs.Prelude.{◌≡◌, refl, sym, ap, subst, ◌∙◌, Bool, true, false, cond, List, [], ◌∷◌, ◌++◌, ℕ, zero, suc, ◌+◌, ◌*◌, ◌%◌, ◌≤◌, ◌<◌}
use Rattle.integers.proofs.Prelude.{arith, dec_lt, ltb-true, ltb-false, lt-ltb, le-ltb, eqb-true, eqb-false, eq-eqb, not-false, T, eqb, ltb, ℤ, pos, negsuc}
use Rattle.integers.proofs.Prelude.{nat_abs, lt_z, ◌<ℤ◌, length, get_or, take, get_or-append, get_or-eq_default, get_or-append-add}
use mathlib.Core.Logic.{◌↔◌, ◌⊎◌, inl, inr}
use Rattle.lists.specs.Tabulated.{tab}
use Rattle.lists.specs.Entries.{total, some}
use Rattle.lists.proofs.Tabulated.{length_tab, get_or_tab}
use Rattle.lists.proofs.Entries.{first_before, first_passes, some_at, none_in, total_next, total_part}
use Rattle.model.specs.Causes.{◌if◌, first_of}
use Rattle.model.specs.Code.{Code, turns, triple_count}
use Rattle.model.specs.Sound.{SoundChecks, Sound}
use Rattle.model.specs.Splitting.{triples_of, triples_from, system_of, member}
use Rattle.model.specs.Iteration.{at}
use Rattle.model.specs.Words.{bit_at, bit_of, word_of, first_undecided, odd, first_odd, Outcome, tested, outcome}
use Rattle.model.specs.Points.{Bits, Codeword, point_of}
use Rattle.model.specs.Calls.{unequal, not_binary, word_causes}
use Rattle.model.specs.TripleRule.{check, first_auxiliary, Splits}
use Rattle.model.specs.WordClaims.{check_sum, Tested, Decided, queued, PointOf}
use Rattle.model.proofs.Causes.{clear, unless}
use Rattle.model.proofs.Sound.{sound_at}
use Rattle.model.proofs.TripleRule.{triple_rule, triples_of_long, few_variables, members, counts}
use Rattle.model.proofs.Points.{point, begins, point_even, point_binary}

-- ---- the test
module _ (k : Code) (w : List ℕ) where
  -- what holds of both ends of the test holds of the test
  pub tested_is : (P : Outcome → Type 0) → (first_odd k w < length k.checks → P (record { number = 17; place = first_odd k w }))
      → (length k.checks ≤ first_odd k w → P (record { number = 0; place = 0 })) → P (tested k w)
  unfolding tested
  tested_is P fails passes = by (ltb (first_odd k w) (length k.checks)) refl
    where
      by : (t : Bool) → ltb (first_odd k w) (length k.checks) ≡ t → P (cond t (record { number = 17; place = first_odd k w }) (record { number = 0; place = 0 }))
      by true e = fails (ltb-true _ _ e)
      by false e = passes (ltb-false _ _ e)

  parity : (n : ℕ) → eqb (n % 2) 1 ≡ false → n % 2 ≡ 0
  parity n e = let x : n % 2 ≡ 1 → ⊥ = eqb-false (n % 2) 1 e in omega arith

  even_before : (j : ℕ) → j < first_odd k w → check_sum k w j % 2 ≡ 0
  unfolding first_odd
  even_before j h = parity (check_sum k w j) (first_before (length k.checks) (λ j. odd w (check k j)) j h)

  odd_there : first_odd k w < length k.checks → check_sum k w (first_odd k w) % 2 ≡ 1
  unfolding first_odd
  odd_there h = eqb-true _ 1 (first_passes (length k.checks) (λ j. odd w (check k j)) h)

  pub test_claims : Bits k.bits w → Tested k w
  test_claims b = record {
    codeword = (
      tested_is (λ o. o.number ≡ 0 → Codeword k w) (λ l h. absurd (omega arith)) (λ l h. record { word = b; even = λ j m. even_before j (omega arith) }),
      λ c. tested_is (λ o. o.number ≡ 0) (λ l. absurd (omega (arith, odd_there l, c.even (first_odd k w) l))) (λ l. refl),
    );
    numbers = tested_is (λ o. ((o.number ≡ 0) × (o.place ≡ 0)) ⊎ (o.number ≡ 17)) (λ l. inr refl) (λ l. inl (refl, refl));
    below = tested_is (λ o. o.number ≡ 17 → o.place < length k.checks) (λ l h. l) (λ l h. absurd (omega arith));
    odd = tested_is (λ o. o.number ≡ 17 → check_sum k w o.place % 2 ≡ 1) (λ l h. odd_there l) (λ l h. absurd (omega arith));
    first = tested_is (λ o. o.number ≡ 17 → (j : ℕ) → j < o.place → check_sum k w j % 2 ≡ 0) (λ l h. even_before) (λ l h. absurd (omega arith));
  }

-- ---- the word of a run
nothing : (z : ℤ) → eqb (nat_abs z) 0 ≡ true → z ≡ pos 0
nothing (pos n) e = ap pos (eqb-true n 0 e)
nothing (negsuc n) e = absurd (omega (arith, eqb-true (suc n) 0 e))

something : (z : ℤ) → eqb (nat_abs z) 0 ≡ false → z ≡ pos 0 → ⊥
something z e h = eqb-false (nat_abs z) 0 e (ap nat_abs h)

polarity : (z : ℤ) → eqb (nat_abs z) 0 ≡ false → ((bit_of z ≡ 1) × (pos 0 <ℤ z)) ⊎ ((bit_of z ≡ 0) × (z <ℤ pos 0))
polarity (pos zero) e = absurd (eqb-false 0 0 e refl)
polarity (pos (suc n)) e = let l = lt-ltb 0 (suc n) (omega arith) in inl (rw l, record { lt = subst T (sym l) tt })
polarity (negsuc n) e = inr (refl, record { lt = tt })

module _ (k : Code) (c : List ℤ) where
  pub outcome_is : (P : Outcome → Type 0) → (first_undecided k c < k.bits → P (record { number = 16; place = first_undecided k c }))
      → (k.bits ≤ first_undecided k c → P (tested k (word_of k c))) → P (outcome k c)
  unfolding outcome
  outcome_is P stays goes = by (ltb (first_undecided k c) k.bits) refl
    where
      by : (t : Bool) → ltb (first_undecided k c) k.bits ≡ t → P (cond t (record { number = 16; place = first_undecided k c }) (tested k (word_of k c)))
      by true e = stays (ltb-true _ _ e)
      by false e = goes (ltb-false _ _ e)

  bits : Bits k.bits (word_of k c)
  unfolding word_of
  bits = record { long = length_tab k.bits bit; binary = λ i. by i (dec_lt i k.bits) }
    where
      bit : ℕ → ℕ
      bit v = bit_of (at c v)

      small : (t : Bool) → 1 if t < 2
      small true = omega arith
      small false = omega arith

      by : (i : ℕ) → Dec (i < k.bits) → bit_at (tab k.bits bit) i < 2
      by i (yes l) = rw (get_or_tab k.bits bit i 0 l) (small (lt_z (pos 0) (at c i)))
      by i (no l) = let e : bit_at (tab k.bits bit) i ≡ 0 = get_or-eq_default (tab k.bits bit) 0 (omega (arith, length_tab k.bits bit)) in rw e (omega arith)

  abbrev silent : ℕ → Bool
  silent v = eqb (nat_abs (at c v)) 0

  there : first_undecided k c < k.bits → at c (first_undecided k c) ≡ pos 0
  unfolding first_undecided
  there l = nothing _ (first_passes k.bits silent l)

  before : (v : ℕ) → v < first_undecided k c → silent v ≡ false
  unfolding first_undecided
  before v l = first_before k.bits silent v l

  polar : (v : ℕ) → v < k.bits → v < first_undecided k c → ((bit_at (word_of k c) v ≡ 1) × (pos 0 <ℤ at c v)) ⊎ ((bit_at (word_of k c) v ≡ 0) × (at c v <ℤ pos 0))
  unfolding word_of
  polar v h l = rw (get_or_tab k.bits (λ v. bit_of (at c v)) v 0 h) (polarity (at c v) (before v l))

  untold : (tested k (word_of k c)).number ≡ 16 → ⊥
  untold = tested_is k (word_of k c) (λ o. o.number ≡ 16 → ⊥) (λ l h. absurd (omega arith)) (λ l h. absurd (omega arith))

  pub outcome_claims : Decided k c
  outcome_claims =
      let word : Tested k (word_of k c) = test_claims k (word_of k c) bits in
      record {
        undecided = outcome_is (λ o. o.number ≡ 16 → (o.place < k.bits) × (at c o.place ≡ pos 0)) (λ l h. (l, there l)) (λ l h. absurd (untold h));
        lowest = outcome_is (λ o. o.number ≡ 16 → (v : ℕ) → v < o.place → at c v ≡ pos 0 → ⊥) (λ l h v m. something (at c v) (before v m)) (λ l h. absurd (untold h));
        decided = outcome_is (λ o. (o.number ≡ 16 → ⊥) → (v : ℕ) → v < k.bits → ((bit_at (word_of k c) v ≡ 1) × (pos 0 <ℤ at c v)) ⊎ ((bit_at (word_of k c) v ≡ 0) × (at c v <ℤ pos 0)))
            (λ l h. absurd (h refl)) (λ l h v m. polar v m (omega arith));
        word = bits;
        tests = outcome_is (λ o. (o.number ≡ 16 → ⊥) → o ≡ tested k (word_of k c)) (λ l h. absurd (h refl)) (λ l h. refl);
        codeword = outcome_is (λ o. o.number ≡ 0 → Codeword k (word_of k c)) (λ l h. absurd (omega arith)) (λ l. word.codeword.0);
      }

-- ---- the triples of check j, in the list of all triples
module _ (n : ℕ) where
  triples_at : (cs : List (List ℕ)) (a : ℕ) → SoundChecks n cs → n ≤ a → (j i p : ℕ) → j < length cs → i < triple_count (get_or cs j []) → p < 3
      → member (triples_from cs a) (total triple_count (take j cs) + i) p ≡ member (triples_of (get_or cs j []) (a + total turns (take j cs))) i p
  unfolding triples_from
  triples_at [] a s h j i p l m q = absurd (omega arith)
  triples_at (c ∷ cs) a s h zero i p l m q =
      let z : a + 0 ≡ a = omega arith in
      let y : 0 + i ≡ i = omega arith in
      let long = triples_of_long c a s.0.least in
      rw (z, y) (get_or-append (triples_of c a) (triples_from cs (a + turns c)) 0 (3 * i + p) (omega arith))
  triples_at (c ∷ cs) a s h (suc j) i p l m q =
      let T = total triple_count (take j cs) in
      let long = triples_of_long c a s.0.least in
      let here : 3 * (triple_count c + T + i) + p ≡ length (triples_of c a) + (3 * (T + i) + p) = omega arith in
      let there : a + (turns c + total turns (take j cs)) ≡ a + turns c + total turns (take j cs) = omega arith in
      rw (here, there) (get_or-append-add (triples_of c a) (triples_from cs (a + turns c)) (3 * (T + i) + p) 0 ∙ triples_at cs (a + turns c) s.1 (omega arith) j i p (omega arith) m q)

  triples_below : (cs : List (List ℕ)) (j i : ℕ) → j < length cs → i < triple_count (get_or cs j []) → total triple_count (take j cs) + i < total triple_count cs
  triples_below [] j i l m = absurd (omega arith)
  triples_below (c ∷ cs) zero i l m = omega arith
  triples_below (c ∷ cs) (suc j) i l m = omega (arith, triples_below cs j i (omega arith) m)

module _ (k : Code) (s : Sound k) where
  pub splits : Splits k
  unfolding system_of
  splits = record {
    rule = λ j h. triple_rule k.bits (first_auxiliary k j) (check k j) (sound_at k.bits k.checks s.checks j h) (omega arith)
        (omega (arith, total_next turns k.checks j [] h, total_part turns k.checks (suc j), few_variables k s));
    placed = triples_at k.bits k.checks k.bits s.checks (omega arith);
    members = members k s;
    counts = counts k s;
  }

-- ---- the point of a codeword
module _ (k : Code) (s : Sound k) (w : List ℕ) (c : Codeword k w) where
  auxiliary : (j i : ℕ) → j < length k.checks → i < turns (check k j)
      → bit_at (point_of k w) (first_auxiliary k j + i) ≡ (bit_at (point_of k w) (get_or (queued k j) (2 * i) 0) + bit_at (point_of k w) (get_or (queued k j) (2 * i + 1) 0)) % 2
  unfolding system_of
  auxiliary j i h l =
      let x : ℕ → ℕ = bit_at (point_of k w) in
      let t = total triple_count (take j k.checks) + i in
      let r = (splits k s).rule j h in
      let m : (p : ℕ) → p < 3 → member (system_of k).members t p ≡ member (triples_of (check k j) (first_auxiliary k j)) i p
      = λ p q. (splits k s).placed j i p h (omega arith) q in
      let a : member (system_of k).members t 0 ≡ get_or (queued k j) (2 * i) 0 = m 0 (omega arith) ∙ r.firsts i (omega arith) in
      let b : member (system_of k).members t 1 ≡ get_or (queued k j) (2 * i + 1) 0 = m 1 (omega arith) ∙ r.seconds i (omega arith) in
      let z : member (system_of k).members t 2 ≡ first_auxiliary k j + i
      = m 2 (omega arith) ∙ r.thirds i (omega arith) ∙ ap (λ (u : Bool). cond u (first_auxiliary k j + i) (get_or (queued k j) (2 * i + 2) 0)) (lt-ltb i (turns (check k j)) l) in
      let even : (x (member (system_of k).members t 0) + x (member (system_of k).members t 1) + x (member (system_of k).members t 2)) % 2 ≡ 0
      = point_even k s w c t (triples_below k.bits k.checks j i h (omega arith)) in
      let all : (x (get_or (queued k j) (2 * i) 0) + x (get_or (queued k j) (2 * i + 1) 0) + x (first_auxiliary k j + i)) % 2 ≡ 0 = rw (a, b, z) at even in
      omega (arith, all, point_binary k s w c (first_auxiliary k j + i))

  pub point_claims : PointOf k w (point_of k w)
  point_claims = record { point = point k s w c; begins = begins k s w c; auxiliaries = auxiliary }

-- ---- the causes of a word
-- the words of n bits are those that pass both tests
pub bits_tested : (n : ℕ) (w : List ℕ) → Bits n w ↔ ((unequal w n ≡ false) × (some not_binary w ≡ false))
bits_tested n w = (
  λ b. (rw (eq-eqb (length w) n b.long), none_in not_binary w 0 (λ i k. le-ltb 1 (bit_at w i) (omega (arith, b.binary i)))),
  λ t. record { long = eqb-true _ _ (not-false _ t.0); binary = λ i. by t.1 i (dec_lt i (length w)) },
)
  where
    by : some not_binary w ≡ false → (i : ℕ) → Dec (i < length w) → bit_at w i < 2
    by h i (yes l) = omega (arith, ltb-false 1 (bit_at w i) (some_at not_binary w i 0 h l))
    by h i (no l) = let e : bit_at w i ≡ 0 = get_or-eq_default w 0 (omega arith) in omega arith

-- a word that is accepted
pub word_bits : (n : ℕ) (w : List ℕ) → first_of (word_causes n w) ≡ 0 → Bits n w
word_bits n w h = let x = clear (word_causes n w) h in (bits_tested n w).1 (unless 11 (unequal w n) x.0, unless 14 (some not_binary w) x.1.0)

-- and the other way round
pub bits_pass : (n : ℕ) (w l : List ℕ) → Bits n w → first_of (word_causes n w ++ l) ≡ first_of l
bits_pass n w l b = let t = (bits_tested n w).0 b in rw (t.0, t.1)
