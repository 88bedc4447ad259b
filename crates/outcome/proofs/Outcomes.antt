-- What is found decides the outcome. Assumes nothing.
use Rattle.std.specs.List.{position_or_len}
use Rattle.std.proofs.Common.{Option, None, Some}
use Rattle.integers.proofs.Prelude.{◌≡◌, sym, ap, ◌∙◌, Bool, cond, List, ℕ, ◌≤◌, ◌<◌, arith, append-nil, drop_of_length-le, lt-ltb, le-ltb, eqb, ltb, ℤ, pos, nat_abs, length, get_or, take, length-take-le, get_or-take}
use Rattle.lists.specs.Tabulated.{over, written}
use Rattle.lists.specs.Entries.{first}
use Rattle.lists.proofs.Tabulated.{length_tab, over_tab}
use Rattle.lists.proofs.Entries.{first_same}
use Rattle.model.specs.Code.{Code}
use Rattle.model.specs.Iteration.{at}
use Rattle.model.specs.Words.{bit_of, word_of, first_undecided, first_odd, tested, outcome}
use Rattle.codeword.specs.Found.{Finds}
use Rattle.codeword.proofs.Finding.{finds_first}
use Rattle.codeword.proofs.Verdicts.{odd_told, even_told}

-- ---- the lowest bit that is undecided
abbrev pub undecided : ℤ → Bool
undecided c = eqb (nat_abs c) 0

module _ (k : Code) (c : List ℤ) where
  pub finds_undecided : k.bits ≤ length c → (answer : Option ℕ)
      → answer ≡ cond (ltb (position_or_len undecided (take k.bits c)) (length (take k.bits c))) (Some (position_or_len undecided (take k.bits c))) None
      → Finds answer (first_undecided k c) k.bits
  unfolding first_undecided
  finds_undecided h answer e =
      let n = k.bits in
      let long : length (take n c) ≡ n = length-take-le n c h in
      let same : first n (λ v. undecided (get_or (take n c) v (pos 0))) ≡ first n (λ v. undecided (at c v))
      = first_same n (λ v. undecided (get_or (take n c) v (pos 0))) (λ v. undecided (at c v)) (λ v l. ap undecided (get_or-take n c v (pos 0) l)) in
      let found : Finds answer (first (length (take n c)) (λ v. undecided (get_or (take n c) v (pos 0)))) (length (take n c)) = finds_first undecided (take n c) (pos 0) answer e in
      (rw (long, same) at found)

  -- ---- the word
  pub word_long : length (word_of k c) ≡ k.bits
  unfolding word_of
  word_long = length_tab k.bits (λ v. bit_of (at c v))

  pub word_written : (n : ℕ) (old : List ℕ) → n ≡ k.bits → over n (λ v. bit_of (at c v)) old ≡ written (word_of k c) old
  unfolding word_of
  word_written n old e = rw e (over_tab k.bits (λ v. bit_of (at c v)) old)

  -- in a list with an entry for each bit
  pub word_alone : (old : List ℕ) → length old ≡ k.bits → written (word_of k c) old ≡ word_of k c
  word_alone old h = rw (drop_of_length-le old {i = length (word_of k c)} (omega (arith, word_long, h))) (append-nil (word_of k c))

  -- ---- the outcome
  pub undecided_found : (v : ℕ) → (v ≡ first_undecided k c) × (v < k.bits) → record { number = 16; place = v } ≡ outcome k c
  unfolding outcome
  undecided_found v found = rw (← found.0, lt-ltb v k.bits found.1)

  module _ (none : first_undecided k c ≡ k.bits) where
    decided : outcome k c ≡ tested k (word_of k c)
    unfolding outcome
    decided = rw (none, le-ltb k.bits k.bits (omega arith))

    pub odd_found : (j : ℕ) → (j ≡ first_odd k (word_of k c)) × (j < length k.checks) → record { number = 17; place = j } ≡ outcome k c
    odd_found j found = odd_told k (word_of k c) j found ∙ sym decided

    pub codeword_found : first_odd k (word_of k c) ≡ length k.checks → record { number = 0; place = 0 } ≡ outcome k c
    codeword_found even = even_told k (word_of k c) even ∙ sym decided
