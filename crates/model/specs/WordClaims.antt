-- Document 01, 'From values to word' and 'Points and reflection', joined: what the test of a word, the word of a run and a codeword's point have to do with
-- codewords. Statements only; the proofs are in proofs/WordClaims.antt.
use Rattle.std.specs.Prelude.{◌≡◌, ◌↔◌, ◌⊎◌, List, ℕ, ◌+◌, ◌*◌, ◌%◌, ◌<◌, ℤ, pos, length, get_or, take, ◌<ℤ◌}
use Rattle.lists.specs.Entries.{total}
use Rattle.model.specs.Code.{Code, turns}
use Rattle.model.specs.Splitting.{system_of}
use Rattle.model.specs.TripleRule.{items, check, first_auxiliary}
use Rattle.model.specs.Iteration.{at}
use Rattle.model.specs.Words.{bit_at, word_of, tested, outcome}
use Rattle.model.specs.Points.{Bits, Codeword, Point}

-- the sum of a word over check j
abbrev pub check_sum : Code → List ℕ → ℕ → ℕ
check_sum k w j = total (bit_at w) (check k j)

-- ---- the test of a word of 0 and 1
pub record Tested (k : Code) (w : List ℕ) : Type 0 where
  pub codeword : ((tested k w).number ≡ 0) ↔ Codeword k w
  pub numbers : (((tested k w).number ≡ 0) × ((tested k w).place ≡ 0)) ⊎ ((tested k w).number ≡ 17)
  -- "not a codeword, with the first such check"
  pub below : (tested k w).number ≡ 17 → (tested k w).place < length k.checks
  pub odd : (tested k w).number ≡ 17 → check_sum k w (tested k w).place % 2 ≡ 1
  pub first : (tested k w).number ≡ 17 → (j : ℕ) → j < (tested k w).place → check_sum k w j % 2 ≡ 0

-- ---- the outcome of the values c
pub record Decided (k : Code) (c : List ℤ) : Type 0 where
  -- "If some code bit has c = 0: undecided, with the lowest such bit."
  pub undecided : (outcome k c).number ≡ 16 → ((outcome k c).place < k.bits) × (at c (outcome k c).place ≡ pos 0)
  pub lowest : (outcome k c).number ≡ 16 → (v : ℕ) → v < (outcome k c).place → at c v ≡ pos 0 → ⊥
  -- otherwise each bit is decided: "c above 0 is bit 1, below 0 is bit 0"
  pub decided : ((outcome k c).number ≡ 16 → ⊥) → (v : ℕ) → v < k.bits
      → ((bit_at (word_of k c) v ≡ 1) × (pos 0 <ℤ at c v)) ⊎ ((bit_at (word_of k c) v ≡ 0) × (at c v <ℤ pos 0))
  -- and the word is tested
  pub word : Bits k.bits (word_of k c)
  pub tests : ((outcome k c).number ≡ 16 → ⊥) → outcome k c ≡ tested k (word_of k c)
  -- a word that is written is a codeword
  pub codeword : (outcome k c).number ≡ 0 → Codeword k (word_of k c)

-- ---- the point of a codeword
-- all that waits in the queue of check j, in its order
abbrev pub queued : Code → ℕ → List ℕ
queued k j = items (check k j) (first_auxiliary k j)

-- x is the point of the codeword w
pub record PointOf (k : Code) (w x : List ℕ) : Type 0 where
  pub point : Point (system_of k) x
  -- "A codeword's point begins with it"
  pub begins : take k.bits x ≡ w
  -- "each auxiliary's entry is the sum modulo 2 of the entries of the first two items of the triple recorded when it was made": auxiliary i of check j, of
  -- items 2i and 2i + 1 of its queue
  pub auxiliaries : (j i : ℕ) → j < length k.checks → i < turns (check k j)
      → bit_at x (first_auxiliary k j + i) ≡ (bit_at x (get_or (queued k j) (2 * i) 0) + bit_at x (get_or (queued k j) (2 * i + 1) 0)) % 2
