-- Document 01, 'From values to word'. Definitions only.
use Rattle.std.specs.Prelude.{Bool, cond, List, [], ℕ, ◌%◌, ltb, eqb, ℤ, pos, nat_abs, length, get_or}
use Rattle.std.specs.Int.Signed.{lt_z}
use Rattle.lists.specs.Tabulated.{tab}
use Rattle.lists.specs.Entries.{total, first}
use Rattle.model.specs.Causes.{◌if◌}
use Rattle.model.specs.Code.{Code}
use Rattle.model.specs.Iteration.{at}

-- an entry of a word or of a point, 0 past its end
abbrev pub bit_at : List ℕ → ℕ → ℕ
bit_at w v = get_or w v 0

-- "c above 0 is bit 1, below 0 is bit 0"
abbrev pub bit_of : ℤ → ℕ
bit_of c = 1 if lt_z (pos 0) c

unfoldable pub word_of : Code → List ℤ → List ℕ
word_of k c = tab k.bits (λ v. bit_of (at c v))

-- "If some code bit has c = 0": the lowest such bit, or n
unfoldable pub first_undecided : Code → List ℤ → ℕ
first_undecided k c = first k.bits (λ v. eqb (nat_abs (at c v)) 0)

-- "if a check has odd sum": the first such check, or m
abbrev pub odd : List ℕ → List ℕ → Bool
odd w check = eqb (total (bit_at w) check % 2) 1

unfoldable pub first_odd : Code → List ℕ → ℕ
first_odd k w = first (length k.checks) (λ j. odd w (get_or k.checks j []))

-- ---- a number and its place
pub record Outcome : Type 0 where
  pub number : ℕ
  pub place : ℕ

-- the number with the place i, where i is below n; otherwise what follows
abbrev pub found : ℕ → ℕ → ℕ → Outcome → Outcome
found number i n next = cond (ltb i n) (record { number = number; place = i }) next

-- "not a codeword, with the first such check. Otherwise … the number is 0 and the place is 0"
unfoldable pub tested : Code → List ℕ → Outcome
tested k w = found 17 (first_odd k w) (length k.checks) (record { number = 0; place = 0 })

-- "undecided, with the lowest such bit. Otherwise" the word is tested
unfoldable pub outcome : Code → List ℤ → Outcome
outcome k c = found 16 (first_undecided k c) k.bits (tested k (word_of k c))
