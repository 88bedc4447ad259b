-- Document 01, 'Causes and codes', the order: what it says of a number that it is that of the first cause. Definitions and statements only.
use Rattle.std.specs.Prelude.{◌≡◌, Bool, true, ◌&&◌, List, [], ◌∷◌, ℕ, zero, suc, ◌<◌, leb, ltb, eqb, ℤ, length, get_or}
use Rattle.lists.specs.Entries.{some, first}
use Rattle.model.specs.Causes.{◌if◌}
use Rattle.model.specs.Code.{Code}
use Rattle.model.specs.Words.{word_of, first_undecided, first_odd}

-- ---- the last causes: "then the run or, in test and extension, 17"
abbrev pub odd_causes : Code → List ℕ → List ℕ
odd_causes k w = 17 if ltb (first_odd k w) (length k.checks) ∷ []

-- "16 and, from the decoder, 17 are outcomes of a run": of its last values c
abbrev pub run_causes : Code → List ℤ → List ℕ
run_causes k c = 16 if ltb (first_undecided k c) k.bits ∷ odd_causes k (word_of k c)

-- ---- the order of the causes that are judged after all reading
-- "Then 9, 7, 8, 11, 12, 13, 14, 15, 10, then the run or, in test and extension, 17.", the run with 16 before 17; of document 02, 18 and 19: "Both come in
-- front of the record causes, 18 first", 20 comes "after 8", and 21 "between 11 and 12"
abbrev pub document_order : List ℕ
document_order = 18 ∷ 19 ∷ 9 ∷ 7 ∷ 8 ∷ 20 ∷ 11 ∷ 21 ∷ 12 ∷ 13 ∷ 14 ∷ 15 ∷ 10 ∷ 16 ∷ 17 ∷ []

-- the place of x in it
abbrev pub rank : ℕ → ℕ
rank x = first (length document_order) (λ i. eqb (get_or document_order i 0) x)

-- the numbers of the causes that hold stand there one behind the other, none before the place `low`
abbrev pub follows : ℕ → List ℕ → Bool
follows low [] = true
follows low (zero ∷ l) = follows low l
follows low (suc c ∷ l) = leb low (rank (suc c)) && follows (suc (rank (suc c))) l

pub record Follows (low : ℕ) (l : List ℕ) : Type 0 where
  pub places : follows low l ≡ true

-- ---- "A number comes only when its cause holds and no earlier one does."
-- the number, which is not 0, by the causes in their order; the table has the entry's own numbers
pub record Refusal (causes table : List ℕ) (number : ℕ) : Type 0 where
  -- the place of its cause in the list, and that no cause before it holds
  pub place : ℕ
  pub cause : get_or causes place 0 ≡ number
  pub earlier : (i : ℕ) → i < place → get_or causes i 0 ≡ 0
  pub listed : some (eqb number) table ≡ true

-- any number: with 0 no cause holds
pub record Ordered (causes table : List ℕ) (number : ℕ) : Type 0 where
  pub refused : (c : ℕ) → number ≡ suc c → Refusal causes table number
  pub sound : number ≡ 0 → (i : ℕ) → get_or causes i 0 ≡ 0

-- the numbers of code records
abbrev pub one_to_nine : List ℕ
one_to_nine = 1 ∷ 2 ∷ 3 ∷ 4 ∷ 5 ∷ 6 ∷ 7 ∷ 8 ∷ 9 ∷ []
