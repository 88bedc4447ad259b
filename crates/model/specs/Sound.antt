-- What holds of every code that document 01, 'Code records', accepts. Definitions only; `Accepted` in proofs/ has the theorem.
use Rattle.std.specs.Prelude.{◌≡◌, true, List, [], ◌∷◌, ℕ, suc, ◌≤◌, ◌<◌, eqb, length}
use Rattle.lists.specs.Entries.{some, Each}
use Rattle.model.specs.Limits.{most_bits, most_checks, least_degree, most_degree, most_triples}
use Rattle.model.specs.Code.{Code, triples}

-- "strictly rising", none below low, all below n
abbrev pub Rising : ℕ → ℕ → List ℕ → Type 0
Rising n low [] = Unit {0}
Rising n low (i ∷ l) = (low ≤ i) × (i < n) × Rising n (suc i) l

-- "a one-byte degree d …, then d bit indices …, from 0, strictly rising"; document 02, L6: d from 2 on
pub record SoundCheck (n : ℕ) (c : List ℕ) : Type 0 where
  pub least : least_degree ≤ length c
  pub most : length c ≤ most_degree
  pub rising : Rising n 0 c

abbrev pub SoundChecks : ℕ → List (List ℕ) → Type 0
SoundChecks n l = Each (SoundCheck n) l

pub record Sound (k : Code) : Type 0 where
  -- "bits n (3 to 4,096), checks m (1 to 2,048)"
  pub bits_least : 3 ≤ k.bits
  pub bits_most : k.bits ≤ most_bits
  pub checks_least : 1 ≤ length k.checks
  pub checks_most : length k.checks ≤ most_checks
  pub checks : SoundChecks k.bits k.checks
  -- "The sum of d − 2 over all checks is at most 8,192."
  pub triples_most : triples k ≤ most_triples
  -- "Each bit lies in some check."
  pub covered : (b : ℕ) → b < k.bits → some (some (eqb b)) k.checks ≡ true
