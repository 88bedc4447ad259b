-- Document 02, L6, for codes without checks of two bits: they give what they gave. What the request moved is the least degree, what waits at first and the value of
-- the blank; here document 01 has each, and such codes have document 01's. Statements only; the proofs are in proofs/BaseCodes.antt.
use Rattle.std.specs.Prelude.{◌≡◌, List, [], ◌∷◌, ◌++◌, ℕ, ◌+◌, ◌*◌, ◌/◌, ◌%◌, ℤ, length}
use Rattle.lists.specs.Entries.{Each}
use Rattle.lists.specs.Tabulated.{tab}
use Rattle.quotient.specs.Quotient.{quotient}
use Rattle.model.specs.declared.Settings.{Settings}
use Rattle.model.specs.Limits.{base_degree}
use Rattle.model.specs.Code.{Code, turns, triples, variables}
use Rattle.model.specs.Records.{code_of, judge, record_causes, record_causes_from}
use Rattle.model.specs.Splitting.{queue, System, system_of, member, Named}
use Rattle.model.specs.Iteration.{at, row_sum, renewed, State, sums_of, values_of, iterate}

-- no check has two bits
abbrev pub NoPairs : Code → Type 0
NoPairs k = Each (λ c. length c ≡ 2 → ⊥) k.checks

-- "Put the check's bits in a queue in rising order": nothing else waits at first
unfoldable pub base_triples : List (List ℕ) → ℕ → List ℕ
base_triples [] a = []
base_triples (c ∷ cs) a = queue (turns c) c a ++ base_triples cs (a + turns c)

abbrev pub base_system : Code → System
base_system k = record { code = k; variables = variables k; triples = triples k; members = base_triples k.checks k.bits }

-- "Then each row: s becomes p + sum − U", every c standing in the list
abbrev pub base_rows : System → List ℤ → List ℤ → List ℤ
base_rows g s c =
    let m : ℕ → ℕ → ℕ = member g.members in
    tab (4 * g.triples) (λ i. renewed (at s i) (row_sum (i % 4) (at c (m (i / 4) 0)) (at c (m (i / 4) 1)) (at c (m (i / 4) 2))))

abbrev pub base_iterate : System → Settings → List ℤ → State → State
base_iterate g o costs a =
    let S = sums_of g a.rows in
    let c = values_of quotient g o costs S in
    record { sums = S; values = c; rows = base_rows g a.rows c }

-- of bytes b that say no check of two bits
pub record AsInBase (b : List ℕ) : Type 0 where
  -- their causes are those where "degree outside 3..32" gets 4
  pub causes : record_causes b ≡ record_causes_from base_degree b
  -- an accepted code's system is the old one, with variables only, and so is every iteration
  pub system : judge b ≡ 0 → system_of (code_of b) ≡ base_system (code_of b)
  pub named : judge b ≡ 0 → Named (system_of (code_of b)).members (variables (code_of b))
  pub iterations : judge b ≡ 0 → (o : Settings) (costs : List ℤ) (a : State)
      → iterate quotient (system_of (code_of b)) o costs a ≡ base_iterate (base_system (code_of b)) o costs a
