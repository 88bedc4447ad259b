-- A code and its sizes (document 01, 'Code records' and 'Splitting a check'; document 02, L6). Definitions only.
use Rattle.std.specs.Prelude.{List, ℕ, ◌+◌, ◌-◌, length}
use Rattle.lists.specs.Entries.{total}

-- how many bits, and the bit indices of each check
pub record Code : Type 0 where
  pub bits : ℕ
  pub checks : List (List ℕ)

-- "While more than three items wait": each turn leaves one less, so a check takes a turn for each bit above three
abbrev pub turns : List ℕ → ℕ
turns c = length c - 3

-- "A check of degree d yields d − 2 triples and d − 3 auxiliaries": a turn makes one of each, and one triple is left. Of two bits there is no turn:
-- "one triple and no auxiliary"
abbrev pub triple_count : List ℕ → ℕ
triple_count c = turns c + 1

-- T and V, the triples and the variables of a code (000, equation 7)
abbrev pub triples : Code → ℕ
triples k = total triple_count k.checks

abbrev pub variables : Code → ℕ
variables k = k.bits + total turns k.checks
