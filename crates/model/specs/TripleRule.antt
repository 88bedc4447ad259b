-- Document 01, 'Splitting a check', and document 02, L6, as statements for all degrees together; the proofs are in proofs/TripleRule.antt.
use Rattle.std.specs.Prelude.{◌≡◌, cond, List, [], ◌∷◌, ◌++◌, ℕ, ◌+◌, ◌-◌, ◌*◌, ◌≤◌, ◌<◌, ltb, eqb, length, get_or, take}
use Rattle.lists.specs.Tabulated.{tab}
use Rattle.lists.specs.Entries.{some, total}
use Rattle.model.specs.Causes.{◌if◌}
use Rattle.model.specs.Code.{Code, turns, triple_count, variables}
use Rattle.model.specs.Splitting.{blank, waiting, triples_of, system_of, member, Members}
use Rattle.model.specs.Iteration.{occurrences}

-- all that ever waits in the queue, in the order in which it comes: what waits at first, then the auxiliaries from a on
unfoldable pub items : List ℕ → ℕ → List ℕ
items c a = waiting c ++ tab (turns c) (λ j. a + j)

-- of the triples that the check c gives, a being the next auxiliary
pub record TripleRule (c : List ℕ) (a : ℕ) : Type 0 where
  -- "A check of degree d yields d − 2 triples and d − 3 auxiliaries"
  pub triples : 3 ≤ length c → triple_count c ≡ length c - 2
  pub auxiliaries : turns c ≡ length c - 3
  -- a check of two bits "makes one triple and no auxiliary: its two bits, and in third place a blank"; no other check has it
  pub two : length c ≡ 2 → (triple_count c ≡ 1) × (turns c ≡ 0) × (triples_of c a ≡ get_or c 0 0 ∷ get_or c 1 0 ∷ blank ∷ [])
  pub no_blank : 3 ≤ length c → (t p : ℕ) → t < triple_count c → p < 3 → member (triples_of c a) t p < a + turns c
  pub long : length (triples_of c a) ≡ 3 * triple_count c
  -- the closed form: the two items that are next in turn, and the auxiliary that is made of them; at the end, the three that are left
  pub firsts : (t : ℕ) → t < triple_count c → member (triples_of c a) t 0 ≡ get_or (items c a) (2 * t) 0
  pub seconds : (t : ℕ) → t < triple_count c → member (triples_of c a) t 1 ≡ get_or (items c a) (2 * t + 1) 0
  pub thirds : (t : ℕ) → t < triple_count c → member (triples_of c a) t 2 ≡ cond (ltb t (turns c)) (a + t) (get_or (items c a) (2 * t + 2) 0)
  -- each bit of the check stands in exactly one of its triples, each auxiliary in exactly two
  pub bit_once : (i : ℕ) → i < length c → occurrences (triples_of c a) (triple_count c) (get_or c i 0) ≡ 1
  pub auxiliary_twice : (j : ℕ) → j < turns c → occurrences (triples_of c a) (triple_count c) (a + j) ≡ 2
  -- three different members in every triple: they rise
  pub rising : (t : ℕ) → t < triple_count c
      → (member (triples_of c a) t 0 < member (triples_of c a) t 1) × (member (triples_of c a) t 1 < member (triples_of c a) t 2)

-- ---- of a whole code: check j, its first auxiliary and its first triple: "Checks go in record order; auxiliaries are numbered n, n + 1, on."
abbrev pub check : Code → ℕ → List ℕ
check k j = get_or k.checks j []

abbrev pub first_auxiliary : Code → ℕ → ℕ
first_auxiliary k j = k.bits + total turns (take j k.checks)

abbrev pub first_triple : Code → ℕ → ℕ
first_triple k j = total triple_count (take j k.checks)

-- how often each variable of a code stands in its triples
abbrev pub standing : Code → ℕ → ℕ
standing k v = occurrences (system_of k).members (system_of k).triples v

pub record Counts (k : Code) : Type 0 where
  -- a bit as often as there are checks that have it
  pub bits : (b : ℕ) → b < k.bits → standing k b ≡ total (λ c. 1 if some (eqb b) c) k.checks
  pub auxiliaries : (v : ℕ) → k.bits ≤ v → v < variables k → standing k v ≡ 2

pub record Splits (k : Code) : Type 0 where
  -- the rule holds of every check, of two bits as of more, and its triples stand in the list in their order
  pub rule : (j : ℕ) → j < length k.checks → TripleRule (check k j) (first_auxiliary k j)
  pub placed : (j i p : ℕ) → j < length k.checks → i < triple_count (check k j) → p < 3
      → member (system_of k).members (first_triple k j + i) p ≡ member (triples_of (check k j) (first_auxiliary k j)) i p
  pub members : Members (system_of k).members (variables k)
  pub counts : Counts k
