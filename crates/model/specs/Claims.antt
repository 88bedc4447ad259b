-- Demand 3, clause by clause. Statements only; `demand_3` of proofs/Demand3.antt proves `Demand3` for every code that `judge` accepts.
use Rattle.std.specs.Prelude.{◌≡◌, ◌↔◌, List, ℕ, ◌<◌, ℤ, length, take}
use Rattle.quotient.specs.Quotient.{quotient}
use Rattle.model.specs.declared.Settings.{Settings}
use Rattle.model.specs.Code.{Code}
use Rattle.model.specs.Splitting.{system_of}
use Rattle.model.specs.Iteration.{State}
use Rattle.model.specs.Run.{start, Ended, after, run_from}
use Rattle.model.specs.Words.{word_of, outcome}
use Rattle.model.specs.Points.{Bits, Codeword, Point, point_of}
use Rattle.model.specs.Reflection.{reflect, sum_of_words, Opposite, Reflected}

-- "a word is a codeword exactly when it is what remains, with the auxiliaries dropped, of a 0/1 point that meets the code's inequality
-- system; and the only such point is the codeword's point that 01 writes out"
pub record Points (k : Code) : Type 0 where
  pub exactly : (w : List ℕ) → Bits k.bits w → Codeword k w ↔ ((p : List ℕ) × Point (system_of k) p × (take k.bits p ≡ w))
  pub only : (w p : List ℕ) → Point (system_of k) p → take k.bits p ≡ w → p ≡ point_of k w

-- how two runs ended: the first with e, the run with the costs that the codeword w reflects with f
pub record ReflectedEnds (k : Code) (w : List ℕ) (e f : Ended) : Type 0 where
  -- "Both runs end after the same iteration; the kind of answer, count, settled and place stay"
  pub count : f.k ≡ e.k
  pub settled : f.settled ≡ e.settled
  pub last : Reflected (system_of k) (point_of k w) e.last f.last
  pub answer : outcome k f.last.values ≡ outcome k e.last.values
  -- "and a written word changes by that codeword, bit by bit modulo 2"
  pub word : (outcome k e.last.values).number ≡ 0 → word_of k f.last.values ≡ sum_of_words w (word_of k e.last.values)

-- two such runs, from the states a and b, `done` iterations being done and at most `more` to come
pub record ReflectedRun (k : Code) (o : Settings) (costs : List ℤ) (w : List ℕ) (more done : ℕ) (a b : State) : Type 0 where
  -- "After every iteration of the reflected run c and S are those of the first run, negated where the point has a 1 and the same elsewhere", and the rows
  -- change places
  pub each : (i : ℕ)
      → Reflected (system_of k) (point_of k w) (after quotient (system_of k) o costs i a) (after quotient (system_of k) o (reflect w costs) i b)
  pub ends : ReflectedEnds k w (run_from quotient (system_of k) o costs more done a) (run_from quotient (system_of k) o (reflect w costs) more done b)

-- row r of triple t goes to row q: of the two rows' signs
abbrev pub Goes : Code → List ℕ → ℕ → ℕ → ℕ → Type 0
Goes k w t r q = Opposite (point_of k w) (system_of k).members t r q

pub record Reflection (k : Code) (w : List ℕ) : Type 0 where
  -- each row has a row "of the same triple whose signs differ from its own exactly at the variables where the point has a 1"
  pub opposite : (t r : ℕ) → t < (system_of k).triples → r < 4 → (q : ℕ) × (q < 4) × Goes k w t r q
  -- "only change places": the row it goes to is the only such row, and no two rows go to one
  pub unique : (t r q q' : ℕ) → q < 4 → q' < 4 → Goes k w t r q → Goes k w t r q' → q ≡ q'
  pub injective : (t r r' q : ℕ) → r < 4 → r' < 4 → Goes k w t r q → Goes k w t r' q → r ≡ r'
  -- the start of a run is its own reflection
  pub begun : Reflected (system_of k) (point_of k w) (start (system_of k)) (start (system_of k))
  -- "whatever the accepted settings and costs", and from whatever states that are reflected
  pub whole : (o : Settings) (costs : List ℤ) → length costs ≡ k.bits → (more done : ℕ) (a b : State)
      → Reflected (system_of k) (point_of k w) a b → ReflectedRun k o costs w more done a b

pub record Demand3 (k : Code) : Type 0 where
  pub points : Points k
  pub reflects : (w : List ℕ) → Codeword k w → Reflection k w
