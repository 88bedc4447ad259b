-- What holds of a call of the decoder, in the words of the demands: the parts of `Promises.DecoderCall`. Statements only; the proofs are in
-- proofs/DecoderCalls.antt, Courses.antt and ReflectedCalls.antt.
use Rattle.std.specs.Prelude.{List, [], ◌∷◌, ◌++◌, ◌⊎◌, ◌≡◌, ℕ, suc, ◌+◌, ◌*◌, ◌≤◌, ◌<◌, ℤ, nat_abs, get_or, take}
use Rattle.lists.specs.Tabulated.{written}
use Rattle.quotient.specs.Quotient.{unit, quotient}
use Rattle.model.specs.Limits.{base_iterations, most_cost, most_row, most_sum, most_numerator}
use Rattle.model.specs.declared.Settings.{Settings}
use Rattle.model.specs.Code.{triples, variables}
use Rattle.model.specs.Records.{code_of, record_causes}
use Rattle.model.specs.Splitting.{System, system_of}
use Rattle.model.specs.Iteration.{at, row, numerator, State, counts_of}
use Rattle.model.specs.Run.{stop, start, Ended, after, run}
use Rattle.model.specs.Words.{bit_at, word_of, outcome}
use Rattle.model.specs.Points.{Codeword, point_of}
use Rattle.model.specs.Reflection.{negated_if, reflect, sum_of_words, Opposite, Reflected}
use Rattle.model.specs.Bounds.{RowsWithin}
use Rattle.model.specs.Calls.{Lists, Decoded, decoder_causes, decoder_cause, decoder_causes_up_to, decoder_up_to}
use Rattle.model.specs.Order.{Refusal, one_to_nine}
use Rattle.model.specs.WordClaims.{Decided}
use Rattle.model.specs.Paper.{Paper}
use Rattle.model.specs.PaperSystem.{PaperSystem, Projection, StartStop}

-- the causes before a run, one by one
abbrev pub causes_before : List ℕ → Settings → List ℤ → Lists → List ℕ
causes_before b o costs l = record_causes b ++ decoder_causes (code_of b) o costs l

-- the run of the code that b says, and its state after i iterations
abbrev pub run_of : List ℕ → Settings → List ℤ → Ended
run_of b o costs = run quotient (system_of (code_of b)) o costs

abbrev pub iterate_of : List ℕ → Settings → List ℤ → ℕ → State
iterate_of b o costs i = after quotient (system_of (code_of b)) o costs i (start (system_of (code_of b)))

-- ---- demand 1: a call that is refused
pub record Refused (b : List ℕ) (o : Settings) (costs : List ℤ) (l : Lists) (d : Decoded) : Type 0 where
  -- its number is 1 to 13, its cause holds and no earlier one does
  pub order : Refusal (causes_before b o costs l) (one_to_nine ++ (10 ∷ 11 ∷ 12 ∷ 13 ∷ [])) d.answer.number
  -- "result fields that a row does not name are 0"
  pub told : d.answer ≡ record { number = d.answer.number; place = 0; k = 0; settled = 0 }
  -- "a refused input leaves all lent lists as they were"
  pub untouched : d.lists ≡ l

-- a call that is not refused: none of the causes holds, and the number says what the last values are
pub record Ran (b : List ℕ) (o : Settings) (costs : List ℤ) (l : Lists) (d : Decoded) : Type 0 where
  pub sound : (i : ℕ) → get_or (causes_before b o costs l) i 0 ≡ 0
  pub number : (d.answer.number ≡ 0) ⊎ ((d.answer.number ≡ 16) ⊎ (d.answer.number ≡ 17))
  pub answer : (d.answer.number ≡ (outcome (code_of b) (run_of b o costs).last.values).number)
      × (d.answer.place ≡ (outcome (code_of b) (run_of b o costs).last.values).place)
  pub decided : Decided (code_of b) (run_of b o costs).last.values
  -- "The decoder also fills lent lists: triples, triple counts per variable"
  pub triples : d.lists.triples ≡ written (system_of (code_of b)).members l.triples
  pub counts : d.lists.counts ≡ written (counts_of (system_of (code_of b))) l.counts
  -- "the word is written" with the number 0, and is a codeword; otherwise the list is left as it was
  pub word : d.answer.number ≡ 0 → d.lists.word ≡ written (word_of (code_of b) (run_of b o costs).last.values) l.word
  pub codeword : d.answer.number ≡ 0 → Codeword (code_of b) (take (code_of b).bits d.lists.word)
  pub kept : (d.answer.number ≡ 0 → ⊥) → d.lists.word ≡ l.word

-- ---- demand 2: "every iterate, the iteration count"
-- a run that ended with e, from the state a, k iterations being done and at most `more` to come
pub record Course (g : System) (o : Settings) (costs : List ℤ) (more k : ℕ) (a : State) (e : Ended) : Type 0 where
  pub steps : ℕ
  pub count : e.k ≡ k + steps
  pub few : steps ≤ more
  pub last : e.last ≡ after quotient g o costs steps a
  -- no iteration before the last stopped it, and the last one did if it was not the limit's
  pub going : (i : ℕ) → suc i < steps → stop g o (after quotient g o costs i a) (after quotient g o costs (suc i) a) ≡ 0
  pub ending : (i : ℕ) → suc i ≡ steps → e.settled ≡ stop g o (after quotient g o costs i a) (after quotient g o costs (suc i) a)
  pub none : steps ≡ 0 → e.settled ≡ 0
  pub early : steps < more → 1 ≤ e.settled
  -- 0, or 1 where it stopped
  pub kinds : e.settled ≤ 1

-- the lists of a state, written to lists that were l
pub record Leaves (a : State) (l m : Lists) : Type 0 where
  pub sums : m.sums ≡ written a.sums l.sums
  pub values : m.values ≡ written a.values l.values
  pub rows : m.rows ≡ written a.rows l.rows

pub record Iterated (b : List ℕ) (o : Settings) (costs : List ℤ) (l : Lists) (d : Decoded) : Type 0 where
  pub course : Course (system_of (code_of b)) o costs o.limit 0 (start (system_of (code_of b))) (run_of b o costs)
  pub count : d.answer.k ≡ course.steps
  pub range : (1 ≤ d.answer.k) × (d.answer.k ≤ o.limit)
  pub settled : d.answer.settled ≡ (run_of b o costs).settled
  -- the lists have the k-th iterate
  pub left : Leaves (iterate_of b o costs d.answer.k) l d.lists

-- how large its numbers get
pub record Bounded (b : List ℕ) (o : Settings) (costs : List ℤ) (d : Decoded) : Type 0 where
  -- "always from −U to U"
  pub values : (v : ℕ) → v < variables (code_of b) → nat_abs (at d.lists.values v) ≤ unit
  -- "s never leaves −65,536 .. 32,768 × K": after every k iterations, and in the list that is left after the last
  pub each : (k : ℕ) → RowsWithin k (iterate_of b o costs k).rows
  pub left : RowsWithin d.answer.k (take (4 * triples (code_of b)) d.lists.rows)
  -- document 02, L2: "A row's s is now bounded by 131,072,000"
  pub rows : (i : ℕ) → i < 4 * triples (code_of b) → nat_abs (at d.lists.rows i) ≤ most_row
  -- S of the last iteration, and what is divided in every one up to K
  pub sums : (v : ℕ) → v < variables (code_of b) → nat_abs (at d.lists.sums v) ≤ most_sum
  pub numerators : (k v : ℕ) → k < o.limit → nat_abs (numerator o.weight (at (iterate_of b o costs (suc k)).sums v) (at costs v)) ≤ most_numerator

-- document 02, L2: "Runs with K up to 1,000 give what they gave": the causes, the answer and the lists are those of the call where K goes to 1,000
pub record AsBefore (b : List ℕ) (o : Settings) (costs : List ℤ) (l : Lists) (d : Decoded) : Type 0 where
  pub causes : decoder_causes (code_of b) o costs l ≡ decoder_causes_up_to base_iterations (code_of b) o costs l
  pub call : d ≡ decoder_up_to base_iterations b o costs l

-- "equal the published QP-ADMM decoder": the system, and the step to every iterate, with its start and its stop
pub record Published (b : List ℕ) (o : Settings) (costs : List ℤ) : Type 0 where
  pub system : PaperSystem (system_of (code_of b))
  pub updates : (i : ℕ) → Paper (system_of (code_of b)) o costs (iterate_of b o costs i)
  pub projections : (i v : ℕ) → v < variables (code_of b) → Projection (system_of (code_of b)) o costs (iterate_of b o costs i) v
  pub stops : (i : ℕ) → StartStop (system_of (code_of b)) o costs (iterate_of b o costs i)

-- costs that are 16-bit numbers and not −32,768, as those of every accepted call are
abbrev pub Small : List ℤ → Type 0
Small costs = (v : ℕ) → nat_abs (at costs v) ≤ most_cost

-- ---- demand 3, of two calls: d with the costs, e with the costs that the codeword w reflects, in lists m of its own
pub record ReflectedCalls (b : List ℕ) (o : Settings) (costs : List ℤ) (w : List ℕ) (m : Lists) (d e : Decoded) : Type 0 where
  -- the second call is accepted as the first is
  pub accepted : decoder_cause b o (reflect w costs) m ≡ 0
  -- "After every iteration of the reflected run c and S are those of the first run, negated where the point has a 1 and the same elsewhere", and rows change
  -- places
  pub each : (i : ℕ) → Reflected (system_of (code_of b)) (point_of (code_of b) w) (iterate_of b o costs i) (iterate_of b o (reflect w costs) i)
  -- "Both runs end after the same iteration; the kind of answer, count, settled and place stay"
  pub answer : e.answer ≡ d.answer
  -- the lists that the calls leave
  pub values : (v : ℕ) → v < variables (code_of b) → at e.lists.values v ≡ negated_if (bit_at (point_of (code_of b) w) v) (at d.lists.values v)
  pub sums : (v : ℕ) → v < variables (code_of b) → at e.lists.sums v ≡ negated_if (bit_at (point_of (code_of b) w) v) (at d.lists.sums v)
  pub rows : (t r q : ℕ) → t < triples (code_of b) → r < 4 → q < 4 → Opposite (point_of (code_of b) w) (system_of (code_of b)).members t r q
      → row e.lists.rows t q ≡ row d.lists.rows t r
  -- "and a written word changes by that codeword, bit by bit modulo 2"
  pub word : d.answer.number ≡ 0 → take (code_of b).bits e.lists.word ≡ sum_of_words w (take (code_of b).bits d.lists.word)
