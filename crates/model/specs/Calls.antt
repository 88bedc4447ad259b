-- Document 01, 'Causes and codes': for each call of the library, from its inputs and the lent lists as they were, its number and values
-- and the lists as they are afterwards. The order of the causes is the order of the list `.._causes`; where code records are read, theirs come first.
-- `.._told` gives the number and the values of every case of an answer. Definitions only.
use Rattle.std.specs.Prelude.{Bool, false, not, ◌||◌, List, [], ◌∷◌, ◌++◌, map, ℕ, suc, ◌*◌, ◌≤◌, ltb, eqb, Float, ℤ, pos, negsuc, length, Result, Ok, Err}
use Rattle.lists.specs.Tabulated.{written}
use Rattle.lists.specs.Entries.{some}
use Rattle.quotient.specs.Quotient.{quotient}
use Rattle.model.specs.declared.Settings.{Settings}
use Rattle.model.specs.declared.Channel as declared
use Rattle.model.specs.declared.Cause.{Cause}
use Rattle.model.specs.declared.Sizes.{Sizes}
use Rattle.model.specs.declared.Verdict.{Verdict}
use Rattle.model.specs.declared.Conclusion.{Conclusion}
use Rattle.model.specs.declared.Ending.{Ending}
use Rattle.model.specs.declared.Decoding.{Decoding}
use Rattle.model.specs.declared.DecodeAnswer.{DecodeAnswer}
use Rattle.model.specs.Limits.{most_weight, most_ratio, most_iterations}
use Rattle.model.specs.Causes.{number, ◌if◌, first_of, short, outside, accepted}
use Rattle.model.specs.Code.{Code, triples, variables}
use Rattle.model.specs.Records.{code_of, judge}
use Rattle.model.specs.Splitting.{system_of}
use Rattle.model.specs.Iteration.{counts_of}
use Rattle.model.specs.Run.{Ended, run}
use Rattle.model.specs.Words.{Outcome, word_of, tested, outcome}
use Rattle.model.specs.Points.{point_of}
use Rattle.model.specs.Reflection.{reflect}
use Rattle.model.specs.Channel.{finite, in_range, cost_of}

-- ---- causes 11 to 15
-- "cost weight W (1 to 65,535), ratio A (0 to 1,023 …), iterations K …, tolerance X (any 32-bit unsigned)"; "K goes to 4,000" (document 02, L2)
pub record InRange (o : Settings) : Type 0 where
  pub weight : (1 ≤ o.weight) × (o.weight ≤ most_weight)
  pub ratio : o.ratio ≤ most_ratio
  pub limit : (1 ≤ o.limit) × (o.limit ≤ most_iterations)

-- 11, of a run, where K goes to `most`
abbrev pub out_of_range_up_to : ℕ → Settings → Bool
out_of_range_up_to most o = outside 1 most_weight o.weight || (ltb most_ratio o.ratio || outside 1 most o.limit)

abbrev pub out_of_range : Settings → Bool
out_of_range o = out_of_range_up_to most_iterations o

-- 12: "list lengths that must agree do not"
abbrev pub unequal : {A : Type 0} → List A → ℕ → Bool
unequal l n = not (eqb (length l) n)

-- 13: "a cost of −32,768"
abbrev pub forbidden : ℤ → Bool
forbidden (pos n) = false
forbidden (negsuc n) = eqb (suc n) 32768

-- 15: "a word entry neither 0 nor 1"
abbrev pub not_binary : ℕ → Bool
not_binary b = ltb 1 b

-- ---- "The reader hands back n, m and the number of triples."
pub record ReaderAnswer : Type 0 where
  pub number : ℕ
  pub bits : ℕ
  pub checks : ℕ
  pub triples : ℕ

abbrev pub reading_told : Result Sizes Cause → ReaderAnswer
reading_told (Ok s) = record { number = 0; bits = s.bits; checks = s.checks; triples = s.triples }
reading_told (Err c) = record { number = number c; bits = 0; checks = 0; triples = 0 }

unfoldable pub reader : List ℕ → ReaderAnswer
reader b = record {
  number = judge b;
  bits = accepted (judge b) (code_of b).bits 0;
  checks = accepted (judge b) (length (code_of b).checks) 0;
  triples = accepted (judge b) (triples (code_of b)) 0;
}

-- ---- the splitting
pub record Split : Type 0 where
  pub number : ℕ
  pub triples : List ℕ
  pub counts : List ℕ

abbrev pub splitter_causes : Code → List ℕ → List ℕ → List ℕ
splitter_causes k ts cs = 10 if (short (3 * triples k) ts || short (variables k) cs) ∷ []

unfoldable pub splitter : List ℕ → List ℕ → List ℕ → Split
splitter b ts cs =
    let k = code_of b in
    let c = first_of (judge b ∷ splitter_causes k ts cs) in
    record {
      number = c;
      triples = accepted c (written (system_of k).members ts) ts;
      counts = accepted c (written (counts_of (system_of k)) cs) cs;
    }

-- ---- the codeword test, and the extension
abbrev pub verdict_told : Result Verdict Cause → Outcome
verdict_told (Ok Verdict.Codeword) = record { number = 0; place = 0 }
verdict_told (Ok (Verdict.Odd j)) = record { number = 17; place = j }
verdict_told (Err c) = record { number = number c; place = 0 }

-- the test of a word, unless the cause c refuses it
abbrev pub tested_unless : ℕ → Code → List ℕ → Outcome
tested_unless c k w = accepted c (tested k w) (record { number = c; place = 0 })

-- of a word for a code of n bits
abbrev pub word_causes : ℕ → List ℕ → List ℕ
word_causes n w = 12 if unequal w n ∷ 15 if some not_binary w ∷ []

unfoldable pub codeword_test : List ℕ → List ℕ → Outcome
codeword_test b w =
    let k = code_of b in
    tested_unless (first_of (judge b ∷ word_causes k.bits w)) k w

pub record Extended : Type 0 where
  pub outcome : Outcome
  pub point : List ℕ

abbrev pub extension_causes : Code → List ℕ → List ℕ → List ℕ
extension_causes k w p = word_causes k.bits w ++ (10 if short (variables k) p ∷ [])

unfoldable pub extension : List ℕ → List ℕ → List ℕ → Extended
extension b w p =
    let k = code_of b in
    let out = tested_unless (first_of (judge b ∷ extension_causes k w p)) k w in
    record { outcome = out; point = accepted out.number (written (point_of k w) p) p }

-- ---- the decoder
-- "The decoder also fills lent lists: triples, triple counts per variable, S of the last iteration, c, s", and the word
pub record Lists : Type 0 where
  pub triples : List ℕ
  pub counts : List ℕ
  pub sums : List ℤ
  pub values : List ℤ
  pub rows : List ℤ
  pub word : List ℕ

abbrev pub lists_of : List ℕ → List ℕ → List ℤ → List ℤ → List ℤ → List ℕ → Lists
lists_of ts cs S c s w = record { triples = ts; counts = cs; sums = S; values = c; rows = s; word = w }

pub record Answer : Type 0 where
  pub number : ℕ
  pub place : ℕ
  pub k : ℕ
  pub settled : ℕ

abbrev pub run_told : DecodeAnswer → Answer
run_told a = record { number = a.number; place = a.place; k = a.k; settled = a.settled }

-- what the last values say
abbrev pub conclusion_told : Conclusion → Outcome
conclusion_told Conclusion.Word = record { number = 0; place = 0 }
conclusion_told (Conclusion.Undecided v) = record { number = 16; place = v }
conclusion_told (Conclusion.Odd j) = record { number = 17; place = j }

-- 1 where a run settled, otherwise 0
abbrev pub settled_told : Ending → ℕ
settled_told e = 1 if e.settled

abbrev pub decoding_told : Result Decoding Cause → Answer
decoding_told (Ok d) = let out = conclusion_told d.conclusion in
    record { number = out.number; place = out.place; k = d.ending.k; settled = settled_told d.ending }
decoding_told (Err c) = record { number = number c; place = 0; k = 0; settled = 0 }

pub record Decoded : Type 0 where
  pub answer : Answer
  pub lists : Lists

-- lists with room for T triples, so many variables and n bits
pub record HasRoom (T variables n : ℕ) (l : Lists) : Type 0 where
  pub triples : 3 * T ≤ length l.triples
  pub counts : variables ≤ length l.counts
  pub sums : variables ≤ length l.sums
  pub values : variables ≤ length l.values
  pub rows : 4 * T ≤ length l.rows
  pub word : n ≤ length l.word

-- 10: 3T, V, V, V, 4T and n entries
abbrev pub lacks_room : Code → Lists → Bool
lacks_room k l =
    short (3 * triples k) l.triples || (short (variables k) l.counts || (short (variables k) l.sums
    || (short (variables k) l.values || (short (4 * triples k) l.rows || short k.bits l.word))))

-- of settings that are out of range or not, of the costs of n bits, and of lists that are too short or not
abbrev pub input_causes : Bool → List ℤ → ℕ → Bool → List ℕ
input_causes out costs n too_short = 11 if out ∷ 12 if unequal costs n ∷ 13 if some forbidden costs ∷ 10 if too_short ∷ []

-- what a run that ended with e leaves: "All three carry k and whether settled", and the word is written with the number 0
unfoldable pub decoded_by : Code → Ended → Lists → Decoded
decoded_by k e l =
    let out = outcome k e.last.values in
    record {
      answer = record { number = out.number; place = out.place; k = e.k; settled = e.settled };
      lists = record {
        triples = written (system_of k).members l.triples;
        counts = written (counts_of (system_of k)) l.counts;
        sums = written e.last.sums l.sums;
        values = written e.last.values l.values;
        rows = written e.last.rows l.rows;
        word = accepted out.number (written (word_of k e.last.values) l.word) l.word;
      };
    }

-- a call, where K goes to `most`
module _ (most : ℕ) where
  abbrev pub decoder_causes_up_to : Code → Settings → List ℤ → Lists → List ℕ
  decoder_causes_up_to k o costs l = input_causes (out_of_range_up_to most o) costs k.bits (lacks_room k l)

  -- why it is refused, 0 where it is not
  unfoldable pub decoder_cause_up_to : List ℕ → Settings → List ℤ → Lists → ℕ
  decoder_cause_up_to b o costs l = first_of (judge b ∷ decoder_causes_up_to (code_of b) o costs l)

  unfoldable pub decoder_up_to : List ℕ → Settings → List ℤ → Lists → Decoded
  decoder_up_to b o costs l =
      let c = decoder_cause_up_to b o costs l in
      accepted c
      (decoded_by (code_of b) (run quotient (system_of (code_of b)) o costs) l)
      (record { answer = record { number = c; place = 0; k = 0; settled = 0 }; lists = l })

abbrev pub decoder_causes : Code → Settings → List ℤ → Lists → List ℕ
decoder_causes = decoder_causes_up_to most_iterations

abbrev pub decoder_cause : List ℕ → Settings → List ℤ → Lists → ℕ
decoder_cause = decoder_cause_up_to most_iterations

abbrev pub decoder : List ℕ → Settings → List ℤ → Lists → Decoded
decoder = decoder_up_to most_iterations

-- ---- the channel front and the reflector, whose result is one list of costs
pub record Costs : Type 0 where
  pub number : ℕ
  pub costs : List ℤ

abbrev pub front_causes : declared.Channel → List Float → List ℤ → List ℕ
front_causes setting samples old =
    11 if not (in_range setting) ∷ 14 if some (λ x. not (finite x)) samples ∷ 10 if short (length samples) old ∷ []

unfoldable pub channel_front : declared.Channel → List Float → List ℤ → Costs
channel_front setting samples old =
    let c = first_of (front_causes setting samples old) in
    record { number = c; costs = accepted c (written (map (cost_of setting) samples) old) old }

abbrev pub reflector_causes : List ℤ → List ℕ → List ℤ → List ℕ
reflector_causes costs w old =
    12 if unequal w (length costs) ∷ 13 if some forbidden costs ∷ 15 if some not_binary w ∷ 10 if short (length costs) old ∷ []

unfoldable pub reflector : List ℤ → List ℕ → List ℤ → Costs
reflector costs w old =
    let c = first_of (reflector_causes costs w old) in
    record { number = c; costs = accepted c (written (reflect w costs) old) old }
