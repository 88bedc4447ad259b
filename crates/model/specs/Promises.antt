-- What each entry promises of every call: the equation with its definition in Calls, and what follows from it in the words of the demands. An entry's
-- contract cites its record, and so does the C function over it. In each, `order` says that the number is one of the entry's own and that of the first cause
-- that holds, and `follows` that the causes stand in document 01's order. Statements only; the proofs are in proofs/Promises.antt.
use Rattle.std.specs.Prelude.{◌≡◌, false, ◌↔◌, ◌⊎◌, List, [], ◌∷◌, ◌++◌, map, ℕ, suc, ◌≤◌, ◌<◌, Float, ℤ, neg_ℤ, length, get_or, take}
use Rattle.std.specs.Float.{nan}
use Rattle.std.specs.Float.Ieee.{neg}
use Rattle.lists.specs.Tabulated.{written}
use Rattle.model.specs.declared.Settings.{Settings}
use Rattle.model.specs.declared.Channel as declared
use Rattle.model.specs.Limits.{base_iterations}
use Rattle.model.specs.Causes.{accepted}
use Rattle.model.specs.Code.{Code, triples, variables}
use Rattle.model.specs.Records.{code_of, judge, whole_causes, record_causes, records_of}
use Rattle.model.specs.Sound.{Sound}
use Rattle.model.specs.Splitting.{system_of}
use Rattle.model.specs.Iteration.{at, counts_of}
use Rattle.model.specs.Words.{Outcome, tested}
use Rattle.model.specs.Points.{Bits, Codeword, Point, point_of}
use Rattle.model.specs.Reflection.{reflect, sum_of_words}
use Rattle.model.specs.Channel.{product, cost_of}
use Rattle.model.specs.Calls.{ReaderAnswer, reader, Split, splitter_causes, splitter, word_causes, codeword_test, Extended, extension_causes, extension}
use Rattle.model.specs.Calls.{Lists, Decoded, lacks_room, decoder_causes, decoder_cause, decoder, Costs, front_causes, channel_front, reflector_causes, reflector}
use Rattle.model.specs.Order.{odd_causes, run_causes, Follows, Ordered, one_to_nine}
use Rattle.model.specs.TripleRule.{Splits}
use Rattle.model.specs.BaseCodes.{NoPairs, AsInBase}
use Rattle.model.specs.WordClaims.{Tested, PointOf}
use Rattle.model.specs.ChannelClaims.{Costed}
use Rattle.model.specs.Claims.{Demand3}
use Rattle.model.specs.DecoderClaims.{run_of, Refused, Ran, Iterated, Bounded, AsBefore, Published, Small, ReflectedCalls}
use Rattle.model.specs.Composition.{word_of_zeros, sum_of_all, Added, adder_causes, adder, Sums, Composes, Extends, ComposedCalls, Link, Links, words_of, handed_on}

-- ---- the reader: a is what it tells of the bytes b
pub record ReaderCall (b : List ℕ) (a : ReaderAnswer) : Type 0 where
  pub equation : a ≡ reader b
  pub order : Ordered (record_causes b) one_to_nine a.number
  pub follows : Follows 0 (whole_causes b)
  -- the accepted bytes are the records of the codes that 'Code records' describes
  pub exactly : (a.number ≡ 0) ↔ ((k : Code) × Sound k × (b ≡ records_of k))
  pub refused : (c : ℕ) → a.number ≡ suc c → a ≡ record { number = suc c; bits = 0; checks = 0; triples = 0 }
  pub read : a.number ≡ 0
      → a ≡ record { number = 0; bits = (code_of b).bits; checks = length (code_of b).checks; triples = triples (code_of b) }
  -- document 02, L6: without checks of two bits the causes, and all that is made of the code, are what they were
  pub base_code : NoPairs (code_of b) → AsInBase b

-- ---- the splitting: a is its number and the lists that were ts and cs
pub record SplitterCall (b ts cs : List ℕ) (a : Split) : Type 0 where
  pub equation : a ≡ splitter b ts cs
  pub order : Ordered (record_causes b ++ splitter_causes (code_of b) ts cs) (one_to_nine ++ (10 ∷ [])) a.number
  pub follows : Follows 0 (whole_causes b ++ splitter_causes (code_of b) ts cs)
  pub refused : (c : ℕ) → a.number ≡ suc c → (a.triples ≡ ts) × (a.counts ≡ cs)
  pub split : a.number ≡ 0 → (a.triples ≡ written (system_of (code_of b)).members ts) × (a.counts ≡ written (counts_of (system_of (code_of b))) cs)
  -- they are the triples of the rule, check by check, and how often each variable stands in them
  pub splits : a.number ≡ 0 → Splits (code_of b)
  pub base_code : NoPairs (code_of b) → AsInBase b

-- ---- the channel front: a is its number and the list that was old
pub record FrontCall (setting : declared.Channel) (samples : List Float) (old : List ℤ) (a : Costs) : Type 0 where
  pub equation : a ≡ channel_front setting samples old
  pub order : Ordered (front_causes setting samples old) (10 ∷ 11 ∷ 14 ∷ []) a.number
  pub follows : Follows 0 (front_causes setting samples old)
  pub refused : (c : ℕ) → a.number ≡ suc c → a.costs ≡ old
  pub filled : a.number ≡ 0 → a.costs ≡ written (map (cost_of setting) samples) old
  -- "The cost is the nearest whole number, halves away from zero, limited to −32,767..32,767; an infinite product goes to the limit."
  pub costed : a.number ≡ 0 → (i : ℕ) → i < length samples → Costed (product setting (get_or samples i nan)) (at a.costs i)
  -- "Negated samples give negated costs.": the number stays, and an accepted call writes the negated costs
  pub negated : channel_front setting (map neg samples) old ≡ record {
    number = a.number;
    costs = accepted a.number (written (map neg_ℤ (map (cost_of setting) samples)) old) old;
  }

-- ---- the reflector: a is its number and the list that was old
pub record ReflectorCall (costs : List ℤ) (w : List ℕ) (old : List ℤ) (a : Costs) : Type 0 where
  pub equation : a ≡ reflector costs w old
  pub order : Ordered (reflector_causes costs w old) (10 ∷ 12 ∷ 13 ∷ 15 ∷ []) a.number
  pub follows : Follows 0 (reflector_causes costs w old)
  pub exactly : (a.number ≡ 0) ↔ (Small costs × Bits (length costs) w × (length costs ≤ length old))
  pub refused : (c : ℕ) → a.number ≡ suc c → a.costs ≡ old
  pub reflected : a.number ≡ 0 → a.costs ≡ written (reflect w costs) old
  -- document 02, L3, of the definitions
  pub composes : Composes costs
  -- of this call and a second one with the costs that it wrote, which gave c
  pub composed : a.number ≡ 0 → (u : List ℕ) (out : List ℤ) (c : Costs) → c ≡ reflector (take (length costs) a.costs) u out → ComposedCalls costs w u out c
  -- of a chain of calls: this one, those of l, and a last one, which gave c as if this one had been with the sum of all words before; each of those
  -- is accepted, being the last of a shorter chain
  pub chain : a.number ≡ 0 → (l : List Link) → Links (Bits (length costs)) (length costs) l
      → (u : List ℕ) (out : List ℤ) (c : Costs) → c ≡ reflector (handed_on (take (length costs) a.costs) l) u out
      → ComposedCalls costs (sum_of_words w (sum_of_all (length costs) (words_of l))) u out c
  -- and of a call with the zero word
  pub zero_word : a.number ≡ 0 → (out : List ℤ) → length costs ≤ length out
      → reflector costs (word_of_zeros (length costs)) out ≡ record { number = 0; costs = written costs out }

-- ---- the sum of two words: a is its number and the list that was old
pub record AdderCall (w u old : List ℕ) (a : Added) : Type 0 where
  pub equation : a ≡ adder w u old
  pub order : Ordered (adder_causes w u old) (10 ∷ 12 ∷ 15 ∷ []) a.number
  pub follows : Follows 0 (adder_causes w u old)
  pub exactly : (a.number ≡ 0) ↔ (Bits (length w) w × Bits (length w) u × (length w ≤ length old))
  pub refused : (c : ℕ) → a.number ≡ suc c → a.word ≡ old
  pub summed : a.number ≡ 0 → a.word ≡ written (sum_of_words w u) old
  -- what is handed on is the sum
  pub taken : a.number ≡ 0 → take (length w) a.word ≡ sum_of_words w u
  pub sums : Sums (length w)

-- ---- the codeword test: a is what it tells of the word w
pub record TestCall (b w : List ℕ) (a : Outcome) : Type 0 where
  pub equation : a ≡ codeword_test b w
  pub order : Ordered (record_causes b ++ (word_causes (code_of b).bits w ++ odd_causes (code_of b) w)) (one_to_nine ++ (12 ∷ 15 ∷ 17 ∷ [])) a.number
  pub follows : Follows 0 (whole_causes b ++ (word_causes (code_of b).bits w ++ odd_causes (code_of b) w))
  -- the number 0 is for the codewords of accepted codes
  pub codeword : (a.number ≡ 0) ↔ ((judge b ≡ 0) × Codeword (code_of b) w)
  -- 17: "not a codeword, with the first such check"; no other number has a place
  pub odd : a.number ≡ 17 → (a ≡ tested (code_of b) w) × Tested (code_of b) w
  pub place : (a.number ≡ 17 → ⊥) → a.place ≡ 0
  -- the sum of two codewords is one: where the word u passes too, so does the sum
  pub sum : a.number ≡ 0 → (u : List ℕ) → (codeword_test b u).number ≡ 0 → codeword_test b (sum_of_words w u) ≡ record { number = 0; place = 0 }

-- ---- the extension: a is what it tells of the word w, and the list that was p
pub record ExtensionCall (b w p : List ℕ) (a : Extended) : Type 0 where
  pub equation : a ≡ extension b w p
  pub order : Ordered (record_causes b ++ (extension_causes (code_of b) w p ++ odd_causes (code_of b) w)) (one_to_nine ++ (10 ∷ 12 ∷ 15 ∷ 17 ∷ []))
      a.outcome.number
  pub follows : Follows 0 (whole_causes b ++ (extension_causes (code_of b) w p ++ odd_causes (code_of b) w))
  -- the number 0 is for the codewords of accepted codes, where there is room
  pub codeword : (a.outcome.number ≡ 0) ↔ ((judge b ≡ 0) × (variables (code_of b) ≤ length p) × Codeword (code_of b) w)
  -- with it the codeword's point is written, which is the only point over the codeword
  pub filled : a.outcome.number ≡ 0 → a.point ≡ written (point_of (code_of b) w) p
  pub point : a.outcome.number ≡ 0 → PointOf (code_of b) w (take (variables (code_of b)) a.point)
  pub only : a.outcome.number ≡ 0 → (x : List ℕ) → Point (system_of (code_of b)) x → take (code_of b).bits x ≡ w
      → x ≡ take (variables (code_of b)) a.point
  pub odd : a.outcome.number ≡ 17 → (a.outcome ≡ tested (code_of b) w) × Tested (code_of b) w
  pub place : (a.outcome.number ≡ 17 → ⊥) → a.outcome.place ≡ 0
  pub untouched : (a.outcome.number ≡ 0 → ⊥) → a.point ≡ p
  -- document 02, L3, of the code
  pub extends : judge b ≡ 0 → Extends (code_of b)
  -- and of three calls: this one, an accepted one with u, which gave c, and one with the sum, in a list with the room, which gave d
  pub sum : a.outcome.number ≡ 0 → (u q : List ℕ) (c : Extended) → c ≡ extension b u q → c.outcome.number ≡ 0
      → (out : List ℕ) → variables (code_of b) ≤ length out → (d : Extended) → d ≡ extension b (sum_of_words w u) out
      → d ≡ record {
        outcome = record { number = 0; place = 0 };
        point = written (sum_of_words (take (variables (code_of b)) a.point) (take (variables (code_of b)) c.point)) out;
      }

-- ---- the decoder: d is its answer and the lists that were l
pub record DecoderCall (b : List ℕ) (o : Settings) (costs : List ℤ) (l : Lists) (d : Decoded) : Type 0 where
  pub equation : d ≡ decoder b o costs l
  -- demand 1
  pub order : Ordered (record_causes b ++ (decoder_causes (code_of b) o costs l ++ run_causes (code_of b) (run_of b o costs).last.values))
      (one_to_nine ++ (10 ∷ 11 ∷ 12 ∷ 13 ∷ 16 ∷ 17 ∷ [])) d.answer.number
  pub follows : Follows 0 (whole_causes b ++ (decoder_causes (code_of b) o costs l ++ run_causes (code_of b) (run_of b o costs).last.values))
  pub refused : (c : ℕ) → decoder_cause b o costs l ≡ suc c → Refused b o costs l d
  -- demand 2
  pub ran : decoder_cause b o costs l ≡ 0 → Ran b o costs l d
  pub iterated : decoder_cause b o costs l ≡ 0 → Iterated b o costs l d
  pub bounded : decoder_cause b o costs l ≡ 0 → Bounded b o costs d
  pub published : decoder_cause b o costs l ≡ 0 → Published b o costs
  pub as_before : o.limit ≤ base_iterations → AsBefore b o costs l d
  pub base_code : NoPairs (code_of b) → AsInBase b
  -- demand 3 of the code, and of this call and a second one, which gave e, with the costs that w reflects and lists m of its own that have the room
  pub demand_3 : judge b ≡ 0 → Demand3 (code_of b)
  pub reflected : decoder_cause b o costs l ≡ 0 → (w : List ℕ) → Codeword (code_of b) w → (m : Lists) → lacks_room (code_of b) m ≡ false
      → (e : Decoded) → e ≡ decoder b o (reflect w costs) m → ReflectedCalls b o costs w m d e
  -- of this call and one, which gave e, with the costs that the calls of a chain c hand on, each with a codeword and a list that has the room: it is as if
  -- they were reflected once, by the sum of the codewords
  pub chain : decoder_cause b o costs l ≡ 0 → (c : List Link) → Links (Codeword (code_of b)) (length costs) c → (m : Lists) → lacks_room (code_of b) m ≡ false
      → (e : Decoded) → e ≡ decoder b o (handed_on costs c) m → ReflectedCalls b o costs (sum_of_all (code_of b).bits (words_of c)) m d e
  -- end to end, by the answers alone: this call ended with 0, 16 or 17, the codeword test of w with t, the reflector in the list old with r, and a second
  -- call with the costs that the reflector wrote with e
  pub end_to_end : (d.answer.number ≡ 0) ⊎ ((d.answer.number ≡ 16) ⊎ (d.answer.number ≡ 17))
      → (w : List ℕ) (t : Outcome) → TestCall b w t → t.number ≡ 0
      → (old : List ℤ) (r : Costs) → ReflectorCall costs w old r → r.number ≡ 0
      → (m : Lists) → lacks_room (code_of b) m ≡ false
      → (e : Decoded) → e ≡ decoder b o (take (length costs) r.costs) m → ReflectedCalls b o costs w m d e
