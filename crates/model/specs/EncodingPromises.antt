-- What the functions of the encoder promise of every call, as `Promises` does it for the other entries. Statements only; the proofs are in
-- proofs/EncodingPromises.antt.
use Rattle.std.specs.Prelude.{◌≡◌, false, ◌↔◌, List, [], ◌∷◌, ◌++◌, ℕ, suc, ◌*◌, ◌≤◌, ◌<◌, ℤ, length, take}
use Rattle.lists.specs.Tabulated.{written, part}
use Rattle.model.specs.declared.Settings.{Settings}
use Rattle.model.specs.Limits.{most_encoded_bits}
use Rattle.model.specs.Records.{code_of, judge, whole_causes, record_causes}
use Rattle.model.specs.Words.{tested}
use Rattle.model.specs.Points.{Bits, Codeword}
use Rattle.model.specs.Reflection.{sum_of_words}
use Rattle.model.specs.Calls.{codeword_test, Lists, Decoded, lacks_room, decoder_cause, decoder, Costs, reflector}
use Rattle.model.specs.Order.{odd_causes, Follows, Ordered, one_to_nine}
use Rattle.model.specs.WordClaims.{Tested}
use Rattle.model.specs.DecoderClaims.{Small, ReflectedCalls}
use Rattle.model.specs.Encoding.{Length, message_length, encoded, message_of, encoded_frames, size_causes, message_size, Encoding}
use Rattle.model.specs.Encoding.{encoder_causes, encoder, frames_causes, frames_encoder, MessageRead, message_reader_causes, message_reader, Encodes}

-- the code that the records b have is accepted, and not too long to be encoded
pub record Encodable (b : List ℕ) : Type 0 where
  pub accepted : judge b ≡ 0
  pub size : (code_of b).bits ≤ most_encoded_bits

-- the word that a call wrote
abbrev pub word_in : List ℕ → Encoding → List ℕ
word_in b a = take (code_of b).bits a.words

-- ---- the length of a message: a is what is told
pub record LengthCall (b : List ℕ) (a : Length) : Type 0 where
  pub equation : a ≡ message_size b
  pub order : Ordered (record_causes b ++ size_causes (code_of b)) (one_to_nine ++ (20 ∷ [])) a.number
  pub follows : Follows 0 (whole_causes b ++ size_causes (code_of b))
  pub exactly : (a.number ≡ 0) ↔ Encodable b
  pub refused : (c : ℕ) → a.number ≡ suc c → a ≡ record { number = suc c; length = 0 }
  pub told : a.number ≡ 0 → a ≡ record { number = 0; length = message_length (code_of b) }
  -- messages of this length are those that the encoder takes
  pub taken : a.number ≡ 0 → (m old : List ℕ) → (code_of b).bits ≤ length old → ((encoder b m old).number ≡ 0) ↔ Bits a.length m

-- ---- the encoder: a is its number and the list that was old
pub record EncoderCall (b m old : List ℕ) (a : Encoding) : Type 0 where
  pub equation : a ≡ encoder b m old
  pub order : Ordered (record_causes b ++ encoder_causes (code_of b) m old) (one_to_nine ++ (10 ∷ 12 ∷ 15 ∷ 20 ∷ [])) a.number
  pub follows : Follows 0 (whole_causes b ++ encoder_causes (code_of b) m old)
  pub exactly : (a.number ≡ 0) ↔ (Encodable b × Bits (message_length (code_of b)) m × ((code_of b).bits ≤ length old))
  pub refused : (c : ℕ) → a.number ≡ suc c → a.words ≡ old
  pub filled : a.number ≡ 0 → a.words ≡ written (encoded (code_of b) m) old
  pub word : a.number ≡ 0 → word_in b a ≡ encoded (code_of b) m
  -- document 02, L5, of the code
  pub encodes : judge b ≡ 0 → Encodes (code_of b)
  -- and of calls: what was written passes the codeword test,
  pub tested : a.number ≡ 0 → codeword_test b (word_in b a) ≡ record { number = 0; place = 0 }
  -- its message is m again,
  pub read_back : a.number ≡ 0 → (out : List ℕ) → length m ≤ length out
      → message_reader b (word_in b a) out ≡ record { outcome = record { number = 0; place = 0 }; message = written m out }
  -- an accepted call with l writes the same only where l is m,
  pub one_message : a.number ≡ 0 → (l out : List ℕ) → (encoder b l out).number ≡ 0
      → word_in b (encoder b l out) ≡ word_in b a → l ≡ m
  -- the sum of m and the message of an accepted call, which gave c, is accepted in a list with the room, and the sum of both words is written,
  pub sum : a.number ≡ 0 → (l lent : List ℕ) (c : Encoding) → c ≡ encoder b l lent → c.number ≡ 0
      → (out : List ℕ) → (code_of b).bits ≤ length out
      → encoder b (sum_of_words m l) out ≡ record { number = 0; words = written (sum_of_words (word_in b a) (word_in b c)) out }
  -- and the costs of a frame may be reflected by it: the reflector, with a list that has the room, takes them; and where the decoder took them and gave d,
  -- a call with the costs that the reflector wrote and lists that have the room, which gave e, is the reflection of that call
  pub reflected : a.number ≡ 0 → (costs : List ℤ) → Small costs → length costs ≡ (code_of b).bits → (out : List ℤ) → length costs ≤ length out
      → (r : Costs) → r ≡ reflector costs (word_in b a) out
      → (r.number ≡ 0) × ((o : Settings) (l : Lists) → decoder_cause b o costs l ≡ 0 → (d : Decoded) → d ≡ decoder b o costs l
      → (n : Lists) → lacks_room (code_of b) n ≡ false → (e : Decoded) → e ≡ decoder b o (take (length costs) r.costs) n
      → ReflectedCalls b o costs (word_in b a) n d e)

-- ---- many frames: a is the number and the list that was old
pub record FramesCall (b : List ℕ) (f : ℕ) (ms old : List ℕ) (a : Encoding) : Type 0 where
  pub equation : a ≡ frames_encoder b f ms old
  pub order : Ordered (record_causes b ++ frames_causes (code_of b) f ms old) (one_to_nine ++ (10 ∷ 12 ∷ 15 ∷ 20 ∷ [])) a.number
  pub follows : Follows 0 (whole_causes b ++ frames_causes (code_of b) f ms old)
  pub exactly : (a.number ≡ 0) ↔ (Encodable b × Bits (f * message_length (code_of b)) ms × (f * (code_of b).bits ≤ length old))
  pub refused : (c : ℕ) → a.number ≡ suc c → a.words ≡ old
  pub filled : a.number ≡ 0 → a.words ≡ written (encoded_frames (code_of b) f ms) old
  -- each frame is one of its own: a call of the encoder with its message, in a list with the room, is accepted and writes its word
  pub each : a.number ≡ 0 → (g : ℕ) → g < f → (out : List ℕ) → (code_of b).bits ≤ length out
      → encoder b (part (message_length (code_of b)) g ms) out ≡ record { number = 0; words = written (part (code_of b).bits g a.words) out }
  -- and one frame is a call of the encoder
  pub single : f ≡ 1 → a ≡ encoder b ms old

-- ---- the message of a codeword: a is what is told of the word w, and the list that was old
pub record MessageCall (b w old : List ℕ) (a : MessageRead) : Type 0 where
  pub equation : a ≡ message_reader b w old
  pub order : Ordered (record_causes b ++ (message_reader_causes (code_of b) w old ++ odd_causes (code_of b) w)) (one_to_nine ++ (10 ∷ 12 ∷ 15 ∷ 17 ∷ 20 ∷ []))
      a.outcome.number
  pub follows : Follows 0 (whole_causes b ++ (message_reader_causes (code_of b) w old ++ odd_causes (code_of b) w))
  -- the number 0 is for the codewords of such codes, where there is room
  pub exactly : (a.outcome.number ≡ 0) ↔ (Encodable b × Codeword (code_of b) w × (message_length (code_of b) ≤ length old))
  pub filled : a.outcome.number ≡ 0 → a.message ≡ written (message_of (code_of b) w) old
  -- the message is encoded as the word, in a list with the room
  pub encoded_back : a.outcome.number ≡ 0 → (out : List ℕ) → (code_of b).bits ≤ length out
      → encoder b (take (message_length (code_of b)) a.message) out ≡ record { number = 0; words = written w out }
  pub odd : a.outcome.number ≡ 17 → (a.outcome ≡ tested (code_of b) w) × Tested (code_of b) w
  pub place : (a.outcome.number ≡ 17 → ⊥) → a.outcome.place ≡ 0
  pub untouched : (a.outcome.number ≡ 0 → ⊥) → a.message ≡ old
