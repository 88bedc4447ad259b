-- Document 02, L5: "An encoder for course frames." Definitions, with the calls, then statements about them; the proofs are in proofs/Encoding.antt.
use Rattle.std.specs.Prelude.{◌≡◌, Bool, true, false, not, ◌↔◌, List, [], ◌∷◌, ◌++◌, ℕ, zero, suc, ◌+◌, ◌*◌, ◌%◌, ◌<◌, ltb, eqb, length, get_or, drop, replicate}
use Rattle.integers.specs.Sum.{sum_ℕ}
use Rattle.lists.specs.Tabulated.{tab, written, part}
use Rattle.lists.specs.Entries.{some, total}
use Rattle.model.specs.Limits.{most_encoded_bits}
use Rattle.model.specs.Causes.{◌if◌, first_of, short, accepted}
use Rattle.model.specs.Code.{Code}
use Rattle.model.specs.Records.{code_of, judge}
use Rattle.model.specs.Words.{bit_at, Outcome}
use Rattle.model.specs.Points.{Bits, Codeword}
use Rattle.model.specs.Reflection.{sum_of_words}
use Rattle.model.specs.Calls.{unequal, not_binary, tested_unless, word_causes}

-- ---- the check matrix (H of 000): a row for each check, a column for each bit
-- what the row of a check has in column j: 1 at its bits
abbrev pub element : List ℕ → ℕ → ℕ
element c j = 1 if some (eqb j) c

abbrev pub row_of : ℕ → List ℕ → List ℕ
row_of n c = tab n (element c)

-- ---- "Reduce the check matrix modulo 2 with the earliest possible pivot columns."
-- A column of the reduced matrix: a pivot, with what its row has in the columns after it (it has zeros before), or another one
pub data Column : Type 0 where
  pivot : List ℕ → Column
  other : Column

-- One row more, given by its entries in these columns. Where it has a 1 in a pivot's column, the pivot's row is added; the first 1 that stands in another
-- column makes it a pivot, and a row of which nothing is left is dropped
unfoldable pub cleared : List Column → List ℕ → List Column
cleared [] r = []
cleared (c ∷ cs) [] = c ∷ cs
cleared (c ∷ cs) (zero ∷ r) = c ∷ cleared cs r
cleared (other ∷ cs) (suc x ∷ r) = pivot r ∷ cs
cleared (pivot q ∷ cs) (suc x ∷ r) = pivot q ∷ cleared cs (sum_of_words r q)

-- the rows of the checks one after the other
unfoldable pub reduced_by : ℕ → List (List ℕ) → List Column → List Column
reduced_by n [] cs = cs
reduced_by n (c ∷ checks) cs = reduced_by n checks (cleared cs (row_of n c))

unfoldable pub reduced : Code → List Column
reduced k = reduced_by k.bits k.checks (replicate k.bits other)

abbrev pub is_other : Column → Bool
is_other (pivot q) = false
is_other other = true

-- ---- messages and words
abbrev pub others : List Column → ℕ
others cs = total (λ c. 1 if is_other c) cs

-- the sum of the products of two lists' entries
abbrev pub inner_product : List ℕ → List ℕ → ℕ
inner_product [] w = 0
inner_product (a ∷ r) [] = 0
inner_product (a ∷ r) (x ∷ w) = a * x + inner_product r w

-- "Message bits go in the other columns in rising order, and the checks then fix the pivot bits": a pivot's row asks for an even sum
unfoldable pub encoded_in : List Column → List ℕ → List ℕ
encoded_in [] m = []
encoded_in (other ∷ cs) m = bit_at m 0 ∷ encoded_in cs (drop 1 m)
encoded_in (pivot q ∷ cs) m = let w = encoded_in cs m in inner_product q w % 2 ∷ w

-- the entries of a word in the other columns
unfoldable pub message_in : List Column → List ℕ → List ℕ
message_in [] w = []
message_in (other ∷ cs) w = bit_at w 0 ∷ message_in cs (drop 1 w)
message_in (pivot q ∷ cs) w = message_in cs (drop 1 w)

abbrev pub message_length : Code → ℕ
message_length k = others (reduced k)

abbrev pub encoded : Code → List ℕ → List ℕ
encoded k m = encoded_in (reduced k) m

abbrev pub message_of : Code → List ℕ → List ℕ
message_of k w = message_in (reduced k) w

-- the words of so many messages, both one behind the other
unfoldable pub frames_in : List Column → ℕ → List ℕ → List ℕ
frames_in cs zero ms = []
frames_in cs (suc f) ms = frames_in cs f ms ++ encoded_in cs (part (others cs) f ms)

abbrev pub encoded_frames : Code → ℕ → List ℕ → List ℕ
encoded_frames k f ms = frames_in (reduced k) f ms

-- ---- calls
-- "20 for more than 256 bits, after 8"
abbrev pub size_causes : Code → List ℕ
size_causes k = 20 if ltb most_encoded_bits k.bits ∷ []

-- how long a message is
pub record Length : Type 0 where
  pub number : ℕ
  pub length : ℕ

unfoldable pub message_size : List ℕ → Length
message_size b =
    let k = code_of b in
    let c = first_of (judge b ∷ size_causes k) in
    record { number = c; length = accepted c (message_length k) 0 }

-- the word of a message, or the words of many
pub record Encoding : Type 0 where
  pub number : ℕ
  pub words : List ℕ

-- "a message of the wrong length gets 12, an entry other than 0 or 1 gets 15": of messages that have `long` entries, for words that have `room`
abbrev pub message_causes : ℕ → ℕ → List ℕ → List ℕ → List ℕ
message_causes long room ms old = 12 if unequal ms long ∷ 15 if some not_binary ms ∷ 10 if short room old ∷ []

abbrev pub encoder_causes : Code → List ℕ → List ℕ → List ℕ
encoder_causes k m old = size_causes k ++ message_causes (message_length k) k.bits m old

unfoldable pub encoder : List ℕ → List ℕ → List ℕ → Encoding
encoder b m old =
    let k = code_of b in
    let c = first_of (judge b ∷ encoder_causes k m old) in
    record { number = c; words = accepted c (written (encoded k m) old) old }

-- of f frames
abbrev pub frames_causes : Code → ℕ → List ℕ → List ℕ → List ℕ
frames_causes k f ms old = size_causes k ++ message_causes (f * message_length k) (f * k.bits) ms old

unfoldable pub frames_encoder : List ℕ → ℕ → List ℕ → List ℕ → Encoding
frames_encoder b f ms old =
    let k = code_of b in
    let c = first_of (judge b ∷ frames_causes k f ms old) in
    record { number = c; words = accepted c (written (encoded_frames k f ms) old) old }

-- the message of a codeword
pub record MessageRead : Type 0 where
  pub outcome : Outcome
  pub message : List ℕ

abbrev pub message_reader_causes : Code → List ℕ → List ℕ → List ℕ
message_reader_causes k w old = size_causes k ++ (word_causes k.bits w ++ (10 if short (message_length k) old ∷ []))

unfoldable pub message_reader : List ℕ → List ℕ → List ℕ → MessageRead
message_reader b w old =
    let k = code_of b in
    let out = tested_unless (first_of (judge b ∷ message_reader_causes k w old)) k w in
    record { outcome = out; message = accepted out.number (written (message_of k w) old) old }

-- ---- of the definitions
-- column j is the sum modulo 2 of earlier ones, those where `chosen` has a 1
pub record Dependent (k : Code) (j : ℕ) : Type 0 where
  pub chosen : List ℕ
  pub earlier : Bits j chosen
  pub sum : (i : ℕ) → i < length k.checks
      → sum_ℕ j (λ c. element (get_or k.checks i []) c * bit_at chosen c) % 2 ≡ element (get_or k.checks i []) j

abbrev pub is_pivot : Code → ℕ → Bool
is_pivot k j = not (is_other (get_or (reduced k) j other))

-- how many of the columns before j are no pivots
abbrev pub others_before : Code → ℕ → ℕ
others_before k j = sum_ℕ j (λ i. 1 if not (is_pivot k i))

-- every code and its encoding
pub record Encodes (k : Code) : Type 0 where
  pub columns : length (reduced k) ≡ k.bits
  -- "with the earliest possible pivot columns": a column is a pivot exactly when it depends on no earlier ones
  pub earliest : (j : ℕ) → j < k.bits → (is_pivot k j ≡ true) ↔ (Dependent k j → ⊥)
  pub dependent : (j : ℕ) → j < k.bits → (is_pivot k j ≡ false) ↔ Dependent k j
  -- "Message bits go in the other columns in rising order": a message has an entry for each of them, and the word has in each the entry before which there
  -- are as many as there are other columns before
  pub counted : message_length k ≡ others_before k k.bits
  pub rising : (m : List ℕ) (j : ℕ) → j < k.bits → is_pivot k j ≡ false → bit_at (encoded k m) j ≡ bit_at m (others_before k j)
  -- "and the checks then fix the pivot bits": the encoding is a codeword, and the message stands in it
  pub codeword : (m : List ℕ) → Bits (message_length k) m → Codeword k (encoded k m)
  pub read_back : (m : List ℕ) → Bits (message_length k) m → message_of k (encoded k m) ≡ m
  -- "Every codeword must be the encoding of exactly one message": of the one that stands in it, and of no other
  pub some_message : (w : List ℕ) → Codeword k w → Bits (message_length k) (message_of k w) × (encoded k (message_of k w) ≡ w)
  pub one_message : (m l : List ℕ) → Bits (message_length k) m → Bits (message_length k) l → encoded k m ≡ encoded k l → m ≡ l
  -- "and the sum of two messages must encode to the sum of their words"
  pub sum : (m l : List ℕ) → Bits (message_length k) m → Bits (message_length k) l
      → encoded k (sum_of_words m l) ≡ sum_of_words (encoded k m) (encoded k l)
