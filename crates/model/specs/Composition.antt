-- Document 02, L3: reflections compose and extensions add up; with it the sum of two words, as a call. Definitions, then statements about the definitions
-- and about calls; the proofs are in proofs/Composition.antt and proofs/ComposedCalls.antt.
use Rattle.std.specs.Prelude.{◌≡◌, ◌||◌, ◌↔◌, List, [], ◌∷◌, ◌++◌, map, ℕ, ◌≤◌, ℤ, length, take, replicate}
use Rattle.lists.specs.Tabulated.{written}
use Rattle.lists.specs.Entries.{some, Each}
use Rattle.model.specs.Causes.{◌if◌, first_of, short, accepted}
use Rattle.model.specs.Code.{Code}
use Rattle.model.specs.Points.{Bits, Codeword, point_of}
use Rattle.model.specs.Reflection.{reflect, sum_of_words}
use Rattle.model.specs.Calls.{unequal, not_binary, Costs, reflector}

-- ---- definitions
-- "the zero word", of n bits
abbrev pub word_of_zeros : ℕ → List ℕ
word_of_zeros n = replicate n 0

-- the sum modulo 2 of any number of words of n bits
abbrev pub sum_of_all : ℕ → List (List ℕ) → List ℕ
sum_of_all n [] = word_of_zeros n
sum_of_all n (w ∷ ws) = sum_of_words w (sum_of_all n ws)

-- "chains of reflected frames": costs, reflected by one word after the other
abbrev pub chained : List (List ℕ) → List ℤ → List ℤ
chained [] costs = costs
chained (w ∷ ws) costs = chained ws (reflect w costs)

-- ---- the sum of two words, for whoever builds a chain
pub record Added : Type 0 where
  pub number : ℕ
  pub word : List ℕ

abbrev pub adder_causes : List ℕ → List ℕ → List ℕ → List ℕ
adder_causes w u old = 12 if unequal u (length w) ∷ 15 if (some not_binary w || some not_binary u) ∷ 10 if short (length w) old ∷ []

unfoldable pub adder : List ℕ → List ℕ → List ℕ → Added
adder w u old =
    let c = first_of (adder_causes w u old) in
    record { number = c; word = accepted c (written (sum_of_words w u) old) old }

-- ---- of the definitions
-- words of n bits and their sums
pub record Sums (n : ℕ) : Type 0 where
  pub word : (w u : List ℕ) → Bits n w → Bits n u → Bits n (sum_of_words w u)
  pub order : (w u : List ℕ) → Bits n w → Bits n u → sum_of_words w u ≡ sum_of_words u w
  pub grouping : (w u v : List ℕ) → Bits n w → Bits n u → Bits n v → sum_of_words (sum_of_words w u) v ≡ sum_of_words w (sum_of_words u v)
  pub zero_word : (w : List ℕ) → Bits n w → sum_of_words w (word_of_zeros n) ≡ w
  pub twice : (w : List ℕ) → Bits n w → sum_of_words w w ≡ word_of_zeros n
  -- of any number of words: neighbours may change places, and so all may
  pub neighbours : (ws vs : List (List ℕ)) (w u : List ℕ) → Bits n w → Bits n u → Each (Bits n) vs
      → sum_of_all n (ws ++ (w ∷ u ∷ vs)) ≡ sum_of_all n (ws ++ (u ∷ w ∷ vs))

-- "For costs and 0/1 words of equal length"; of the definitions it holds whatever the costs are
pub record Composes (costs : List ℤ) : Type 0 where
  -- "reflecting by one word and then another equals reflecting by their sum modulo 2"
  pub sum : (w u : List ℕ) → Bits (length costs) w → Bits (length costs) u → reflect u (reflect w costs) ≡ reflect (sum_of_words w u) costs
  -- "the order is immaterial"
  pub order : (w u : List ℕ) → Bits (length costs) w → Bits (length costs) u → reflect u (reflect w costs) ≡ reflect w (reflect u costs)
  -- "the zero word changes nothing"
  pub zero_word : reflect (word_of_zeros (length costs)) costs ≡ costs
  -- "and the same word twice restores the costs"
  pub twice : (w : List ℕ) → Bits (length costs) w → reflect w (reflect w costs) ≡ costs
  -- and so a chain of any length is one reflection
  pub chains : (ws : List (List ℕ)) → Each (Bits (length costs)) ws → chained ws costs ≡ reflect (sum_of_all (length costs) ws) costs

-- the codewords of a code and their points
pub record Extends (k : Code) : Type 0 where
  pub zero_word : Codeword k (word_of_zeros k.bits)
  pub codeword : (w u : List ℕ) → Codeword k w → Codeword k u → Codeword k (sum_of_words w u)
  -- "Extending a sum of two codewords of a code gives the sum of their extensions."
  pub sum : (w u : List ℕ) → Codeword k w → Codeword k u → point_of k (sum_of_words w u) ≡ sum_of_words (point_of k w) (point_of k u)

-- ---- of calls
-- two calls of the reflector: the first, with the word w, was accepted; the second, with the costs that the first wrote, the word u and the list out, gave c
pub record ComposedCalls (costs : List ℤ) (w u : List ℕ) (out : List ℤ) (c : Costs) : Type 0 where
  -- the second is accepted exactly where u is a word of that length and there is room
  pub exactly : (c.number ≡ 0) ↔ (Bits (length costs) u × (length costs ≤ length out))
  -- then number and list are those of one call with the sum
  pub sum : c.number ≡ 0 → c ≡ reflector costs (sum_of_words w u) out
  -- and of two calls in the other order; the first of them, in the list old, is accepted too
  pub order : c.number ≡ 0 → (old : List ℤ) → length costs ≤ length old → (d : Costs) → d ≡ reflector costs u old
      → (d.number ≡ 0) × (c ≡ reflector (take (length costs) d.costs) w out)
  -- the same word twice
  pub twice : c.number ≡ 0 → u ≡ w → c.costs ≡ written costs out

-- a call of a chain of them: its word, and the list that it was lent
pub record Link : Type 0 where
  pub word : List ℕ
  pub lent : List ℤ

-- P holds of each word of the chain, and each list has the room for n costs
abbrev pub Links : (List ℕ → Type 0) → ℕ → List Link → Type 0
Links P n l = Each (λ x. P x.word × (n ≤ length x.lent)) l

abbrev pub words_of : List Link → List (List ℕ)
words_of l = map (λ x. x.word) l

-- the costs that a chain hands on, each call to the next
abbrev pub handed_on : List ℤ → List Link → List ℤ
handed_on costs [] = costs
handed_on costs (x ∷ l) = handed_on (take (length costs) (reflector costs x.word x.lent).costs) l
