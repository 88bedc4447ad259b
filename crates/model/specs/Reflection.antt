-- Document 01, 'Points and reflection': reflection of costs, words and states. Definitions only.
use Rattle.std.specs.Prelude.{◌≡◌, List, ℕ, zero, suc, ◌+◌, ◌%◌, ◌<◌, ℤ, neg_ℤ, length}
use Rattle.lists.specs.Tabulated.{tab}
use Rattle.model.specs.Splitting.{System, member}
use Rattle.model.specs.Iteration.{at, sign, row, State}
use Rattle.model.specs.Words.{bit_at}

-- "negated where that codeword's point has a 1 and the same elsewhere"
abbrev pub negated_if : ℕ → ℤ → ℤ
negated_if zero z = z
negated_if (suc b) z = neg_ℤ z

-- "the costs, negated where a 0/1 word has 1"
unfoldable pub reflect : List ℕ → List ℤ → List ℤ
reflect w costs = tab (length costs) (λ i. negated_if (bit_at w i) (at costs i))

-- "bit by bit modulo 2"; document 02, L3: "their sum modulo 2"
unfoldable pub sum_of_words : List ℕ → List ℕ → List ℕ
sum_of_words w u = tab (length w) (λ i. (bit_at w i + bit_at u i) % 2)

-- of the same triple, row q's "signs differ from [row r's] own exactly at the variables where the point has a 1"; document 02, L6: "the blank keeping its
-- sign", since it lies past the point's end
abbrev pub Opposite : List ℕ → List ℕ → ℕ → ℕ → ℕ → Type 0
Opposite x ts t r q = (p : ℕ) → p < 3 → sign q p ≡ negated_if (bit_at x (member ts t p)) (sign r p)

-- state b is state a, reflected by the point x
pub record Reflected (g : System) (x : List ℕ) (a b : State) : Type 0 where
  pub values : (v : ℕ) → at b.values v ≡ negated_if (bit_at x v) (at a.values v)
  pub sums : (v : ℕ) → at b.sums v ≡ negated_if (bit_at x v) (at a.sums v)
  pub rows : (t r q : ℕ) → t < g.triples → r < 4 → q < 4 → Opposite x g.members t r q → row b.rows t q ≡ row a.rows t r
