-- How the rows stand while a run goes: those of four triples transposed, their first rows, their second ones, their third, their last. Definitions only.
use Rattle.std.specs.Prelude.{cond, List, [], ◌≡◌, ℕ, ◌+◌, ◌-◌, ◌*◌, ◌/◌, ◌%◌, ◌≤◌, ltb, ℤ, get_or}
use Rattle.std.proofs.lemmas.List.Edits.{sets}
use Rattle.lists.specs.Tabulated.{tab}
use Rattle.model.specs.Iteration.{at, row}
use Rattle.rows.specs.Sides.{Rows}
use Rattle.layout.specs.Arranged.{arranged}

-- cell j of four k
abbrev pub cell : List (List ℤ) → ℕ → ℕ → ℤ
cell q k j = at (get_or q k []) j

-- fours of rows that a run reaches
abbrev pub Fours : List (List ℤ) → Type 0
Fours q = (k : ℕ) → Rows (get_or q k [])

-- the rows of triple t + k, where those of the four triples from t on are transposed
abbrev pub lane : List ℤ → ℕ → ℕ → List ℤ
lane s t k = tab 4 (λ r. row s (t + r) k)

-- l with four fours, transposed, in place of its own from triple t on
abbrev pub stored : List ℤ → ℕ → List (List ℤ) → List ℤ
stored l t q = sets l (4 * t) (tab 16 (λ j. cell q (j % 4) (j / 4)))

-- the first triples, as many as are over when T are put in fours, keep their places; after them entry i of a four stands where its transposed one does
unfoldable pub place : ℕ → ℕ → ℕ
place T i =
    let f = 4 * (T % 4) in
    let u = i - f in
    cond (ltb i f) i (f + (16 * (u / 16) + (4 * (u % 4) + u % 16 / 4)))

-- the rows in the order of document 01, of T triples whose rows stand in s; the same rows in that order are so put where they stand
abbrev pub straight : ℕ → List ℤ → List ℤ
straight T s = arranged (4 * T) (place T) s

-- t is where a four of T triples begins, or T
abbrev pub Aligned : ℕ → ℕ → Type 0
Aligned T t = (t ≤ T) × ((T - t) % 4 ≡ 0)
