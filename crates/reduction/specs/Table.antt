-- How the table of rows stands for the columns of a reduced matrix. Definitions only.
use Rattle.std.specs.Prelude.{Bool, not, cond, List, [], ℕ, suc, eqb, get_or}
use Rattle.std.proofs.Math.Seq.{slice}
use Rattle.lists.specs.Tabulated.{tab}
use Rattle.model.specs.Words.{bit_at}
use Rattle.model.specs.Encoding.{Column, pivot, other}

-- row j of a table
abbrev pub row : List (List ℕ) → ℕ → List ℕ
row rows j = get_or rows j []

-- a row is that of a pivot in column j where it has no 0 there
abbrev pub leads : ℕ → List ℕ → Bool
leads j r = not (eqb (bit_at r j) 0)

abbrev pub has_pivot : List (List ℕ) → ℕ → Bool
has_pivot rows j = leads j (row rows j)

-- the column j, of n, that a row stands for: a pivot with the entries after it, or another
abbrev pub column_of : ℕ → ℕ → List ℕ → Column
column_of n j r = cond (leads j r) (pivot (slice (suc j) n r)) other

abbrev pub column : ℕ → List (List ℕ) → ℕ → Column
column n rows j = column_of n j (row rows j)

abbrev pub columns_in : ℕ → List (List ℕ) → List Column
columns_in n rows = tab n (column n rows)
