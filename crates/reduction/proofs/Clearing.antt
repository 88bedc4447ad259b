-- A row is cleared column by column, and check after check. Assumes nothing.
use Rattle.integers.proofs.Prelude.{◌≡◌, refl, sym, ap, ap₂, ◌∙◌, true, false, List, [], ◌∷◌, ◌++◌, append-nil, ℕ, suc, ◌+◌, ◌-◌}
use Rattle.integers.proofs.Prelude.{◌≤◌, ◌<◌, arith, add-one, ne_eqb, length, take, drop, set, take_all, drop_of_length-le}
use mathlib.Core.Logic.{◌≢◌}
use lib.Seq.{slice, slice-cons, get_or-set_same, get_or-set_other, append_snoc, set_split}
use Rattle.lists.proofs.Tabulated.{tab_set}
use Rattle.model.specs.Words.{bit_at}
use Rattle.model.specs.Reflection.{sum_of_words}
use Rattle.model.specs.Encoding.{row_of, Column, pivot, cleared, reduced_by}
use Rattle.reduction.specs.Table.{row, has_pivot, column_of, column, columns_in}
use Rattle.reduction.proofs.Table.{columns_from, columns_to, length_columns}

-- ---- one row more, from column j on: r has the entries of these columns
module _ (n : ℕ) (rows : List (List ℕ)) (r : List ℕ) (j : ℕ) (h : j < n) (long : n ≤ length r) where
  abbrev cs : List Column
  cs = columns_in n rows

  here : take j cs ++ cleared (drop j cs) (slice j n r) ≡ take j cs ++ cleared (column n rows j ∷ drop (suc j) cs) (bit_at r j ∷ slice (suc j) n r)
  here = ap₂ (λ (ds : List Column) (l : List ℕ). take j cs ++ cleared ds l) (columns_from n rows j h) (slice-cons j n r 0 h long)

  -- the column stays, and the row has l after it
  next : (l : List ℕ) → take j cs ++ (column n rows j ∷ cleared (drop (suc j) cs) l) ≡ take (suc j) cs ++ cleared (drop (suc j) cs) l
  next l =
      let x = cleared (drop (suc j) cs) l in
      sym (append_snoc (take j cs) (column n rows j) x) ∙ ap (λ (k : List Column). k ++ x) (sym (columns_to n rows j h))

  one : bit_at r j ≢ 0 → bit_at r j ≡ suc (bit_at r j - 1)
  one e = omega (arith, e)

  -- it has a 0 there
  pub cleared_zero : bit_at r j ≡ 0 → take (j + 1) cs ++ cleared (drop (j + 1) cs) (slice (j + 1) n r) ≡ take j cs ++ cleared (drop j cs) (slice j n r)
  unfolding cleared
  cleared_zero e = rw (add-one j) (sym (here ∙ rw e (next (slice (suc j) n r))))

  -- it has a 1 at a pivot, whose row is added
  pub cleared_pivot : bit_at r j ≢ 0 → has_pivot rows j ≡ true → (q : List ℕ) → slice (j + 1) n q ≡ sum_of_words (slice (j + 1) n r) (slice (j + 1) n (row rows j))
      → take (j + 1) cs ++ cleared (drop (j + 1) cs) (slice (j + 1) n q) ≡ take j cs ++ cleared (drop j cs) (slice j n r)
  unfolding cleared
  cleared_pivot e p q sum =
      let l = sum_of_words (slice (suc j) n r) (slice (suc j) n (row rows j)) in
      let added : take j cs ++ cleared (column n rows j ∷ drop (suc j) cs) (bit_at r j ∷ slice (suc j) n r) ≡ take j cs ++ (column n rows j ∷ cleared (drop (suc j) cs) l)
      = rw (one e, p) in
      rw (sum, add-one j) (sym (here ∙ added ∙ next l))

  -- it has a 1 at another column, where it is put into the table
  pub cleared_other : bit_at r j ≢ 0 → has_pivot rows j ≡ false → j < length rows → columns_in n (set rows j r) ≡ take j cs ++ cleared (drop j cs) (slice j n r)
  unfolding cleared
  cleared_other e p room =
      let new = pivot (slice (suc j) n r) in
      let is : column n (set rows j r) j ≡ new = rw (get_or-set_same rows j r [] room, ne_eqb (bit_at r j) 0 e) in
      let put : take j cs ++ cleared (column n rows j ∷ drop (suc j) cs) (bit_at r j ∷ slice (suc j) n r) ≡ take j cs ++ (new ∷ drop (suc j) cs) = rw (one e, p) in
      sym (tab_set n (column n rows) (column n (set rows j r)) j new h is (λ u l d. ap (column_of n u) (get_or-set_other rows j u r [] d)))
      ∙ set_split cs j new (omega (arith, length_columns n rows)) ∙ sym (here ∙ put)

-- past the last column
pub cleared_end : (n : ℕ) (rows : List (List ℕ)) (r : List ℕ) → take n (columns_in n rows) ++ cleared (drop n (columns_in n rows)) r ≡ columns_in n rows
unfolding cleared
cleared_end n rows r =
    let cs = columns_in n rows in
    let all : take n cs ≡ cs = take_all n cs (omega (arith, length_columns n rows)) in
    let none : drop n cs ≡ [] = drop_of_length-le cs {i = n} (omega (arith, length_columns n rows)) in
    rw (all, none) (append-nil cs)

-- ---- one check more
pub reduced_next : (n : ℕ) (checks : List (List ℕ)) (c : List ℕ) (cs : List Column) → reduced_by n (checks ++ (c ∷ [])) cs ≡ cleared (reduced_by n checks cs) (row_of n c)
unfolding reduced_by
reduced_next n [] c cs = refl
reduced_next n (d ∷ checks) c cs = reduced_next n checks c (cleared cs (row_of n d))
