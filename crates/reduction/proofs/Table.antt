-- Rows, and the columns that a table of rows stands for. Assumes nothing.
use Rattle.integers.proofs.Prelude.{◌≡◌, refl, sym, ap, ap₂, ◌∙◌, Bool, true, false, not, cond, List, [], ◌∷◌, ◌++◌, ℕ, suc, ◌+◌, ◌-◌, ◌%◌}
use Rattle.integers.proofs.Prelude.{◌≤◌, ◌<◌, arith, length, get_or, take, drop, length-take-le, take-suc, drop-cons, get_or-take, get_or-drop}
use lib.ListN.{replicate, get_or-replicate}
use lib.Seq.{ext_get_or, slice, length-slice}
use Rattle.lists.proofs.Tabulated.{length_tab, get_or_tab, tab_same, tab_replicate}
use Rattle.lists.proofs.Entries.{total_next}
use Rattle.model.specs.Limits.{most_encoded_bits}
use Rattle.model.specs.Causes.{◌if◌}
use Rattle.model.specs.Words.{bit_at}
use Rattle.model.specs.Reflection.{sum_of_words}
use Rattle.model.specs.Encoding.{element, row_of, Column, pivot, other, is_other, others}
use Rattle.model.proofs.Composition.{length_sum}
use Rattle.model.proofs.Demand3.{sum_entry}
use Rattle.reduction.specs.Table.{row, has_pivot, column, columns_in}

-- ---- a slice by its entries
pub slice_at : (f t : ℕ) (l : List ℕ) (i : ℕ) → f + i < t → bit_at (slice f t l) i ≡ bit_at l (f + i)
slice_at f t l i h = get_or-drop f (take t l) i 0 ∙ get_or-take t l (f + i) 0 h

-- ---- the row of a check

-- its first columns
pub row_taken : (n : ℕ) (c r : List ℕ) → n ≤ length r → ((b : ℕ) → b < n → bit_at r b ≡ element c b) → take n r ≡ row_of n c
row_taken n c r h each =
    let long = length-take-le n r h in
    ext_get_or 0 (take n r) (row_of n c) (long ∙ sym (length_tab n (element c))) (λ i l.
    let k : i < n = omega arith in
    get_or-take n r i 0 k ∙ each i k ∙ sym (get_or_tab n (element c) i 0 k))

-- those of a longer row
pub row_front : (n : ℕ) (c r : List ℕ) → n ≤ most_encoded_bits → r ≡ row_of most_encoded_bits c → take n r ≡ row_of n c
row_front n c r h e =
    row_taken n c r (omega (arith, h, ap length e, length_tab most_encoded_bits (element c)))
    (λ b l. ap (λ (q : List ℕ). bit_at q b) e ∙ get_or_tab most_encoded_bits (element c) b 0 (omega (arith, h, l)))

-- ---- the sum of two rows
pub sum_slices : (f t : ℕ) (r q s : List ℕ) → t ≤ length r → length s ≡ length r → ((i : ℕ) → f ≤ i → i < t → bit_at s i ≡ (bit_at r i + bit_at q i) % 2)
    → slice f t s ≡ sum_of_words (slice f t r) (slice f t q)
sum_slices f t r q s h e each =
    let long = length-slice f t r h in
    let long' : length (slice f t s) ≡ t - f = length-slice f t s (omega arith) in
    ext_get_or 0 (slice f t s) (sum_of_words (slice f t r) (slice f t q)) (long' ∙ sym (length_sum (slice f t r) (slice f t q) ∙ long)) (λ i l.
    let k : f + i < t = omega arith in
    slice_at f t s i k
    ∙ each (f + i) (omega arith) k
    ∙ sym (sum_entry (slice f t r) (slice f t q) i (omega arith) ∙ ap₂ (λ (x y : ℕ). (x + y) % 2) (slice_at f t r i k) (slice_at f t q i k)))

-- ---- columns
pub length_columns : (n : ℕ) (rows : List (List ℕ)) → length (columns_in n rows) ≡ n
length_columns n rows = length_tab n (column n rows)

pub column_at : (n : ℕ) (rows : List (List ℕ)) (j : ℕ) → j < n → get_or (columns_in n rows) j other ≡ column n rows j
column_at n rows j h = get_or_tab n (column n rows) j other h

-- none, where all rows are zeros
pub columns_none : (n m : ℕ) → n ≤ m → columns_in n (replicate m (replicate m 0)) ≡ replicate n other
columns_none n m h = tab_same n _ (λ _. other) none ∙ tab_replicate n other
  where
    none : (j : ℕ) → j < n → column n (replicate m (replicate m 0)) j ≡ other
    none j l = rw (get_or-replicate {A = List ℕ} m j (replicate m 0) [] (omega arith), get_or-replicate {A = ℕ} m j 0 0 (omega arith))

-- from column j on
pub columns_from : (n : ℕ) (rows : List (List ℕ)) (j : ℕ) → j < n → drop j (columns_in n rows) ≡ column n rows j ∷ drop (suc j) (columns_in n rows)
columns_from n rows j h =
    let cs = columns_in n rows in
    drop-cons cs j other (omega (arith, length_columns n rows)) ∙ ap (λ (c : Column). c ∷ drop (suc j) cs) (column_at n rows j h)

-- up to it
pub columns_to : (n : ℕ) (rows : List (List ℕ)) (j : ℕ) → j < n → take (suc j) (columns_in n rows) ≡ take j (columns_in n rows) ++ (column n rows j ∷ [])
columns_to n rows j h =
    let cs = columns_in n rows in
    take-suc cs j other (omega (arith, length_columns n rows)) ∙ ap (λ (c : Column). take j cs ++ (c ∷ [])) (column_at n rows j h)

-- the others before the next column
pub others_next : (n : ℕ) (rows : List (List ℕ)) (j : ℕ) → j < n
    → others (take (suc j) (columns_in n rows)) ≡ others (take j (columns_in n rows)) + 1 if not (has_pivot rows j)
others_next n rows j h =
    total_next (λ c. 1 if is_other c) (columns_in n rows) j other (omega (arith, length_columns n rows))
    ∙ ap (λ (x : ℕ). others (take j (columns_in n rows)) + x) (ap (λ (c : Column). 1 if is_other c) (column_at n rows j h) ∙ by (has_pivot rows j) (slice (suc j) n (row rows j)))
  where
    by : (t : Bool) (q : List ℕ) → 1 if is_other (cond t (pivot q) other) ≡ 1 if not t
    by true q = refl
    by false q = refl

-- of n columns, which are all that callers see
module _ (n m : ℕ) (rows : List (List ℕ)) (cs : List Column) (is : columns_in m rows ≡ cs) (width : n ≡ length cs) where
  pub width_is : n ≡ m
  width_is = width ∙ ap length (sym is) ∙ length_columns m rows

  pub seen : columns_in n rows ≡ cs
  seen = rw width_is is

pub others_few : (cs : List Column) → others cs ≤ length cs
others_few [] = omega arith
others_few (pivot q ∷ cs) = omega (arith, others_few cs)
others_few (other ∷ cs) = omega (arith, others_few cs)
