-- The numbers of a file with given columns and rows are well formed, and name these columns and rows. Assumes nothing.
use Rattle.integers.proofs.Prelude.{◌≡◌, refl, sym, ap, ap₂, ◌∙◌, true, List, [], ◌∷◌, ◌++◌, map, append_assoc, append-nil, ℕ, zero, suc, ◌+◌, ◌-◌, ◌*◌}
use Rattle.integers.proofs.Prelude.{◌≤◌, arith, eq-eqb, eqb, ltb, leb, length, take, drop, length-append, length-map, take_at, drop_at, drop-drop}
use Rattle.integers.proofs.Prelude.{take-append_seam}
use lib.ListN.{replicate, length-replicate}
use Rattle.lists.specs.Entries.{every, total}
use Rattle.lists.proofs.Tests.{and_left, and_right}
use Rattle.model.specs.Limits.{most_number}
use Rattle.model.specs.Alist.{pieces, filled, all_filled, sound_side, well_formed, listed, named, columns, rows, number_count, fill, largest_of, lines_of}
use Rattle.model.specs.Alist.{code_in}
use Rattle.model.specs.AlistClaims.{joined, code_for}

pub length_joined : (ls : List (List ℕ)) → length (joined ls) ≡ total length ls
length_joined [] = refl
length_joined (l ∷ ls) = length-append l (joined ls) ∙ omega (arith, length_joined ls)

pub joined_append : (a b : List (List ℕ)) → joined (a ++ b) ≡ joined a ++ joined b
joined_append [] b = refl
joined_append (l ∷ a) b = rw (joined_append a b) (sym (append_assoc l (joined a) (joined b)))

-- ---- one list, filled
filled_zeros : (n : ℕ) → filled 0 (replicate n 0) ≡ true
filled_zeros zero = refl
filled_zeros (suc n) = filled_zeros n

filled_fill : (n : ℕ) (l : List ℕ) → every (ltb 0) l ≡ true → filled (length l) (l ++ replicate n 0) ≡ true
filled_fill n [] h = filled_zeros n
filled_fill n (x ∷ l) h = rw (and_left (ltb 0 x) (every (ltb 0) l) h) (filled_fill n l (and_right (ltb 0 x) (every (ltb 0) l) h))

pub length_fill : (size : ℕ) (l : List ℕ) → length l ≤ size → length (fill size l) ≡ size
length_fill size l h = length-append l (replicate (size - length l) 0) ∙ omega (arith, length-replicate {A = ℕ} (size - length l) 0)

-- ---- the lists of a side
all_filled_lem : (size : ℕ) (ls : List (List ℕ)) → every (every (ltb 0)) ls ≡ true → all_filled (map length ls) (map (fill size) ls) ≡ true
all_filled_lem size [] h = refl
all_filled_lem size (l ∷ ls) h =
    rw (filled_fill (size - length l) l (and_left (every (ltb 0) l) (every (every (ltb 0)) ls) h))
    (all_filled_lem size ls (and_right (every (ltb 0) l) (every (every (ltb 0)) ls) h))

listed_fill : (size : ℕ) (ls : List (List ℕ)) → listed (map length ls) (map (fill size) ls) ≡ ls
listed_fill size [] = refl
listed_fill size (l ∷ ls) = ap₂ ◌∷◌ (take-append_seam l (replicate (size - length l) 0)) (listed_fill size ls)

-- one behind the other, with what follows
record Filled (size : ℕ) (ls : List (List ℕ)) (rest : List ℕ) : Type 0 where
  pub read : pieces (length ls) size (joined (map (fill size) ls) ++ rest) ≡ map (fill size) ls
  pub left : drop (length ls * size) (joined (map (fill size) ls) ++ rest) ≡ rest
  pub long : length (joined (map (fill size) ls)) ≡ length ls * size

filled_read : (size : ℕ) (ls : List (List ℕ)) (rest : List ℕ) → largest_of ls ≤ size → Filled size ls rest
filled_read size [] rest h = let z : 0 * size ≡ 0 = omega arith in record { read = refl; left = rw z; long = sym z }
filled_read size (l ∷ ls) rest h =
    let one = fill size l in
    let more = joined (map (fill size) ls) in
    let fits : length one ≡ size = length_fill size l (omega arith) in
    let ih = filled_read size ls rest (omega arith) in
    let whole : (one ++ more) ++ rest ≡ one ++ (more ++ rest) = append_assoc one more rest in
    let after : drop size ((one ++ more) ++ rest) ≡ more ++ rest = ap (drop size) whole ∙ drop_at one (more ++ rest) size fits in
    let e : suc (length ls) * size ≡ size + length ls * size = omega arith in
    record {
      read = ap₂ ◌∷◌ (ap (take size) whole ∙ take_at one (more ++ rest) size fits) (ap (pieces (length ls) size) after ∙ ih.read);
      left =
          ap (λ (n : ℕ). drop n ((one ++ more) ++ rest)) e ∙ sym (drop-drop (length ls * size) size ((one ++ more) ++ rest))
          ∙ ap (drop (length ls * size)) after ∙ ih.left;
      long = length-append one more ∙ omega (arith, ih.long);
    }

sound_side_lem : (ls : List (List ℕ)) → every (every (ltb 0)) ls ≡ true
    → sound_side (record { most = largest_of ls; degrees = map length ls; lists = map (fill (largest_of ls)) ls }) ≡ true
sound_side_lem ls h = rw (eq-eqb (largest_of ls) (largest_of ls) refl) (all_filled_lem (largest_of ls) ls h)

degrees_read : (ls : List (List ℕ)) (s : List ℕ) → (take (length ls) (map length ls ++ s) ≡ map length ls) × (drop (length ls) (map length ls ++ s) ≡ s)
degrees_read ls s = (take_at (map length ls) s (length ls) (length-map ls length), drop_at (map length ls) s (length ls) (length-map ls length))

-- ---- a whole file, of the columns cs and the rows rs
module _ (cs rs : List (List ℕ)) where
  abbrev n : ℕ
  n = length cs

  abbrev m : ℕ
  m = length rs

  abbrev most_column : ℕ
  most_column = largest_of cs

  abbrev most_row : ℕ
  most_row = largest_of rs

  -- its lists
  abbrev pub body : List ℕ
  body = joined (map (fill most_column) cs) ++ joined (map (fill most_row) rs)

  abbrev pub file : List ℕ
  file = n ∷ m ∷ most_column ∷ most_row ∷ (map length cs ++ (map length rs ++ body))

  pub file_joined : joined (lines_of cs rs) ≡ file
  file_joined = rw (joined_append (map (fill most_column) cs) (map (fill most_row) rs))

  columns_filled : Filled most_column cs (joined (map (fill most_row) rs))
  columns_filled = filled_read most_column cs (joined (map (fill most_row) rs)) (omega arith)

  rows_filled : Filled most_row rs []
  rows_filled = filled_read most_row rs [] (omega arith)

  lists_read : drop m (drop n (map length cs ++ (map length rs ++ body))) ≡ body
  lists_read = rw (degrees_read cs (map length rs ++ body)).1 (degrees_read rs body).1

  columns_file : columns file ≡ record { most = most_column; degrees = map length cs; lists = map (fill most_column) cs }
  columns_file = rw (lists_read, (degrees_read cs (map length rs ++ body)).0, columns_filled.read)

  rows_file : rows file ≡ record { most = most_row; degrees = map length rs; lists = map (fill most_row) rs }
  rows_file =
      rw (
        lists_read,
        (degrees_read cs (map length rs ++ body)).1,
        (degrees_read rs body).0,
        columns_filled.left,
        ← append-nil (joined (map (fill most_row) rs)),
        rows_filled.read,
      )

  count_file : length file ≡ number_count file
  count_file =
      rw (
        length-append (map length cs) (map length rs ++ body),
        length-append (map length rs) body,
        length-append (joined (map (fill most_column) cs)) (joined (map (fill most_row) rs)),
        length-map cs length,
        length-map rs length,
        columns_filled.long,
        rows_filled.long,
      )
      (omega arith)

  form_file : every (λ x. leb x most_number) file ≡ true → every (every (ltb 0)) cs ≡ true → every (every (ltb 0)) rs ≡ true → well_formed file ≡ true
  unfolding well_formed
  form_file h p q =
      let count : eqb (length file) (number_count file) ≡ true = eq-eqb (length file) (number_count file) count_file in
      let left : sound_side (columns file) ≡ true = ap sound_side columns_file ∙ sound_side_lem cs p in
      let right : sound_side (rows file) ≡ true = ap sound_side rows_file ∙ sound_side_lem rs q in
      rw (h, count, left, right)

  -- ---- of the numbers of its lines
  -- the sides, which have the largest degrees, the degrees and the filled lists
  pub columns_lines : columns (joined (lines_of cs rs)) ≡ record { most = largest_of cs; degrees = map length cs; lists = map (fill (largest_of cs)) cs }
  columns_lines = ap columns file_joined ∙ columns_file

  pub rows_lines : rows (joined (lines_of cs rs)) ≡ record { most = largest_of rs; degrees = map length rs; lists = map (fill (largest_of rs)) rs }
  rows_lines = ap rows file_joined ∙ rows_file

  pub count_lines : length (joined (lines_of cs rs)) ≡ number_count (joined (lines_of cs rs))
  count_lines = ap length file_joined ∙ count_file ∙ ap number_count (sym file_joined)

  -- any columns and rows are named
  pub named_columns : named (columns (joined (lines_of cs rs))) ≡ cs
  named_columns = ap named columns_lines ∙ listed_fill most_column cs

  pub named_rows : named (rows (joined (lines_of cs rs))) ≡ rs
  named_rows = ap named rows_lines ∙ listed_fill most_row rs

  pub code_lines : code_in (joined (lines_of cs rs)) ≡ code_for cs rs
  unfolding code_in
  code_lines = rw named_rows

  -- and well formed where the indices are above 0 and no number above 65,535
  pub well_formed_lem : every (λ x. leb x most_number) (joined (lines_of cs rs)) ≡ true → every (every (ltb 0)) cs ≡ true → every (every (ltb 0)) rs ≡ true
      → well_formed (joined (lines_of cs rs)) ≡ true
  well_formed_lem h p q = ap well_formed file_joined ∙ form_file (sym (ap (every (λ x. leb x most_number)) file_joined) ∙ h) p q
