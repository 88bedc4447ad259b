-- The text of a code, as the columns and rows that are one behind the other give it. Assumes nothing.
use Rattle.integers.proofs.Prelude.{◌≡◌, refl, sym, ap, ap₂, ◌∙◌, List, [], ◌∷◌, ◌++◌, map, append_assoc, ℕ, zero, suc, ◌+◌, ◌≤◌, arith, length}
use Rattle.integers.proofs.Prelude.{length-append, length-map, take-append_seam}
use lib.Seq.{drop-append_seam}
use Rattle.lists.specs.Tabulated.{tab}
use Rattle.lists.specs.Entries.{total, sum}
use Rattle.lists.proofs.Tabulated.{map_tab}
use Rattle.lists.proofs.Entries.{total_map, total_lengths}
use Rattle.model.specs.Limits.{most_bits, most_places}
use Rattle.model.specs.Text.{decimal}
use Rattle.model.specs.Code.{Code}
use Rattle.model.specs.Sound.{Sound}
use Rattle.model.specs.Alist.{largest, column_from, columns_of, rows_of, fill, line_of, text_of, alist_of}
use Rattle.model.specs.AlistClaims.{joined}
use Rattle.model.proofs.AlistForm.{length_joined}
use Rattle.model.proofs.AlistCode.{length_columns, length_rows, columns_from_one, rows_from_one, code_places}
use Rattle.model.proofs.AlistSizes.{same_total, places_least, places_most}
use Rattle.exporter.specs.Lines.{cut, SideLists, lists_text, side_text, head_text}
use Rattle.exporter.proofs.Lines.{field, length_line}

-- ---- lists one behind the other, and their degrees
cut_joined : (ls : List (List ℕ)) → cut (map length ls) (joined ls) ≡ ls
cut_joined [] = refl
cut_joined (l ∷ ls) = rw (take-append_seam l (joined ls), drop-append_seam l (joined ls), cut_joined ls)

some_largest : (l : List ℕ) → 1 ≤ sum l → 1 ≤ largest l
some_largest [] h = absurd (omega arith)
some_largest (zero ∷ l) h = omega (arith, some_largest l (omega arith))
some_largest (suc d ∷ l) h = omega arith

-- such lists are a side
side_of : (ls : List (List ℕ)) → 1 ≤ total length ls → total length ls ≤ most_places → length ls ≤ most_bits → SideLists (map length ls) (joined ls)
side_of ls some most few =
    let e = total_map (λ d. d) length ls in
    record {
      long = length_joined ls ∙ sym e;
      some = some_largest (map length ls) (omega arith);
      few = omega (arith, length-map ls length);
      small = omega (arith, length_joined ls);
    }

-- ---- of a sound code
row_lengths : (cs : List (List ℕ)) → map length (map (map suc) cs) ≡ map length cs
row_lengths [] = refl
row_lengths (c ∷ cs) = ap₂ ◌∷◌ (length-map c suc) (row_lengths cs)

text_append : (a b : List (List ℕ)) → text_of (a ++ b) ≡ text_of a ++ text_of b
unfolding text_of
text_append [] b = refl
text_append (l ∷ a) b = rw (text_append a b) (sym (append_assoc (line_of l) (text_of a) (text_of b)))

-- by the degrees d of the columns and their entries e, and r and f of the rows
abbrev pub text_from : List ℕ → List ℕ → List ℕ → List ℕ → List ℕ
text_from d r e f = head_text d r ++ (lists_text d e ++ lists_text r f)

length_text : (d r e f : List ℕ)
    → length (text_from d r e f) ≡ field (length d) + field (length r) + field (largest d) + field (largest r) + length (side_text d e) + length (side_text r f)
length_text d r e f =
    let counts = length d ∷ length r ∷ [] in
    let most = largest d ∷ largest r ∷ [] in
    omega (
      arith,
      length-append (head_text d r) (lists_text d e ++ lists_text r f),
      length-append (line_of counts) (line_of most ++ (line_of d ++ line_of r)),
      length-append (line_of most) (line_of d ++ line_of r),
      length-append (line_of d) (line_of r),
      length-append (lists_text d e) (lists_text r f),
      length-append (line_of d) (lists_text d e),
      length-append (line_of r) (lists_text r f),
      length_line counts (omega arith),
      length_line most (omega arith),
    )

same_digits : {u v : ℕ} → u ≡ v → length (decimal u) ≡ length (decimal v)
same_digits e = ap (λ (x : ℕ). length (decimal x)) e

-- by its parts: the digits of the pairs and the bytes of the sides
pub measured : (n m : ℕ) (d r e f t : List ℕ) → n ≡ length d → m ≡ length r → t ≡ text_from d r e f → (c l : ℕ) → c ≡ largest d → l ≡ largest r
    → (a b x y p q : ℕ) → a ≡ length (decimal n) → b ≡ length (decimal m) → x ≡ length (decimal c) → y ≡ length (decimal l) → p ≡ length (side_text d e)
    → q ≡ length (side_text r f) → a + b + x + y + 4 + p + q ≡ length t
measured n m d r e f t bits checks is c l most_column most_row a b x y p q ha hb hx hy hp hq =
    omega (arith, ap length is, length_text d r e f, same_digits bits, same_digits checks, same_digits most_column, same_digits most_row)

module _ (k : Code) where
  abbrev pub degrees_of_columns : List ℕ
  degrees_of_columns = map length (columns_of k)

  abbrev pub degrees_of_rows : List ℕ
  degrees_of_rows = map length (rows_of k)

  pub row_degrees_are : map length k.checks ≡ degrees_of_rows
  unfolding rows_of
  row_degrees_are = sym (row_lengths k.checks)

  pub column_degrees_are : tab k.bits (λ b. length (column_from 0 b k.checks)) ≡ degrees_of_columns
  unfolding columns_of
  column_degrees_are = sym (map_tab length k.bits (λ b. column_from 0 b k.checks))

  pub rows_joined : joined (map (map suc) k.checks) ≡ joined (rows_of k)
  unfolding rows_of
  rows_joined = refl

  pub columns_joined : joined (tab k.bits (λ b. column_from 0 b k.checks)) ≡ joined (columns_of k)
  unfolding columns_of
  columns_joined = refl

  pub text_is : alist_of k ≡ text_from degrees_of_columns degrees_of_rows (joined (columns_of k)) (joined (rows_of k))
  unfolding alist_of text_of
  text_is =
      let cs = columns_of k in
      let rs = rows_of k in
      rw (
        length-map cs length,
        length-map rs length,
        cut_joined cs,
        cut_joined rs,
        text_append (map (fill (largest degrees_of_columns)) cs) (map (fill (largest degrees_of_rows)) rs),
      )
      (simp append_assoc)

  module _ (s : Sound k) where
    rows_total : total length (rows_of k) ≡ total length k.checks
    unfolding rows_of
    rows_total = total_lengths suc k.checks

    pub columns_total : total length (columns_of k) ≡ total length k.checks
    columns_total = sym (same_total (columns_of k) (rows_of k) (columns_from_one k) (rows_from_one k) (code_places k s)) ∙ rows_total

    pub few : total length k.checks ≤ most_places
    few = omega (arith, places_most k.checks, s.triples_most, s.checks_most)

    some : 1 ≤ total length k.checks
    some = omega (arith, places_least k.bits k.checks s.checks, s.checks_least)

    pub columns_side : SideLists degrees_of_columns (joined (columns_of k))
    columns_side =
        let e = columns_total in
        side_of (columns_of k) (omega (arith, some)) (omega (arith, few)) (omega (arith, length_columns k, s.bits_most))

    pub rows_side : SideLists degrees_of_rows (joined (rows_of k))
    rows_side =
        let e = rows_total in
        side_of (rows_of k) (omega (arith, some)) (omega (arith, few)) (omega (arith, length_rows k, s.checks_most))
