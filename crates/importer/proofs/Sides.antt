-- What the form of a text says of its sides, and of the code that its rows are. Assumes nothing.
use Rattle.integers.proofs.Prelude.{◌≡◌, sym, ap, subst, ◌∙◌, true, false, List, map, ℕ, ◌*◌, ◌≤◌, arith, ltb, length, get_or, take}
use Rattle.std.specs.Prelude.{Some, None, option_map}
use Rattle.lists.specs.Entries.{every}
use Rattle.lists.proofs.Tests.{same_test}
use Rattle.model.specs.Limits.{most_number}
use Rattle.model.specs.Alist.{numbers_of, pieces, column_degrees, row_degrees, column_lists, row_lists, columns, rows, all_filled, well_formed, listed, named, agree}
use Rattle.model.specs.Alist.{code_in, code_of_text}
use Rattle.model.proofs.Agreement.{times_listed, agreement}
use Rattle.model.proofs.AlistParts as parts
use Rattle.numbers.specs.declared.Side.{Side}
use Rattle.numbers.specs.Walked.{Small}
use Rattle.numbers.specs.Sides.{degrees_in, lists_in, Numbered}
use Rattle.numbers.proofs.Walk.{small_at}
use Rattle.alist.specs.declared.Form.{Form}
use Rattle.alist.specs.Form.{filled_lists, Sides, sides_of, columns_of, rows_of, form_of}
use Rattle.alist.proofs.Parts.{parts_of, lists_say}
use Rattle.alist.proofs.Reading.{some_then, none_then}
use Rattle.places.specs.Held.{Held, lists_of}
use Rattle.importer.specs.Rows.{named_in, Sided, lowered, code_of_rows}

-- ---- lists agree with what fills them as they do without it
module _ (ds es : List ℕ) (cs rs : List (List ℕ)) (p : all_filled ds cs ≡ true) (q : all_filled es rs ≡ true) where
  agree_listed : agree cs rs ≡ agree (listed ds cs) (listed es rs)
  agree_listed =
      same_test (agree cs rs) (agree (listed ds cs) (listed es rs))
      (λ e. (agreement (listed ds cs) (listed es rs)).1 (λ r c. times_listed c es rs q r ∙ (agreement cs rs).0 e r c ∙ sym (times_listed r ds cs p c)))
      (λ e. (agreement cs rs).1 (λ r c. sym (times_listed c es rs q r) ∙ (agreement (listed ds cs) (listed es rs)).0 e r c ∙ times_listed r ds cs p c))

-- ---- one side: count degrees in ds, as many lists of `most` numbers in l
record Listed (count most : ℕ) (ds l : List ℕ) : Type 0 where
  small_count : count ≤ most_number
  small_most : most ≤ most_number
  degrees : Small count ds
  lists : filled_lists count most ds l ≡ true
  lengths : map length (listed (take count ds) (pieces count most l)) ≡ take count ds
  indices : every (every (ltb 0)) (listed (take count ds) (pieces count most l)) ≡ true

module _ {count most : ℕ} {ds l : List ℕ} (h : Listed count most ds l) where
  side_numbers : Small (count * most) l × (all_filled (take count ds) (pieces count most l) ≡ true)
  side_numbers = lists_say count most ds l h.degrees.long h.lists

module _ (side : Side) (h : Listed side.count side.most (degrees_in side) (lists_in side)) where
  side_held : Held side
  side_held = record { numbers = (side_numbers h).0; count = h.small_count; most = h.small_most }

  side_sided : Sided side
  side_sided = record { degrees = h.degrees; numbers = (side_numbers h).0; lengths = h.lengths; indices = h.indices }

-- ---- both sides of a text whose form is sound
module _ (l : List ℕ) (sound : well_formed l ≡ true) where
  columns_listed : Listed (get_or l 0 0) (get_or l 2 0) (column_degrees l) (column_lists l)
  columns_listed =
      let p = parts_of l sound in
      let f = parts.form_back l sound in
      record {
        small_count = small_at 4 l 0 0 p.sizes (omega arith);
        small_most = small_at 4 l 2 0 p.sizes (omega arith);
        degrees = p.degrees_of_columns;
        lists = p.lists_of_columns;
        lengths = f.degrees_of_columns;
        indices = f.column_indices;
      }

  rows_listed : Listed (get_or l 1 0) (get_or l 3 0) (row_degrees l) (row_lists l)
  rows_listed =
      let p = parts_of l sound in
      let f = parts.form_back l sound in
      record {
        small_count = small_at 4 l 1 0 p.sizes (omega arith);
        small_most = small_at 4 l 3 0 p.sizes (omega arith);
        degrees = p.degrees_of_rows;
        lists = p.lists_of_rows;
        lengths = f.degrees_of_rows;
        indices = f.row_indices;
      }

-- ---- the form that was read
-- lists by their numbers, and the indices that they name
abbrev lists_by : Numbered → List (List ℕ)
lists_by k = pieces k.count k.most k.lists

abbrev named_by : Numbered → List (List ℕ)
named_by k = listed (take k.count k.degrees) (lists_by k)

pub no_form_read : (s : List ℕ) → option_map sides_of None ≡ form_of (numbers_of 0 s) → well_formed (numbers_of 0 s) ≡ false
no_form_read s e = none_then (well_formed (numbers_of 0 s)) _ e

module _ (s : List ℕ) (f : Form) (told : option_map sides_of (Some f) ≡ form_of (numbers_of 0 s)) where
  abbrev l : List ℕ
  l = numbers_of 0 s

  read : (well_formed l ≡ true) × (sides_of f ≡ record { columns = columns_of l; rows = rows_of l })
  read = some_then (well_formed l) _ (sides_of f) told

  pub formed : well_formed l ≡ true
  formed = read.0

  columns_read : Listed f.columns.count f.columns.most (degrees_in f.columns) (lists_in f.columns)
  columns_read = subst (λ (k : Sides). Listed k.columns.count k.columns.most k.columns.degrees k.columns.lists) (sym read.1) (columns_listed l formed)

  rows_read : Listed f.rows.count f.rows.most (degrees_in f.rows) (lists_in f.rows)
  rows_read = subst (λ (k : Sides). Listed k.rows.count k.rows.most k.rows.degrees k.rows.lists) (sym read.1) (rows_listed l formed)

  pub columns_sided : Sided f.columns
  columns_sided = side_sided f.columns columns_read

  pub rows_sided : Sided f.rows
  rows_sided = side_sided f.rows rows_read

  pub sides_held : Held f.columns × Held f.rows
  sides_held = (side_held f.columns columns_read, side_held f.rows rows_read)

  -- what agrees
  pub named_agree : agree (named_in f.columns) (named_in f.rows) ≡ agree (named (columns l)) (named (rows l))
  named_agree = ap (λ (k : Sides). agree (named_by k.columns) (named_by k.rows)) read.1

  pub lists_agree : agree (lists_of f.columns) (lists_of f.rows) ≡ agree (named (columns l)) (named (rows l))
  lists_agree =
      ap (λ (k : Sides). agree (lists_by k.columns) (lists_by k.rows)) read.1
      ∙ agree_listed (columns l).degrees (rows l).degrees (columns l).lists (rows l).lists (side_numbers (columns_listed l formed)).1
      (side_numbers (rows_listed l formed)).1

  -- the code
  pub code_is : code_of_rows f.columns.count f.rows ≡ code_of_text s
  unfolding code_in
  code_is = ap (λ (k : Sides). record { bits = k.columns.count; checks = map lowered (named_by k.rows) }) read.1
