-- The parts of an alist text, and how a walk judges its form. Definitions only.
use Rattle.std.specs.Prelude.{◌≡◌, Bool, true, false, ◌&&◌, List, [], ◌∷◌, ℕ, zero, suc, leb, ltb, eqb, get_or, drop, Option}
use Rattle.std.specs.Bool.{then_some}
use Rattle.model.specs.Limits.{most_number}
use Rattle.model.specs.Alist.{column_degrees, row_degrees, column_lists, row_lists, well_formed}
use Rattle.numbers.specs.Walked.{none, Small}
use Rattle.numbers.specs.Sides.{Numbered, numbered}
use Rattle.alist.specs.declared.Form.{Form}
use Rattle.alist.specs.declared.Sizes.{Sizes}

-- the numbers l begin with a list of so many numbers, first so many indices and then zeros
unfoldable pub filled_list : ℕ → ℕ → List ℕ → Bool
filled_list zero zero l = true
filled_list (suc degree) zero l = false
filled_list degree (suc most) [] = false
filled_list zero (suc most) (x ∷ l) = (leb x most_number && eqb x 0) && filled_list zero most l
filled_list (suc degree) (suc most) (x ∷ l) = (leb x most_number && ltb 0 x) && filled_list degree most l

-- they begin with a list for each of the first degrees
unfoldable pub filled_lists : ℕ → ℕ → List ℕ → List ℕ → Bool
filled_lists zero most degrees l = true
filled_lists (suc count) most degrees l = filled_list (get_or degrees 0 none) most l && filled_lists count most (drop 1 degrees) (drop most l)

-- two sides by their numbers, and those of a form
pub record Sides : Type 0 where
  pub columns : Numbered
  pub rows : Numbered

abbrev pub sides_of : Form → Sides
sides_of form = record { columns = numbered form.columns; rows = numbered form.rows }

-- the sides of the numbers l of a text: columns, and rows
abbrev pub columns_of : List ℕ → Numbered
columns_of l = record { count = get_or l 0 0; most = get_or l 2 0; degrees = column_degrees l; lists = column_lists l }

abbrev pub rows_of : List ℕ → Numbered
rows_of l = record { count = get_or l 1 0; most = get_or l 3 0; degrees = row_degrees l; lists = row_lists l }

-- those of its form, where it is one of an alist file (18 where it is not)
abbrev pub form_of : List ℕ → Option Sides
form_of l = then_some (well_formed l) (record { columns = columns_of l; rows = rows_of l })

-- the numbers l begin with the four sizes, and others follow
pub record Sized (l : List ℕ) (sizes : Sizes) (after : List ℕ) : Type 0 where
  pub four : Small 4 l
  pub columns : sizes.columns ≡ get_or l 0 0
  pub rows : sizes.rows ≡ get_or l 1 0
  pub column_most : sizes.column_most ≡ get_or l 2 0
  pub row_most : sizes.row_most ≡ get_or l 3 0
  pub rest : after ≡ column_degrees l
