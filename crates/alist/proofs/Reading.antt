-- The form of a text, read step by step: what each test of `read_form` says of the numbers.
use Rattle.integers.proofs.Prelude.{◌≡◌, refl, sym, subst, ◌∙◌, Bool, true, false, List, [], ℕ, ◌*◌, T, get_or, take, drop}
use Rattle.std.specs.Prelude.{Option, Some, None, option_map}
use Rattle.lists.proofs.Tests.{same_test}
use Rattle.std.specs.Bool.{then_some, IsTrue}
use Rattle.model.specs.Alist.{largest, column_degrees, row_degrees, well_formed}
use Rattle.numbers.specs.Walked.{Small}
use Rattle.numbers.specs.Sides.{Numbered}
use Rattle.alist.specs.declared.Sizes.{Sizes}
use Rattle.alist.specs.Form.{filled_lists, columns_of, rows_of, form_of, Sized}
use Rattle.alist.proofs.Parts.{Parts, parts_of, well_formed_lem, not_formed}

-- ---- a value where a test holds
pub some_then : {A : Type 0} (t : Bool) (x y : A) → Some y ≡ then_some t x → (t ≡ true) × (y ≡ x)
some_then true x y e = (refl, cc)
some_then false x y e = absurd (cc)

pub none_then : {A : Type 0} (t : Bool) (x : A) → None ≡ then_some t x → t ≡ false
none_then true x e = absurd (cc)
none_then false x e = refl

pub map_then : {A B : Type 0} (f : A → B) (t : Bool) (x : A) {o : Option B} → then_some t (f x) ≡ o → option_map f (then_some t x) ≡ o
map_then f true x e = e
map_then f false x e = e

-- no form
pub refused : {l k : List ℕ} → l ≡ k → (Parts l → ⊥) → None ≡ form_of k
refused {l} e h = rw (← e, not_formed l h)

-- the next `count` of the numbers d are small, the largest is x, and others follow
abbrev Scanned : ℕ → List ℕ → ℕ → List ℕ → Type 0
Scanned count d x after = Small count d × (x ≡ largest (take count d)) × (after ≡ drop count d)

-- what follows the lists of a side, where they are as its degrees ask
abbrev walked : Numbered → Option (List ℕ)
walked side = then_some (filled_lists side.count side.most side.degrees side.lists) (drop (side.count * side.most) side.lists)

abbrev Walked : Numbered → List ℕ → Type 0
Walked side after = (filled_lists side.count side.most side.degrees side.lists ≡ true) × (after ≡ drop (side.count * side.most) side.lists)

lists_follow : (side : Numbered) (after : List ℕ) → Some after ≡ walked side → Walked side after
lists_follow side after e = some_then _ _ after e

-- ---- step by step: d and e are the degrees, f and g the lists, h what follows
module _ {l : List ℕ} {z : Sizes} {d : List ℕ} (sized : Sized l z d) where
  module _ {n : ℕ} (many : n ≡ z.columns) where
    pub columns_missing : (Small n d → ⊥) → Parts l → ⊥
    columns_missing fails p = fails (rw (many, sized.columns, sized.rest) p.degrees_of_columns)

    module _ {a : ℕ} {e : List ℕ} (column_scan : Scanned n d a e) where
      columns_passed : Scanned (get_or l 0 0) (column_degrees l) a e
      columns_passed = rw (← sized.columns, ← many, ← sized.rest) column_scan

      pub columns_differ : (a ≡ z.column_most → ⊥) → Parts l → ⊥
      columns_differ fails p = fails (columns_passed.1 ∙ sym p.column_most ∙ sym sized.column_most)

      module _ (column_most : a ≡ z.column_most) {m : ℕ} (rows_many : m ≡ z.rows) where
        pub rows_missing : (Small m e → ⊥) → Parts l → ⊥
        rows_missing fails p = fails (rw (rows_many, sized.rows, columns_passed.2) p.degrees_of_rows)

        module _ {b : ℕ} {f : List ℕ} (row_scan : Scanned m e b f) where
          rows_passed : Scanned (get_or l 1 0) (row_degrees l) b f
          rows_passed = rw (← sized.rows, ← rows_many, ← columns_passed.2) row_scan

          pub rows_differ : (b ≡ z.row_most → ⊥) → Parts l → ⊥
          rows_differ fails p = fails (rows_passed.1 ∙ sym p.row_most ∙ sym sized.row_most)

          module _ (row_most : b ≡ z.row_most) {d' e' : List ℕ} (again_d : d' ≡ d) (again_e : e' ≡ e) {columns : Numbered}
              (columns_built : columns ≡ record { count = z.columns; most = z.column_most; degrees = d'; lists = f }) where
            columns_is : columns ≡ columns_of l
            columns_is = columns_built ∙ rw (again_d, sized.columns, sized.column_most, sized.rest, rows_passed.2)

            pub column_lists_missing : None ≡ walked columns → Parts l → ⊥
            column_lists_missing h p = let told = none_then _ _ (subst (λ (s : Numbered). None ≡ walked s) columns_is h) in subst T (sym p.lists_of_columns ∙ told) tt

            module _ {g : List ℕ} (column_walk : Some g ≡ walked columns) {rows : Numbered}
                (rows_built : rows ≡ record { count = z.rows; most = z.row_most; degrees = e'; lists = g }) where
              columns_walked : Walked (columns_of l) g
              columns_walked = subst (λ (s : Numbered). Walked s g) columns_is (lists_follow columns g column_walk)

              rows_is : rows ≡ rows_of l
              rows_is = rows_built ∙ rw (again_e, sized.rows, sized.row_most, columns_passed.2, columns_walked.1)

              pub row_lists_missing : None ≡ walked rows → Parts l → ⊥
              row_lists_missing h p = let told = none_then _ _ (subst (λ (s : Numbered). None ≡ walked s) rows_is h) in subst T (sym p.lists_of_rows ∙ told) tt

              module _ {h : List ℕ} (row_walk : Some h ≡ walked rows) where
                rows_walked : Walked (rows_of l) h
                rows_walked = subst (λ (s : Numbered). Walked s h) rows_is (lists_follow rows h row_walk)

                parts : h ≡ [] → Parts l
                parts none = record {
                  sizes = sized.four;
                  degrees_of_columns = columns_passed.0;
                  column_most = sym sized.column_most ∙ sym column_most ∙ columns_passed.1;
                  degrees_of_rows = rows_passed.0;
                  row_most = sym sized.row_most ∙ sym row_most ∙ rows_passed.1;
                  lists_of_columns = columns_walked.0;
                  lists_of_rows = rows_walked.0;
                  none_left = sym rows_walked.1 ∙ none;
                }

                pub read : {k : List ℕ} → l ≡ k → (t : Bool) → (IsTrue t → h ≡ []) × (h ≡ [] → IsTrue t)
                    → then_some t (record { columns = columns; rows = rows }) ≡ form_of k
                read e t told =
                    let same = same_test t (well_formed l) (λ e. well_formed_lem l (parts (told.0 e))) (λ e. told.1 (rows_walked.1 ∙ (parts_of l e).none_left)) in
                    rw (← e, columns_is, rows_is, same)
