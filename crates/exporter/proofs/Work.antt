-- The lists that a measure and a text are made by: what the calls of `sides` want and give there. Assumes nothing.
use Rattle.integers.proofs.Prelude.{◌≡◌, sym, ap, ◌∙◌, List, map, ℕ, suc, ◌≤◌, arith, length, length-map}
use Rattle.lists.specs.Tabulated.{tab}
use Rattle.lists.specs.Entries.{total, sum}
use Rattle.lists.proofs.Tabulated.{length_tab}
use Rattle.lists.proofs.Entries.{total_map}
use Rattle.model.specs.Code.{Code}
use Rattle.model.specs.Alist.{column_from, columns_of, rows_of, alist_of}
use Rattle.model.specs.AlistClaims.{joined}
use Rattle.text.specs.declared.Writer.{Writer}
use Rattle.text.specs.Wrote.{Room}
use Rattle.exporter.specs.Lines.{SideLists, Lists}
use Rattle.exporter.proofs.Texts.{degrees_of_columns, degrees_of_rows, column_degrees_are, row_degrees_are, columns_joined, rows_joined}
use Rattle.exporter.proofs.Texts.{columns_total, few, columns_side, rows_side, text_from, text_is}

same_text : {d d' r r' e e' f f' : List ℕ} → d ≡ d' → r ≡ r' → e ≡ e' → f ≡ f' → text_from d r e f ≡ text_from d' r' e' f'
same_text q r s t = rw (q, r, s, t)

module _ {k : Code} {columns rows entries : List ℕ} (w : Lists k columns rows entries) where
  -- lists of the same lengths, c and e, serve as well
  pub again : (c e : List ℕ) → length c ≡ length columns → length e ≡ length entries → Lists k c rows e
  again c e bits places = record { sound = w.sound; bits = bits ∙ w.bits; degrees = w.degrees; places = places ∙ w.places }

  pub rows_long : length rows ≡ length k.checks
  rows_long = ap length w.degrees ∙ length-map k.checks length

  rows_are : rows ≡ degrees_of_rows k
  rows_are = w.degrees ∙ row_degrees_are k

  -- the degrees of the columns, d
  module _ (d : List ℕ) (degrees : d ≡ tab k.bits (λ b. length (column_from 0 b k.checks))) where
    pub columns_long : length d ≡ k.bits
    columns_long = ap length degrees ∙ length_tab k.bits (λ b. length (column_from 0 b k.checks))

    columns_are : d ≡ degrees_of_columns k
    columns_are = degrees ∙ column_degrees_are k

    total_is : sum d ≡ total length k.checks
    total_is = ap sum columns_are ∙ total_map (λ d. d) length (columns_of k) ∙ columns_total k w.sound

    pub places_asked : (length entries ≡ sum d) × (length entries ≤ 65535)
    places_asked = (w.places ∙ sym total_is, omega (arith, w.places, few k w.sound))

    -- their entries, e, and those of the rows, f
    module _ (e : List ℕ) (given : e ≡ joined (tab k.bits (λ b. column_from 0 b k.checks))) where
      entries_are : e ≡ joined (columns_of k)
      entries_are = given ∙ columns_joined k

      pub side_columns : SideLists d e
      side_columns = rw (columns_are, entries_are) (columns_side k w.sound)

      module _ (f : List ℕ) (told : f ≡ joined (map (map suc) k.checks)) where
        row_entries_are : f ≡ joined (rows_of k)
        row_entries_are = told ∙ rows_joined k

        pub side_rows : SideLists rows f
        side_rows = rw (rows_are, row_entries_are) (rows_side k w.sound)

        pub text : alist_of k ≡ text_from d rows e f
        text = text_is k ∙ same_text (sym columns_are) (sym rows_are) (sym entries_are) (sym row_entries_are)

        -- a writer with room for the text has room for its parts
        pub room : (o : Writer) → Room (length (alist_of k)) o → Room (length (text_from d rows e f)) o
        room o h = omega (arith, ap length text)
