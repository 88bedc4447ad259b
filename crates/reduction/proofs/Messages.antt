-- The message of a word, column by column. Assumes nothing.
use Rattle.integers.proofs.Prelude.{◌≡◌, refl, sym, ap, ap₂, ◌∙◌, true, false, List, [], ◌∷◌, ◌++◌, append-nil, ℕ, suc, ◌+◌}
use Rattle.integers.proofs.Prelude.{◌≤◌, ◌<◌, arith, add-one, length, take, set, length-take-le, take_all, take-suc}
use Rattle.lists.specs.Tabulated.{written}
use Rattle.lists.proofs.Tabulated.{length_written}
use Rattle.lists.proofs.Entries.{total_part}
use Rattle.lists.proofs.Parts.{written_next}
use Rattle.model.specs.Causes.{◌if◌}
use Rattle.model.specs.Words.{bit_at}
use Rattle.model.specs.Encoding.{Column, pivot, other, is_other, others, message_in}
use Rattle.model.proofs.Encoding.{length_message}
use Rattle.reduction.specs.Table.{has_pivot, column, columns_in}
use Rattle.reduction.proofs.Table.{columns_to, length_columns, others_next, others_few}

message_next : (cs : List Column) (c : Column) (w : List ℕ) (x : ℕ) → length w ≡ length cs
    → message_in (cs ++ (c ∷ [])) (w ++ (x ∷ [])) ≡ message_in cs w ++ message_in (c ∷ []) (x ∷ [])
unfolding message_in
message_next [] c [] x e = refl
message_next [] c (y ∷ w) x e = absurd (omega arith)
message_next (d ∷ cs) c [] x e = absurd (omega arith)
message_next (other ∷ cs) c (y ∷ w) x e = ap (λ (l : List ℕ). y ∷ l) (message_next cs c w x (omega arith))
message_next (pivot q ∷ cs) c (y ∷ w) x e = message_next cs c w x (omega arith)

-- so many entries were written, those of the columns before j
pub record Begun (rows : List (List ℕ)) (w old : List ℕ) (j count : ℕ) (message : List ℕ) : Type 0 where
  pub counted : count ≡ others (take j (columns_in (length w) rows))
  pub entries : message ≡ written (message_in (take j (columns_in (length w) rows)) (take j w)) old

module _ (rows : List (List ℕ)) (w old : List ℕ) (room : others (columns_in (length w) rows) ≤ length old) where
  abbrev all : List Column
  all = columns_in (length w) rows

  pub begun_start : Begun rows w old 0 0 old
  unfolding message_in
  begun_start = record { counted = refl; entries = refl }

  module _ (j count : ℕ) (message : List ℕ) (g : Begun rows w old j count message) where
    long : length (message_in (take j all) (take j w)) ≡ count
    long = length_message (take j all) (take j w) ∙ sym g.counted

    most : count ≤ length old
    most = omega (arith, g.counted, total_part (λ c. 1 if is_other c) all j, room)

    pub begun_long : length message ≡ length old
    begun_long = ap length g.entries ∙ length_written (message_in (take j all) (take j w)) old (omega (arith, long, most))

    pub begun_few : count ≤ length w
    begun_few = omega (arith, g.counted, total_part (λ c. 1 if is_other c) all j, others_few all, length_columns (length w) rows)

    pub begun_end : length w ≤ j → message ≡ written (message_in all w) old
    begun_end h = g.entries ∙ rw (take_all j w h, take_all j all (omega (arith, length_columns (length w) rows)))

    module _ (h : j < length w) where
      next : message_in (take (suc j) all) (take (suc j) w) ≡ message_in (take j all) (take j w) ++ message_in (column (length w) rows j ∷ []) (bit_at w j ∷ [])
      next =
          ap₂ message_in (columns_to (length w) rows j h) (take-suc w j 0 h)
          ∙ message_next (take j all) (column (length w) rows j) (take j w) (bit_at w j)
          (length-take-le j w (omega arith) ∙ sym (length-take-le j all (omega (arith, length_columns (length w) rows))))

      same_count : has_pivot rows j ≡ true → others (take (suc j) all) ≡ others (take j all)
      same_count p = others_next (length w) rows j h ∙ rw p (omega arith)

      -- at a pivot nothing more,
      pub begun_pivot : has_pivot rows j ≡ true → Begun rows w old (j + 1) count message
      unfolding message_in
      begun_pivot p =
          let same : message_in (take (suc j) all) (take (suc j) w) ≡ message_in (take j all) (take j w) = next ∙ rw p (append-nil (message_in (take j all) (take j w))) in
          record {
            counted = rw (add-one j) (omega (arith, g.counted, same_count p));
            entries = rw (add-one j) (g.entries ∙ ap (λ (m : List ℕ). written m old) (sym same));
          }

      -- at another column one entry
      module _ (p : has_pivot rows j ≡ false) where
        one : others (take (suc j) all) ≡ count + 1
        one = others_next (length w) rows j h ∙ rw (p, ← g.counted)

        pub begun_room : count < length message
        begun_room = omega (arith, one, total_part (λ c. 1 if is_other c) all (suc j), room, begun_long)

        pub begun_other : Begun rows w old (j + 1) (count + 1) (set message count (bit_at w j))
        unfolding message_in
        begun_other =
            let told = message_in (take j all) (take j w) in
            let step : set message count (bit_at w j) ≡ written (told ++ (bit_at w j ∷ [])) old
            = ap₂ (λ (l : List ℕ) (i : ℕ). set l i (bit_at w j)) g.entries (sym long) ∙ written_next told old (bit_at w j) (omega (arith, long, begun_room, begun_long)) in
            let more : message_in (take (suc j) all) (take (suc j) w) ≡ told ++ (bit_at w j ∷ []) = next ∙ rw p in
            record {
              counted = rw (add-one j) (sym one);
              entries = rw (add-one j) (step ∙ ap (λ (m : List ℕ). written m old) (sym more));
            }
