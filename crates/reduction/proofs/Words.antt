-- The word of a message, from the last column back. Assumes nothing.
use Rattle.integers.proofs.Prelude.{◌≡◌, refl, sym, ap, ap₂, ◌∙◌, true, false, List, ◌∷◌, ℕ, suc, ◌+◌, ◌-◌, ◌%◌}
use Rattle.integers.proofs.Prelude.{◌≤◌, ◌<◌, arith, add-one, length, take, drop, set, length-set, take_all, drop-cons, drop-drop, drop_of_length-le, get_or-drop}
use lib.Seq.{slice, get_or-set_same, drop-set-lt}
use Rattle.lists.proofs.Entries.{total_part}
use Rattle.model.specs.Causes.{◌if◌}
use Rattle.model.specs.Words.{bit_at}
use Rattle.model.specs.Encoding.{Column, is_other, others, inner_product, encoded_in}
use Rattle.reduction.specs.Table.{row, has_pivot, columns_in}
use Rattle.reduction.proofs.Table.{columns_from, length_columns, others_next}

-- the entries from column j on are the word of what is left of the message
pub record Ended (rows : List (List ℕ)) (m old : List ℕ) (j left : ℕ) (word : List ℕ) : Type 0 where
  pub long : length word ≡ length old
  pub most : j ≤ length old
  pub counted : left ≡ others (take j (columns_in (length old) rows))
  pub entries : drop j word ≡ encoded_in (drop j (columns_in (length old) rows)) (drop left m)

set_from : (w : List ℕ) (i x : ℕ) → i < length w → drop i (set w i x) ≡ x ∷ drop (suc i) w
set_from w i x h =
    drop-cons (set w i x) i 0 (omega (arith, length-set w i x)) ∙ ap₂ ◌∷◌ (get_or-set_same w i x 0 h) (drop-set-lt (suc i) w i x (omega arith))

module _ (rows : List (List ℕ)) (m old : List ℕ) (fits : length m ≡ others (columns_in (length old) rows)) where
  abbrev columns : List Column
  columns = columns_in (length old) rows

  pub ended_start : Ended rows m old (length old) (length m) old
  unfolding encoded_in
  ended_start =
      let past : length columns ≤ length old = omega (arith, length_columns (length old) rows) in
      record {
        long = refl;
        most = omega arith;
        counted = fits ∙ ap others (sym (take_all (length old) columns past));
        entries = drop_of_length-le old {i = length old} (omega arith) ∙ rw (drop_of_length-le columns {i = length old} past);
      }

  module _ (j left : ℕ) (word : List ℕ) (g : Ended rows m old j left word) where
    pub ended_most : left ≤ length m
    ended_most = omega (arith, g.counted, total_part (λ c. 1 if is_other c) columns j, fits)

    pub ended_end : j ≡ 0 → word ≡ encoded_in columns m
    ended_end e =
        let none : left ≡ 0 = g.counted ∙ rw e in
        rw (e, none) at g.entries

    -- the column before j
    module _ (i : ℕ) (e : j ≡ suc i) where
      inside : i < length old
      inside = omega (arith, g.most)

      pub ended_inside : i < length word
      ended_inside = omega (arith, inside, g.long)

      after : drop (suc i) word ≡ encoded_in (drop (suc i) columns) (drop left m)
      after = rw e at g.entries

      counted_next : others (take (suc i) columns) ≡ left
      counted_next = rw e at (sym g.counted)

      -- a pivot is fixed by its row
      pub ended_pivot : (x : ℕ) → has_pivot rows i ≡ true → x ≡ inner_product (slice (i + 1) (length word) (row rows i)) (drop (i + 1) word) % 2
          → Ended rows m old i left (set word i x)
      unfolding encoded_in
      ended_pivot x p f =
          let is : x ≡ inner_product (slice (suc i) (length old) (row rows i)) (drop (suc i) word) % 2 = f ∙ rw (add-one i, g.long) in
          record {
            long = length-set word i x ∙ g.long;
            most = omega (arith, inside);
            counted = sym counted_next ∙ others_next (length old) rows i inside ∙ rw p (omega arith);
            entries = set_from word i x ended_inside ∙ rw (columns_from (length old) rows i inside, p) (rw (is, after));
          }

      -- another column has the last entry that is left
      module _ (p : has_pivot rows i ≡ false) where
        one : left ≡ others (take i columns) + 1
        one = sym counted_next ∙ others_next (length old) rows i inside ∙ rw p

        pub ended_some : 1 ≤ left
        ended_some = omega (arith, one)

        pub ended_other : Ended rows m old i (left - 1) (set word i (bit_at m (left - 1)))
        unfolding encoded_in
        ended_other =
            let k = left - 1 in
            let z : k + 0 ≡ k = omega arith in
            let first : bit_at (drop k m) 0 ≡ bit_at m k = get_or-drop k m 0 0 ∙ ap (bit_at m) z in
            let back : k + 1 ≡ left = omega (arith, one) in
            let rest : drop 1 (drop k m) ≡ drop left m = drop-drop 1 k m ∙ ap (λ (y : ℕ). drop y m) back in
            record {
              long = length-set word i (bit_at m k) ∙ g.long;
              most = omega (arith, inside);
              counted = omega (arith, one);
              entries = set_from word i (bit_at m k) ended_inside ∙ rw (columns_from (length old) rows i inside, p) (rw (first, rest, after));
            }
