-- The columns and rows of a sound code: they name the same places, their indices count from 1, and no number is above 65,535. Assumes nothing.
use Rattle.integers.proofs.Prelude.{◌≡◌, refl, sym, ap, ap₂, ◌∙◌, Bool, true, false, cond, ◌&&◌, List, [], ◌∷◌, ◌++◌, map, ℕ, zero, suc, ◌+◌, ◌-◌, ◌≤◌}
use Rattle.integers.proofs.Prelude.{◌<◌, arith, leb-true, le-leb, lt-ltb, eq-eqb, ne_eqb, eqb, ltb, leb, length, get_or, length-append, length-map}
use mathlib.Core.Bool.{and-true, and-false}
use lib.ListN.{replicate, get_or-map}
use Rattle.lists.specs.Entries.{every, some}
use Rattle.lists.proofs.Tests.{and_left, and_right, and_both}
use Rattle.lists.proofs.Tabulated.{length_tab, get_or_tab}
use Rattle.lists.proofs.Entries.{every_in, every_append, every_weaker, every_replicate, every_map, every_in_tab}
use Rattle.model.specs.Causes.{◌if◌}
use Rattle.model.specs.Limits.{most_number, most_degree}
use Rattle.model.specs.Code.{Code}
use Rattle.model.specs.Sound.{Rising, SoundChecks, Sound}
use Rattle.model.specs.Alist.{largest, times, up_to, column_from, columns_of, rows_of, fill, largest_of, lines_of}
use Rattle.model.specs.AlistClaims.{joined, SamePlaces}
use Rattle.model.proofs.Sound.{sound_at}
use Rattle.model.proofs.AlistForm.{body, file_joined}
use Rattle.model.proofs.Agreement.{times_suc, times_rising, same_inside}

-- ---- a file whose numbers are at most u
module _ (u : ℕ) where
  abbrev most : ℕ → Bool
  most x = leb x u

  largest_most : (ds : List ℕ) → every most ds ≡ true → largest ds ≤ u
  largest_most [] h = omega arith
  largest_most (d ∷ ds) h = omega (arith, leb-true d u (and_left (most d) (every most ds) h), largest_most ds (and_right (most d) (every most ds) h))

  filled_most : (size : ℕ) (ls : List (List ℕ)) → up_to u ls ≡ true → every most (joined (map (fill size) ls)) ≡ true
  filled_most size [] h = refl
  filled_most size (l ∷ ls) h =
      let zeros : List ℕ = replicate (size - length l) 0 in
      let none : every most zeros ≡ true = every_replicate most (size - length l) 0 (le-leb 0 u (omega arith)) in
      rw (
        every_append most (l ++ zeros) (joined (map (fill size) ls)),
        every_append most l zeros,
        and_left (every most l) (up_to u ls) h,
        none,
        filled_most size ls (and_right (every most l) (up_to u ls) h),
      )

  pub lines_most : (cs rs : List (List ℕ)) → length cs ≤ u → length rs ≤ u → every (λ l. leb (length l) u) cs ≡ true → every (λ l. leb (length l) u) rs ≡ true
      → up_to u cs ≡ true → up_to u rs ≡ true → every most (joined (lines_of cs rs)) ≡ true
  lines_most cs rs n m p q v w =
      let columns : every most (map length cs) ≡ true = every_map most length cs ∙ p in
      let rows : every most (map length rs) ≡ true = every_map most length rs ∙ q in
      ap (every most) (file_joined cs rs)
      ∙ rw (
        le-leb (length cs) u n,
        le-leb (length rs) u m,
        le-leb (largest_of cs) u (largest_most (map length cs) columns),
        le-leb (largest_of rs) u (largest_most (map length rs) rows),
        every_append most (map length cs) (map length rs ++ body cs rs),
        every_append most (map length rs) (body cs rs),
        every_append most (joined (map (fill (largest_of cs)) cs)) (joined (map (fill (largest_of rs)) rs)),
        columns,
        rows,
        filled_most (largest_of cs) cs v,
        filled_most (largest_of rs) rs w,
      )

-- a higher bound
up_to_more : (u v : ℕ) (ls : List (List ℕ)) → u ≤ v → up_to u ls ≡ true → up_to v ls ≡ true
up_to_more u v ls h e =
    every_weaker (every (λ i. leb i u)) (every (λ i. leb i v))
    (λ l. every_weaker (λ i. leb i u) (λ i. leb i v) (λ i k. le-leb i v (omega (arith, leb-true i u k))) l) ls e

-- ---- a column
-- its indices are those of checks
column_every : (f : ℕ → Bool) (j b : ℕ) (cs : List (List ℕ)) → ((i : ℕ) → i < j + length cs → f (suc i) ≡ true) → every f (column_from j b cs) ≡ true
unfolding column_from
column_every f j b [] h = refl
column_every f j b (c ∷ cs) h =
    every_append f (cond (some (eqb b) c) (suc j ∷ []) []) (column_from (suc j) b cs)
    ∙ and_both (every f (cond (some (eqb b) c) (suc j ∷ []) [])) (every f (column_from (suc j) b cs)) (by (some (eqb b) c))
    (column_every f (suc j) b cs (λ i l. h i (omega arith)))
  where
    by : (t : Bool) → every f (cond t (suc j ∷ []) []) ≡ true
    by true = rw (h j (omega arith))
    by false = refl

pub length_column : (j b : ℕ) (cs : List (List ℕ)) → length (column_from j b cs) ≤ length cs
unfolding column_from
length_column j b [] = omega arith
length_column j b (c ∷ cs) =
    omega (arith, length-append (cond (some (eqb b) c) (suc j ∷ []) []) (column_from (suc j) b cs), by (some (eqb b) c), length_column (suc j) b cs)
  where
    by : (t : Bool) → length (cond t (suc j ∷ []) []) ≤ 1
    by true = omega arith
    by false = omega arith

-- a check is named once, where it has the bit, and none before the first
times_one : (x y : ℕ) (t : Bool) (l : List ℕ) → times x (cond t (y ∷ []) [] ++ l) ≡ 1 if (t && eqb x y) + times x l
times_one x y true l = refl
times_one x y false l = omega arith

column_before : (x j b : ℕ) (cs : List (List ℕ)) → x ≤ j → times x (column_from j b cs) ≡ 0
unfolding column_from
column_before x j b [] h = refl
column_before x j b (c ∷ cs) h =
    times_one x (suc j) (some (eqb b) c) (column_from (suc j) b cs)
    ∙ rw (ne_eqb x (suc j) (λ e. omega arith), and-false (some (eqb b) c), column_before x (suc j) b cs (omega arith))

pub column_times : (r j b : ℕ) (cs : List (List ℕ)) → times (suc (j + r)) (column_from j b cs) ≡ 1 if some (eqb b) (get_or cs r [])
unfolding column_from
column_times r j b [] = refl
column_times zero j b (c ∷ cs) =
    times_one (suc (j + 0)) (suc j) (some (eqb b) c) (column_from (suc j) b cs)
    ∙ rw (eq-eqb (suc (j + 0)) (suc j) (omega arith), and-true (some (eqb b) c), column_before (suc (j + 0)) (suc j) b cs (omega arith)) (omega arith)
column_times (suc r) j b (c ∷ cs) =
    let e : suc (j + suc r) ≡ suc (suc j + r) = omega arith in
    times_one (suc (j + suc r)) (suc j) (some (eqb b) c) (column_from (suc j) b cs)
    ∙ rw (ne_eqb (suc (j + suc r)) (suc j) (λ e. omega arith), and-false (some (eqb b) c), e, column_times r (suc j) b cs) (omega arith)

-- ---- the rows
row_up : (n low : ℕ) (c : List ℕ) → Rising n low c → every (λ i. leb i n) (map suc c) ≡ true
row_up n low [] r = refl
row_up n low (x ∷ c) r = rw (le-leb (suc x) n (omega (arith, r.1))) (row_up n (suc x) c r.2)

rows_up : (n : ℕ) (cs : List (List ℕ)) → SoundChecks n cs → up_to n (map (map suc) cs) ≡ true
rows_up n [] s = refl
rows_up n (c ∷ cs) s = rw (row_up n 0 c s.0.rising) (rows_up n cs s.1)

rows_short : (n u : ℕ) (cs : List (List ℕ)) → most_degree ≤ u → SoundChecks n cs → every (λ l. leb (length l) u) (map (map suc) cs) ≡ true
rows_short n u [] h s = refl
rows_short n u (c ∷ cs) h s = rw (length-map c suc, le-leb (length c) u (omega (arith, s.0.most))) (rows_short n u cs h s.1)

from_one : (cs : List (List ℕ)) → every (every (ltb 0)) (map (map suc) cs) ≡ true
from_one cs =
    every_map (every (ltb 0)) (map suc) cs
    ∙ every_in (λ c. every (ltb 0) (map suc c)) cs []
    (λ j _.
    let c = get_or cs j [] in
    every_map (ltb 0) suc c ∙ every_in (λ x. ltb 0 (suc x)) c 0 (λ i _. lt-ltb 0 (suc (get_or c i 0)) (omega arith)))

-- less 1 again
pub rows_back : (cs : List (List ℕ)) → map (map (λ i. i - 1)) (map (map suc) cs) ≡ cs
rows_back [] = refl
rows_back (c ∷ cs) = ap₂ ◌∷◌ (row c) (rows_back cs)
  where
    row : (c : List ℕ) → map (λ i. i - 1) (map suc c) ≡ c
    row [] = refl
    row (x ∷ c) = ap₂ ◌∷◌ (let e : suc x - 1 ≡ x = omega arith in e) (row c)

-- ---- of a sound code
module _ (k : Code) where
  pub length_columns : length (columns_of k) ≡ k.bits
  unfolding columns_of
  length_columns = length_tab k.bits (λ b. column_from 0 b k.checks)

  pub length_rows : length (rows_of k) ≡ length k.checks
  unfolding rows_of
  length_rows = length-map k.checks (map suc)

  pub column_at : (b : ℕ) → b < k.bits → get_or (columns_of k) b [] ≡ column_from 0 b k.checks
  unfolding columns_of
  column_at b h = get_or_tab k.bits (λ b. column_from 0 b k.checks) b [] h

  pub row_at : (j : ℕ) → get_or (rows_of k) j [] ≡ map suc (get_or k.checks j [])
  unfolding rows_of
  row_at j = get_or-map (map suc) k.checks j []

  -- a test that the column of every bit passes
  columns_every : (f : List ℕ → Bool) → ((b : ℕ) → f (column_from 0 b k.checks) ≡ true) → every f (columns_of k) ≡ true
  unfolding columns_of
  columns_every f h = every_in_tab f k.bits (λ b. column_from 0 b k.checks) (λ b _. h b)

  columns_up : up_to (length k.checks) (columns_of k) ≡ true
  columns_up =
      columns_every (every (λ i. leb i (length k.checks)))
      (λ b. column_every (λ i. leb i (length k.checks)) 0 b k.checks (λ i l. le-leb (suc i) (length k.checks) (omega arith)))

  columns_short : (u : ℕ) → length k.checks ≤ u → every (λ l. leb (length l) u) (columns_of k) ≡ true
  columns_short u h = columns_every (λ l. leb (length l) u) (λ b. le-leb (length (column_from 0 b k.checks)) u (omega (arith, length_column 0 b k.checks)))

  pub columns_from_one : every (every (ltb 0)) (columns_of k) ≡ true
  columns_from_one = columns_every (every (ltb 0)) (λ b. column_every (ltb 0) 0 b k.checks (λ i _. lt-ltb 0 (suc i) (omega arith)))

  pub rows_from_one : every (every (ltb 0)) (rows_of k) ≡ true
  unfolding rows_of
  rows_from_one = from_one k.checks

module _ (k : Code) (s : Sound k) where
  indices_up : up_to k.bits (rows_of k) ≡ true
  unfolding rows_of
  indices_up = rows_up k.bits k.checks s.checks

  pub code_most : every (λ x. leb x most_number) (joined (lines_of (columns_of k) (rows_of k))) ≡ true
  unfolding rows_of
  code_most =
      let bits = s.bits_most in
      let few = s.checks_most in
      lines_most most_number (columns_of k) (rows_of k)
      (omega (arith, length_columns k))
      (omega (arith, length_rows k))
      (columns_short k most_number (omega arith))
      (rows_short k.bits most_number k.checks (omega arith) s.checks)
      (up_to_more (length k.checks) most_number (columns_of k) (omega arith) (columns_up k))
      (up_to_more k.bits most_number (rows_of k) (omega arith) indices_up)

  pub code_places : SamePlaces (columns_of k) (rows_of k)
  code_places = same_inside (columns_of k) (rows_of k) (rw (length_rows k) (columns_up k)) (rw (length_columns k) indices_up) at
    where
      at : (r c : ℕ) → r < length (rows_of k) → c < length (columns_of k) → times (suc c) (get_or (rows_of k) r []) ≡ times (suc r) (get_or (columns_of k) c [])
      at r c h l =
          let check = get_or k.checks r [] in
          let sound = sound_at k.bits k.checks s.checks r (omega (arith, length_rows k)) in
          let z : suc r ≡ suc (0 + r) = omega arith in
          ap (times (suc c)) (row_at k r) ∙ times_suc c check ∙ times_rising c k.bits 0 check sound.rising
          ∙ sym (ap₂ times z (column_at k c (omega (arith, length_columns k))) ∙ column_times r 0 c k.checks)
