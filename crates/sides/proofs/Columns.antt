-- The columns of checks: how long they are, one check more, and what a counting sort of checks keeps. Assumes nothing.
use Rattle.integers.proofs.Prelude.{◌≡◌, refl, sym, ap, ◌∙◌, Bool, true, false, cond, List, [], ◌∷◌, ◌++◌, append_assoc, append-nil, ℕ, suc, ◌+◌, ◌≤◌, ◌<◌}
use Rattle.integers.proofs.Prelude.{arith, eq-eqb, eqb, length, get_or}
use Rattle.lists.specs.Tabulated.{tab, over}
use Rattle.lists.specs.Entries.{some, total}
use Rattle.lists.proofs.Tabulated.{length_tab, get_or_tab, tab_same, over_in}
use Rattle.lists.proofs.Entries.{some_of, total_append}
use Rattle.model.specs.Alist.{column_from}
use Rattle.model.proofs.AlistCode as AlistCode
use Rattle.sides.specs.Columns.{has, counted, start_of}
use Rattle.sides.proofs.Sorting.{start_of_lem, Sorted, Open, grown}

-- ---- how long they are
pub column_length : (j b : ℕ) (cs : List (List ℕ)) → length (column_from j b cs) ≡ total (has b) cs
unfolding column_from
column_length j b [] = refl
column_length j b (c ∷ cs) = by (some (eqb b) c) (column_length (suc j) b cs)
  where
    by : (t : Bool) → length (column_from (suc j) b cs) ≡ total (has b) cs
        → length (cond t (suc j ∷ []) [] ++ column_from (suc j) b cs) ≡ cond t 1 0 + total (has b) cs
    by true h = omega arith
    by false h = omega arith

-- ---- the degrees of n columns
abbrev pub degrees_of : ℕ → List (List ℕ) → List ℕ
degrees_of n cs = tab n (λ b. total (has b) cs)

pub degrees_are : (n : ℕ) (cs : List (List ℕ)) → degrees_of n cs ≡ tab n (λ b. length (column_from 0 b cs))
degrees_are n cs = tab_same n (λ b. total (has b) cs) (λ b. length (column_from 0 b cs)) (λ b h. sym (column_length 0 b cs))

pub degrees_few : (n : ℕ) (cs : List (List ℕ)) (b : ℕ) → b < n → get_or (degrees_of n cs) b 0 ≤ length cs
degrees_few n cs b h = omega (arith, get_or_tab n (λ b. total (has b) cs) b 0 h, column_length 0 b cs, AlistCode.length_column 0 b cs)

pub degrees_next : (n : ℕ) (cs : List (List ℕ)) (c : List ℕ) → counted c (degrees_of n cs) ≡ degrees_of n (cs ++ (c ∷ []))
degrees_next n cs c =
    let f : ℕ → ℕ = λ b. total (has b) cs in
    ap (λ (k : ℕ). tab k (λ b. get_or (tab n f) b 0 + has b c)) (length_tab n f)
    ∙ tab_same n (λ b. get_or (tab n f) b 0 + has b c) (λ b. total (has b) (cs ++ (c ∷ [])))
    (λ b h. rw (get_or_tab n f b 0 h, total_append (has b) cs (c ∷ [])) (omega arith))

-- ---- one check more
pub column_last : (j b : ℕ) (cs : List (List ℕ)) (c : List ℕ)
    → column_from j b (cs ++ (c ∷ [])) ≡ column_from j b cs ++ cond (some (eqb b) c) (suc (j + length cs) ∷ []) []
unfolding column_from
column_last j b [] c = let z : j + 0 ≡ j = omega arith in rw z (append-nil _)
column_last j b (d ∷ cs) c =
    let e : suc j + length cs ≡ j + suc (length cs) = omega arith in
    rw (column_last (suc j) b cs c, e) (sym (append_assoc (cond (some (eqb b) d) (suc j ∷ []) []) (column_from (suc j) b cs) _))

-- ---- column b of these checks
abbrev pub column : List (List ℕ) → ℕ → List ℕ
column checks b = column_from 0 b checks

pub length_column : (checks : List (List ℕ)) (b : ℕ) → length (column checks b) ≡ total (has b) checks
length_column checks b = column_length 0 b checks

-- before the first
pub column_start : (all : List (List ℕ)) (n : ℕ) (degrees next old entries : List ℕ) → degrees ≡ tab n (λ b. length (column all b))
    → next ≡ over n (start_of degrees) old → Sorted n (column all) (column []) next entries
unfolding column_from
column_start all n degrees next old entries d e =
    record {
      here =
          λ b h.
          rw (e, over_in n (start_of degrees) old b 0 h, d, start_of_lem n (column all) b (omega arith)) (omega arith);
      part = λ b h. refl;
    }

-- one more: c after those that are done
module _ (all done left : List (List ℕ)) (c : List ℕ) (whole : done ++ (c ∷ left) ≡ all) where
  column_parted : (b : ℕ) → length (column all b) ≡ length (column done b) + (has b c + total (has b) left)
  column_parted b =
      omega (
        arith,
        length_column all b,
        ap (total (has b)) whole,
        total_append (has b) done (c ∷ left),
        length_column done b,
      )

  pub column_within : (b : ℕ) → length (column done b) ≤ length (column all b)
  column_within b = omega (arith, column_parted b)

  pub column_open : Open (column all) (column done) c
  column_open i k =
      let b = get_or c i 0 in
      let one : has b c ≡ 1 = rw (some_of (eqb b) c i 0 k (eq-eqb b b refl)) in
      omega (arith, one, column_parted b)

  pub column_grown : (b : ℕ) → column (done ++ (c ∷ [])) b ≡ grown (length done + 1) c (column done) b
  column_grown b =
      let e : suc (0 + length done) ≡ length done + 1 = omega arith in
      column_last 0 b done c ∙ rw e
