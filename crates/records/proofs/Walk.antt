-- The check records of s one after another. A loop over them keeps `Walk s j rest`, and what it says of `checks_in j s`, so that it is done where j is
-- their number: `walk_start`, `walk_next`; of the check at hand `walk_check`, `walk_judged`; of what it makes `walk_checks`, `walk_total`. Assumes nothing.
use Rattle.integers.proofs.Prelude.{◌≡◌, refl, sym, ap, ◌∙◌, List, [], ◌∷◌, ◌++◌, ℕ, zero, suc, ◌+◌, ◌-◌, ◌*◌, ◌≤◌, ◌<◌, arith, add-one, get_or, drop}
use Rattle.integers.proofs.Prelude.{drop-drop}
use Rattle.lists.specs.Entries.{total}
use Rattle.lists.proofs.Entries.{total_append}
use Rattle.model.specs.Causes.{first_of}
use Rattle.model.specs.Records.{two_bytes, numbers, degree, indices, after_check, checks_in, after_checks, judge_check, judge_checks}
use Rattle.model.proofs.Causes.{refused, only, clear}

-- ---- j records, and one more
after_next : (j : ℕ) (s : List ℕ) → after_checks (suc j) s ≡ after_check (after_checks j s)
unfolding after_checks
after_next zero s = refl
after_next (suc j) s = after_next j (after_check s)

checks_next : (j : ℕ) (s : List ℕ) → checks_in (suc j) s ≡ checks_in j s ++ (indices (after_checks j s) ∷ [])
unfolding checks_in after_checks
checks_next zero s = refl
checks_next (suc j) s = ap (◌∷◌ (indices s)) (checks_next j (after_check s))

-- the judgement of m records, j of which passed
judge_next : (n j m : ℕ) (s : List ℕ) → j < m → judge_checks n j s ≡ 0
    → judge_checks n m s ≡ first_of (judge_check n (after_checks j s) ∷ judge_checks n (m - suc j) (after_checks (suc j) s) ∷ [])
unfolding judge_checks after_checks
judge_next n j zero s h e = absurd (omega arith)
judge_next n zero (suc m) s h e = let k : suc m - 1 ≡ m = omega arith in rw k
judge_next n (suc j) (suc m) s h e =
    let x = clear (judge_check n s ∷ judge_checks n j (after_check s) ∷ []) e in
    let k : suc m - suc (suc j) ≡ m - suc j = omega arith in
    rw (x.0, k) (only _ ∙ judge_next n j m (after_check s) (omega arith) x.1.0)

-- ---- record j of m
check_at : (j m : ℕ) (s : List ℕ) → j < m → get_or (checks_in m s) j [] ≡ indices (after_checks j s)
unfolding checks_in after_checks
check_at j zero s h = absurd (omega arith)
check_at zero (suc m) s h = refl
check_at (suc j) (suc m) s h = check_at j m (after_check s) (omega arith)

judged_at : (n j m : ℕ) (s : List ℕ) → j < m → judge_checks n m s ≡ 0 → judge_check n (after_checks j s) ≡ 0
unfolding judge_checks after_checks
judged_at n j zero s h e = absurd (omega arith)
judged_at n zero (suc m) s h e = (clear (judge_check n s ∷ judge_checks n m (after_check s) ∷ []) e).0
judged_at n (suc j) (suc m) s h e = judged_at n j m (after_check s) (omega arith) (clear (judge_check n s ∷ judge_checks n m (after_check s) ∷ []) e).1.0

-- the first j of m
pub judge_within : (n j m : ℕ) (s : List ℕ) → j ≤ m → judge_checks n m s ≡ 0 → judge_checks n j s ≡ 0
unfolding judge_checks
judge_within n zero m s h e = refl
judge_within n (suc j) zero s h e = absurd (omega arith)
judge_within n (suc j) (suc m) s h e =
    let x = clear (judge_check n s ∷ judge_checks n m (after_check s) ∷ []) e in
    rw (x.0, judge_within n j m (after_check s) (omega arith) x.1.0)

pub total_within : (f : List ℕ → ℕ) (j m : ℕ) (s : List ℕ) → j ≤ m → total f (checks_in j s) ≤ total f (checks_in m s)
unfolding checks_in
total_within f zero m s h = omega arith
total_within f (suc j) zero s h = absurd (omega arith)
total_within f (suc j) (suc m) s h = omega (arith, total_within f j m (after_check s) (omega arith))

-- ---- the walk: j records of s were passed, and `rest` is what they leave
abbrev pub Walk : List ℕ → ℕ → List ℕ → Type 0
Walk s j rest = rest ≡ after_checks j s

pub walk_start : (s : List ℕ) → Walk s 0 s
unfolding after_checks
walk_start s = refl

module _ (s : List ℕ) (j : ℕ) (rest : List ℕ) (w : Walk s j rest) where
  pub walk_next : (t : List ℕ) → t ≡ after_check rest → Walk s (j + 1) t
  walk_next t e = e ∙ rw (w, add-one j) (sym (after_next j s))

  pub walk_checks : checks_in (j + 1) s ≡ checks_in j s ++ (indices rest ∷ [])
  walk_checks = rw (w, add-one j) (checks_next j s)

  pub walk_total : (f : List ℕ → ℕ) → total f (checks_in (j + 1) s) ≡ total f (checks_in j s) + f (indices rest)
  walk_total f = rw (walk_checks, total_append f (checks_in j s) (indices rest ∷ [])) (omega arith)

  pub walk_check : (m : ℕ) → j < m → get_or (checks_in m s) j [] ≡ indices rest
  walk_check m h = rw w (check_at j m s h)

  pub walk_judged : (n m : ℕ) → j < m → judge_checks n m s ≡ 0 → judge_check n rest ≡ 0
  walk_judged n m h e = rw w (judged_at n j m s h e)

  -- of a judgement that goes on, and of one that ends here
  module _ (n : ℕ) (passed : judge_checks n j s ≡ 0) where
    pub walk_passed : judge_check n rest ≡ 0 → judge_checks n (j + 1) s ≡ 0
    unfolding judge_checks
    walk_passed c = let k : suc j - suc j ≡ 0 = omega arith in rw (add-one j) (judge_next n j (suc j) s (omega arith) passed ∙ rw (rw w at c, k))

    pub walk_refused : (m : ℕ) → j < m → (judge_check n rest ≡ 0 → ⊥) → judge_checks n m s ≡ judge_check n rest
    walk_refused m h c = judge_next n j m s h passed ∙ rw (← w) (refused (judge_check n rest) (judge_checks n (m - suc j) (after_checks (suc j) s) ∷ []) c)

-- ---- index i of a check
pub number_at : (d : ℕ) (s : List ℕ) (i : ℕ) → i < d → get_or (numbers d s) i 0 ≡ two_bytes (drop (2 * i) s)
unfolding numbers
number_at zero s i h = absurd (omega arith)
number_at (suc d) s zero h = refl
number_at (suc d) s (suc i) h = let e : 2 + 2 * i ≡ 2 * suc i = omega arith in number_at d (drop 2 s) i (omega arith) ∙ rw (drop-drop (2 * i) 2 s, e)

pub index_at : (s : List ℕ) (i : ℕ) → i < degree s → get_or (indices s) i 0 ≡ two_bytes (drop (3 + 2 * i) s)
index_at s i h = number_at (degree s) (drop 3 s) i h ∙ rw (drop-drop (2 * i) 3 s)
