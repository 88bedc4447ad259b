-- How often a list names a number, and what it means that columns and rows agree. Assumes nothing.
use Rattle.integers.proofs.Prelude.{◌≡◌, refl, sym, ap, ◌∙◌, Bool, true, false, ◌||◌, List, [], ◌∷◌, map, ℕ, zero, suc, ◌+◌, ◌≤◌, ◌<◌, arith}
use Rattle.integers.proofs.Prelude.{dec_lt, leb-true, leb-false, ltb-true, eqb-true, eq-eqb, ne_eqb, eqb, ltb, leb, length, get_or, take}
use Rattle.integers.proofs.Prelude.{get_or-eq_default}
use mathlib.Core.Logic.{◌↔◌, ◌⊎◌, inl, inr}
use lib.Dec.{eqb-suc-suc}
use Rattle.integers.specs.Sum.{sum_ℕ}
use Rattle.integers.proofs.Sums.{sum_ℕ_same, sum_ℕ_zero, sum_ℕ_add}
use Rattle.lists.specs.Tabulated.{tab}
use Rattle.lists.specs.Entries.{every, some}
use Rattle.lists.proofs.Tests.{and_left, and_right, and_both, fails, eqb_sym}
use Rattle.lists.proofs.Tabulated.{length_tab, get_or_tab}
use Rattle.lists.proofs.Entries.{every_at, every_in, every_in_tab, total_same}
use Rattle.model.specs.Causes.{◌if◌}
use Rattle.model.specs.Sound.{Rising}
use Rattle.model.specs.Alist.{filled, all_filled, listed, times, up_to, agree}
use Rattle.model.specs.AlistClaims.{SamePlaces}
use Rattle.model.proofs.TripleRule.{is, is_range, is_rising}

-- ---- how often
pub times_suc : (x : ℕ) (l : List ℕ) → times (suc x) (map suc l) ≡ times x l
times_suc x [] = refl
times_suc x (y ∷ l) = rw (eqb-suc-suc x y, times_suc x l)

pub times_filled : (x d : ℕ) (l : List ℕ) → filled d l ≡ true → times (suc x) (take d l) ≡ times (suc x) l
times_filled x zero [] h = refl
times_filled x zero (y ∷ l) h =
    let none : 1 if eqb (suc x) y ≡ 0 = rw (ne_eqb (suc x) y (λ e. omega (arith, eqb-true y 0 (and_left (eqb y 0) (filled 0 l) h)))) in
    omega (arith, times_filled x zero l (and_right (eqb y 0) (filled 0 l) h))
times_filled x (suc d) [] h = refl
times_filled x (suc d) (y ∷ l) h = rw (times_filled x d l (and_right (ltb 0 y) (filled d l) h))

-- ---- and whether
member_cases : (x : ℕ) (l : List ℕ) → ((some (eqb x) l ≡ true) × (1 ≤ times x l)) ⊎ ((some (eqb x) l ≡ false) × (times x l ≡ 0))
member_cases x [] = inr (refl, refl)
member_cases x (y ∷ l) = by (eqb x y) (member_cases x l)
  where
    by : (t : Bool) → ((some (eqb x) l ≡ true) × (1 ≤ times x l)) ⊎ ((some (eqb x) l ≡ false) × (times x l ≡ 0))
        → (((t || some (eqb x) l) ≡ true) × (1 ≤ 1 if t + times x l)) ⊎ (((t || some (eqb x) l) ≡ false) × (1 if t + times x l ≡ 0))
    by true p = inl (refl, omega arith)
    by false (inl p) = inl (p.0, omega arith)
    by false (inr p) = inr (p.0, omega arith)

pub member : (x : ℕ) (l : List ℕ) → (some (eqb x) l ≡ true) ↔ (1 ≤ times x l)
member x l = by (member_cases x l)
  where
    by : ((some (eqb x) l ≡ true) × (1 ≤ times x l)) ⊎ ((some (eqb x) l ≡ false) × (times x l ≡ 0)) → (some (eqb x) l ≡ true) ↔ (1 ≤ times x l)
    by (inl p) = (λ _. p.1, λ _. p.0)
    by (inr p) = (λ e. let z : ◌≡◌ {A = ℕ} 0 1 = cc in absurd (omega arith), λ h. absurd (omega arith))

pub no_member : (x : ℕ) (l : List ℕ) → (some (eqb x) l ≡ false) ↔ (times x l ≡ 0)
no_member x l = by (member_cases x l)
  where
    by : ((some (eqb x) l ≡ true) × (1 ≤ times x l)) ⊎ ((some (eqb x) l ≡ false) × (times x l ≡ 0)) → (some (eqb x) l ≡ false) ↔ (times x l ≡ 0)
    by (inl p) = (λ e. let z : ◌≡◌ {A = ℕ} 0 1 = cc in absurd (omega arith), λ h. absurd (omega arith))
    by (inr p) = (λ _. p.1, λ _. p.0)

-- in a list that rises, at most once
pub times_rising : (x n low : ℕ) (l : List ℕ) → Rising n low l → times x l ≡ 1 if some (eqb x) l
times_rising x n low l r = total_same (λ y. 1 if eqb x y) (is x) (λ y. ap (λ (t : Bool). 1 if t) (eqb_sym x y)) l ∙ (is_rising x n low l r).0

-- ---- and which: none above u
pub times_above : (u x : ℕ) (l : List ℕ) → every (λ i. leb i u) l ≡ true → u < x → times x l ≡ 0
times_above u x [] h k = refl
times_above u x (y ∷ l) h k =
    rw (
      ne_eqb x y (λ p. omega (arith, leb-true y u (and_left (leb y u) (every (λ i. leb i u) l) h))),
      times_above u x l (and_right (leb y u) (every (λ i. leb i u) l) h) k,
    )

pub above_times : (u : ℕ) (l : List ℕ) → ((i : ℕ) → u ≤ i → times (suc i) l ≡ 0) → every (λ i. leb i u) l ≡ true
above_times u [] h = refl
above_times u (y ∷ l) h = and_both (leb y u) (every (λ i. leb i u) l) (by (leb y u) refl y refl) (above_times u l (λ i k. omega (arith, h i k)))
  where
    by : (t : Bool) → leb y u ≡ t → (z : ℕ) → y ≡ z → t ≡ true
    by true e z p = refl
    by false e zero p = absurd (omega (arith, leb-false y u e))
    by false e (suc i) p =
        let one : 1 if eqb (suc i) y ≡ 1 = rw (eq-eqb (suc i) y (sym p)) in
        absurd (omega (arith, leb-false y u e, h i (omega (arith, leb-false y u e)), one))

-- a list of numbers in 1..n has as many as it names
pub times_length : (n : ℕ) (l : List ℕ) → every (ltb 0) l ≡ true → every (λ i. leb i n) l ≡ true → sum_ℕ n (λ c. times (suc c) l) ≡ length l
times_length n [] h k = sum_ℕ_zero n (λ _. 0) (λ _ _. refl)
times_length n (y ∷ l) h k =
    let low = ltb-true 0 y (and_left (ltb 0 y) (every (ltb 0) l) h) in
    let high = leb-true y n (and_left (leb y n) (every (λ i. leb i n) l) k) in
    let ih = times_length n l (and_right (ltb 0 y) (every (ltb 0) l) h) (and_right (leb y n) (every (λ i. leb i n) l) k) in
    let one : sum_ℕ n (λ c. 1 if eqb (suc c) y) ≡ 1
    = sum_ℕ_same n (λ c. is y (suc c)) (λ c. is y (1 + c)) (λ c _. ap (is y) (omega arith)) ∙ (is_range y n 1).2 (omega arith) (omega arith) in
    sum_ℕ_add n (λ c. 1 if eqb (suc c) y) (λ c. times (suc c) l) ∙ omega arith

-- ---- the lists of a side with what fills them, for a loop that walks over the zeros too
pub times_listed : (x : ℕ) (ds : List ℕ) (ls : List (List ℕ)) → all_filled ds ls ≡ true → (i : ℕ)
    → times (suc x) (get_or (listed ds ls) i []) ≡ times (suc x) (get_or ls i [])
times_listed x [] [] h i = refl
times_listed x [] (l ∷ ls) h i = cc
times_listed x (d ∷ ds) [] h i = refl
times_listed x (d ∷ ds) (l ∷ ls) h zero = times_filled x d l (and_left (filled d l) (all_filled ds ls) h)
times_listed x (d ∷ ds) (l ∷ ls) h (suc i) = times_listed x ds ls (and_right (filled d l) (all_filled ds ls) h) i

-- ---- columns cs and rows rs that agree
-- past its end a side names nothing
pub past : (ls : List (List ℕ)) (x i : ℕ) → length ls ≤ i → times x (get_or ls i []) ≡ 0
past ls x i h = ap (times x) (get_or-eq_default ls [] h)

pub none_above : (u : ℕ) (ls : List (List ℕ)) → up_to u ls ≡ true → (x i : ℕ) → u < x → times x (get_or ls i []) ≡ 0
none_above u ls h x i k = by (dec_lt i (length ls))
  where
    by : Dec (i < length ls) → times x (get_or ls i []) ≡ 0
    by (yes l) = times_above u x (get_or ls i []) (every_at (every (λ i. leb i u)) ls i [] h l) k
    by (no l) = past ls x i (omega arith)

every_below : (f : ℕ → Bool) (n : ℕ) → every f (tab n (λ i. i)) ≡ true → (i : ℕ) → i < n → f i ≡ true
every_below f n h i l = ap f (sym (get_or_tab n (λ i. i) i 0 l)) ∙ every_at f (tab n (λ i. i)) i 0 h (omega (arith, length_tab n (λ (i : ℕ). i)))

module _ (cs rs : List (List ℕ)) where
  abbrev Equal : ℕ → ℕ → Type 0
  Equal r c = times (suc c) (get_or rs r []) ≡ times (suc r) (get_or cs c [])

  abbrev equal : ℕ → ℕ → Bool
  equal r c = eqb (times (suc c) (get_or rs r [])) (times (suc r) (get_or cs c []))

  -- at each place that both sides have
  abbrev Inside : Type 0
  Inside = (r c : ℕ) → r < length rs → c < length cs → Equal r c

  -- which is enough, where no side names a place that the other has not
  pub same_inside : up_to (length rs) cs ≡ true → up_to (length cs) rs ≡ true → Inside → SamePlaces cs rs
  same_inside p q h r c = by (dec_lt r (length rs)) (dec_lt c (length cs))
    where
      by : Dec (r < length rs) → Dec (c < length cs) → Equal r c
      by (yes k) (yes l) = h r c k l
      by (no k) d = past rs (suc c) r (omega arith) ∙ sym (none_above (length rs) cs p (suc r) c (omega arith))
      by (yes k) (no l) = none_above (length cs) rs q (suc c) r (omega arith) ∙ sym (past cs (suc r) c (omega arith))

  pub columns_up_to : SamePlaces cs rs → up_to (length rs) cs ≡ true
  columns_up_to h = every_in (every (λ i. leb i (length rs))) cs [] (λ c l. above_times (length rs) (get_or cs c []) (λ r k. sym (h r c) ∙ past rs (suc c) r k))

  pub rows_up_to : SamePlaces cs rs → up_to (length cs) rs ≡ true
  rows_up_to h = every_in (every (λ i. leb i (length cs))) rs [] (λ r l. above_times (length cs) (get_or rs r []) (λ c k. h r c ∙ past cs (suc r) c k))

  agree_same : agree cs rs ≡ true → SamePlaces cs rs
  unfolding agree
  agree_same h =
      let t = and_right (up_to (length rs) cs) _ h in
      let tests = and_right (up_to (length cs) rs) _ t in
      same_inside (and_left (up_to (length rs) cs) _ h) (and_left (up_to (length cs) rs) _ t)
      (λ r c k l.
      eqb-true (times (suc c) (get_or rs r [])) (times (suc r) (get_or cs c []))
      (every_below (equal r) (length cs) (every_below (λ r. every (equal r) (tab (length cs) (λ c. c))) (length rs) tests r k) c l))

  same_agree : SamePlaces cs rs → agree cs rs ≡ true
  unfolding agree
  same_agree h =
      rw (columns_up_to h, rows_up_to h)
      (every_in_tab (λ r. every (equal r) (tab (length cs) (λ c. c))) (length rs) (λ r. r)
      (λ r k.
      every_in_tab (equal r) (length cs) (λ c. c) (λ c l. eq-eqb (times (suc c) (get_or rs r [])) (times (suc r) (get_or cs c [])) (h r c))))

  pub agreement : (agree cs rs ≡ true) ↔ SamePlaces cs rs
  agreement = (agree_same, same_agree)

  -- what is enough for 19
  pub agree_not : (SamePlaces cs rs → ⊥) → agree cs rs ≡ false
  agree_not h = fails (agree cs rs) (λ e. h (agree_same e))
