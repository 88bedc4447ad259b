-- Tests and sums of a list's entries, and the first index that passes. Assumes nothing.
use Rattle.integers.proofs.Prelude.{◌≡◌, refl, sym, ap, ap₂, subst, ◌∙◌, Bool, true, false, not, cond, ◌&&◌, ◌||◌, List, [], ◌∷◌, ◌++◌, map, ℕ, zero, suc, ◌+◌}
use Rattle.integers.proofs.Prelude.{◌≤◌, ◌<◌, arith, add-one, ltb-true, ltb-false, T, ltb, length, get_or, take, drop, length-map}
use Rattle.integers.proofs.Prelude.{take-append-drop, drop_of_length-le, take-suc, drop-cons}
use mathlib.Core.Bool.{or_assoc, or-false, and_assoc, and-true}
use lib.ListN.{replicate}
use Rattle.integers.specs.Sum.{sum_ℕ}
use Rattle.integers.proofs.Sums.{sum_ℕ_first}
use Rattle.lists.specs.Tabulated.{tab}
use Rattle.lists.specs.Entries.{every, some, Each, total, first}
use Rattle.lists.proofs.Tests.{and_left, and_right, and_both}

-- ---- every
module _ {A : Type 0} (f : A → Bool) where
  pub every_next : (l : List A) (i : ℕ) (d : A) → i < length l → f (get_or l i d) ≡ true → every f (drop i l) ≡ every f (drop (suc i) l)
  every_next l i d h e = rw (drop-cons l i d h, e)

  pub every_stop : (l : List A) (i : ℕ) (d : A) → i < length l → f (get_or l i d) ≡ false → every f (drop i l) ≡ false
  every_stop l i d h e = rw (drop-cons l i d h, e)

  pub every_end : (l : List A) (i : ℕ) → length l ≤ i → every f (drop i l) ≡ true
  every_end [] zero h = refl
  every_end [] (suc i) h = refl
  every_end (x ∷ l) zero h = absurd (omega arith)
  every_end (x ∷ l) (suc i) h = every_end l i (omega arith)

  -- of a loop that looks at each entry: whether all before i passed, and whether all from i on do, decide
  abbrev pub Passed : List A → Bool → ℕ → Type 0
  Passed l passed i = (passed && every f (drop i l)) ≡ every f l

  pub passed_next : (l : List A) (passed : Bool) (i : ℕ) (d : A) → i < length l → Passed l passed i → Passed l (passed && f (get_or l i d)) (i + 1)
  passed_next l passed i d h e =
      rw (add-one i) (and_assoc passed (f (get_or l i d)) (every f (drop (suc i) l)) ∙ ap (λ (k : List A). passed && every f k) (sym (drop-cons l i d h)) ∙ e)

  pub passed_end : (l : List A) (passed : Bool) (i : ℕ) → length l ≤ i → Passed l passed i → passed ≡ every f l
  passed_end l passed i h e = sym (and-true passed) ∙ ap (λ (k : List A). passed && every f k) (sym (drop_of_length-le l h)) ∙ e

  -- what passed holds of each entry
  pub every_at : (l : List A) (i : ℕ) (d : A) → every f l ≡ true → i < length l → f (get_or l i d) ≡ true
  every_at [] i d e h = absurd (omega arith)
  every_at (x ∷ l) i d e h = by (f x) refl e i h (every_at l)
    where
      by : (t : Bool) → f x ≡ t → (t && every f l) ≡ true → (i : ℕ) → i < suc (length l) → ((i : ℕ) (d : A) → every f l ≡ true → i < length l → f (get_or l i d) ≡ true)
          → f (get_or (x ∷ l) i d) ≡ true
      by true p e zero h ih = p
      by true p e (suc i) h ih = ih i d e (omega arith)
      by false p e i h ih = absurd (subst T (sym e) tt)

  -- what holds of each entry passes
  pub every_in : (l : List A) (d : A) → ((i : ℕ) → i < length l → f (get_or l i d) ≡ true) → every f l ≡ true
  every_in [] d h = refl
  every_in (x ∷ l) d h = rw (h 0 (omega arith)) (every_in l d (λ i k. h (suc i) (omega arith)))

  pub every_append : (l k : List A) → every f (l ++ k) ≡ (every f l && every f k)
  every_append [] k = refl
  every_append (x ∷ l) k = rw (every_append l k) (sym (and_assoc (f x) (every f l) (every f k)))

  -- a weaker test
  pub every_weaker : (g : A → Bool) → ((x : A) → f x ≡ true → g x ≡ true) → (l : List A) → every f l ≡ true → every g l ≡ true
  every_weaker g h [] e = refl
  every_weaker g h (x ∷ l) e = and_both (g x) (every g l) (h x (and_left (f x) (every f l) e)) (every_weaker g h l (and_right (f x) (every f l) e))

  pub every_replicate : (n : ℕ) (x : A) → f x ≡ true → every f (replicate n x) ≡ true
  every_replicate zero x h = refl
  every_replicate (suc n) x h = and_both (f x) (every f (replicate n x)) h (every_replicate n x h)

  -- none fails
  pub every_some : (l : List A) → every f l ≡ not (some (λ x. not (f x)) l)
  every_some [] = refl
  every_some (x ∷ l) = rw (every_some l) (by (f x) (some (λ x. not (f x)) l))
    where
      by : (a b : Bool) → (a && not b) ≡ not (not a || b)
      by true b = refl
      by false b = refl

pub every_map : {A B : Type 0} (f : B → Bool) (g : A → B) (l : List A) → every f (map g l) ≡ every (λ x. f (g x)) l
every_map f g [] = refl
every_map f g (x ∷ l) = rw (every_map f g l)

-- ---- some
module _ {A : Type 0} (f : A → Bool) where
  -- of a loop that looks at each entry: what was found before i, or is to be found from i on, decides
  abbrev pub Found : List A → Bool → ℕ → Type 0
  Found l found i = (found || some f (drop i l)) ≡ some f l

  pub found_next : (l : List A) (found : Bool) (i : ℕ) (d : A) → i < length l → Found l found i → Found l (found || f (get_or l i d)) (i + 1)
  found_next l found i d h e =
      rw (add-one i) (or_assoc found (f (get_or l i d)) (some f (drop (suc i) l)) ∙ ap (λ (k : List A). found || some f k) (sym (drop-cons l i d h)) ∙ e)

  pub found_end : (l : List A) (found : Bool) (i : ℕ) → length l ≤ i → Found l found i → found ≡ some f l
  found_end l found i h e = sym (or-false found) ∙ ap (λ (k : List A). found || some f k) (sym (drop_of_length-le l h)) ∙ e

  -- where none passes, each entry fails
  pub some_at : (l : List A) (i : ℕ) (d : A) → some f l ≡ false → i < length l → f (get_or l i d) ≡ false
  some_at [] i d e h = absurd (omega arith)
  some_at (x ∷ l) i d e h = by (f x) refl e i h (some_at l)
    where
      by : (t : Bool) → f x ≡ t → (t || some f l) ≡ false → (i : ℕ) → i < suc (length l) → ((i : ℕ) (d : A) → some f l ≡ false → i < length l → f (get_or l i d) ≡ false)
          → f (get_or (x ∷ l) i d) ≡ false
      by false p e zero h ih = p
      by false p e (suc i) h ih = ih i d e (omega arith)
      by true p e i h ih = absurd (subst T e tt)

  -- one entry more, at the end
  pub some_last : (l : List A) (x : A) → some f (l ++ (x ∷ [])) ≡ (f x || some f l)
  some_last [] x = refl
  some_last (y ∷ l) x = rw (some_last l x) (by (f y) (f x))
    where
      by : (s t : Bool) → (s || (t || some f l)) ≡ (t || (s || some f l))
      by true true = refl
      by true false = refl
      by false t = refl

  -- an entry that passes
  pub some_of : (l : List A) (i : ℕ) (d : A) → i < length l → f (get_or l i d) ≡ true → some f l ≡ true
  some_of [] i d h e = absurd (omega arith)
  some_of (x ∷ l) zero d h e = rw e
  some_of (x ∷ l) (suc i) d h e = rw (some_of l i d (omega arith) e) (by (f x))
    where
      by : (t : Bool) → (t || true) ≡ true
      by true = refl
      by false = refl

-- where some entry passes one test and every entry another, there is one that passes both
pub some_every : {A : Type 0} (f g : A → Bool) (l : List A) → some f l ≡ true → every g l ≡ true → (x : A) × (f x ≡ true) × (g x ≡ true)
some_every f g [] h k = absurd (subst T (sym h) tt)
some_every {A = A} f g (x ∷ l) h k = by (f x) refl (g x) refl h k (some_every f g l)
  where
    Both : Type 0
    Both = (x : A) × (f x ≡ true) × (g x ≡ true)

    by : (s : Bool) → f x ≡ s → (t : Bool) → g x ≡ t → (s || some f l) ≡ true → (t && every g l) ≡ true → (some f l ≡ true → every g l ≡ true → Both) → Both
    by true p true q h k more = (x, p, q)
    by false p true q h k more = more h k
    by s p false q h k more = absurd (subst T (sym k) tt)

-- all of a tabulated list pass
pub every_in_tab : {A : Type 0} (f : A → Bool) (n : ℕ) (g : ℕ → A) → ((i : ℕ) → i < n → f (g i) ≡ true) → every f (tab n g) ≡ true
every_in_tab f zero g h = refl
every_in_tab f (suc n) g h = rw (h 0 (omega arith)) (every_in_tab f n (λ i. g (suc i)) (λ i l. h (suc i) (omega arith)))

-- none of a list passes
pub none_in : {A : Type 0} (f : A → Bool) (l : List A) (d : A) → ((i : ℕ) → i < length l → f (get_or l i d) ≡ false) → some f l ≡ false
none_in f [] d h = refl
none_in f (x ∷ l) d h = rw (h 0 (omega arith)) (none_in f l d (λ i k. h (suc i) (omega arith)))

-- ---- what holds of each entry
module _ {A : Type 0} (P : A → Type 0) where
  pub each_at : (l : List A) (d : A) → Each P l → (i : ℕ) → i < length l → P (get_or l i d)
  each_at [] d h i k = absurd (omega arith)
  each_at (x ∷ l) d h zero k = h.0
  each_at (x ∷ l) d h (suc i) k = each_at l d h.1 i (omega arith)

  pub each_in : (l : List A) (d : A) → ((i : ℕ) → i < length l → P (get_or l i d)) → Each P l
  each_in [] d h = tt
  each_in (x ∷ l) d h = (h 0 (omega arith), each_in l d (λ i k. h (suc i) (omega arith)))

  pub each_weaker : (Q : A → Type 0) → ((x : A) → P x → Q x) → (l : List A) → Each P l → Each Q l
  each_weaker Q f [] h = tt
  each_weaker Q f (x ∷ l) h = (f x h.0, each_weaker Q f l h.1)

  pub each_map : {B : Type 0} (g : B → A) (l : List B) → Each (λ x. P (g x)) l → Each P (map g l)
  each_map g [] h = tt
  each_map g (x ∷ l) h = (h.0, each_map g l h.1)

-- tests that agree on the entries
pub every_same : {A : Type 0} (n : ℕ) (h : ℕ → A) (f g : A → Bool) → ((i : ℕ) → i < n → f (h i) ≡ g (h i)) → every f (tab n h) ≡ every g (tab n h)
every_same zero h f g e = refl
every_same (suc n) h f g e = rw (e 0 (omega arith), every_same n (λ i. h (suc i)) f g (λ i l. e (suc i) (omega arith)))

-- ---- total
module _ {A : Type 0} where
  pub total_append : (f : A → ℕ) (l k : List A) → total f (l ++ k) ≡ total f l + total f k
  total_append f [] k = omega arith
  total_append f (x ∷ l) k = rw (total_append f l k) (omega arith)

  pub total_one : (l : List A) → total (λ _. 1) l ≡ length l
  total_one [] = refl
  total_one (x ∷ l) = rw (total_one l) (omega arith)

  pub total_same : (f g : A → ℕ) → ((x : A) → f x ≡ g x) → (l : List A) → total f l ≡ total g l
  total_same f g e [] = refl
  total_same f g e (x ∷ l) = rw (e x, total_same f g e l)

  -- the first i entries
  pub total_next : (f : A → ℕ) (l : List A) (i : ℕ) (d : A) → i < length l → total f (take (suc i) l) ≡ total f (take i l) + f (get_or l i d)
  total_next f l i d h = rw (take-suc l i d h, total_append f (take i l) (get_or l i d ∷ [])) (omega arith)

  pub total_part : (f : A → ℕ) (l : List A) (i : ℕ) → total f (take i l) ≤ total f l
  total_part f l i = omega (arith, total_append f (take i l) (drop i l), ap (total f) (take-append-drop i l))

-- over the indices
pub total_entries : {A : Type 0} (f : A → ℕ) (l : List A) (d : A) → total f l ≡ sum_ℕ (length l) (λ i. f (get_or l i d))
total_entries f [] d = refl
total_entries f (x ∷ l) d = ap₂ ◌+◌ refl (total_entries f l d) ∙ sym (sum_ℕ_first (length l) (λ i. f (get_or (x ∷ l) i d)))

pub total_map : {A B : Type 0} (f : B → ℕ) (g : A → B) (l : List A) → total f (map g l) ≡ total (λ x. f (g x)) l
total_map f g [] = refl
total_map f g (x ∷ l) = rw (total_map f g l)

pub total_lengths : {A B : Type 0} (f : A → B) (ls : List (List A)) → total length (map (map f) ls) ≡ total length ls
total_lengths f ls = total_map length (map f) ls ∙ total_same (λ l. length (map f l)) length (λ l. length-map l f) ls

-- ---- what holds below i, and at i
pub below_next : (P : ℕ → Type 0) (i : ℕ) → ((j : ℕ) → j < i → P j) → P i → (j : ℕ) → j < i + 1 → P j
below_next P i h e j l = by (ltb j i) refl
  where
    by : (t : Bool) → ltb j i ≡ t → P j
    by true p = h j (ltb-true j i p)
    by false p = let same : i ≡ j = omega (arith, ltb-false j i p) in subst P same e

-- ---- first
pub first_at : (n : ℕ) (f : ℕ → Bool) (i : ℕ) → i < n → ((j : ℕ) → j < i → f j ≡ false) → f i ≡ true → first n f ≡ i
first_at zero f i l h e = absurd (omega arith)
first_at (suc n) f zero l h e = rw e
first_at (suc n) f (suc i) l h e = rw (h 0 (omega arith)) (ap suc (first_at n (λ i. f (suc i)) i (omega arith) (λ j k. h (suc j) (omega arith)) e))

pub first_none : (n : ℕ) (f : ℕ → Bool) → ((j : ℕ) → j < n → f j ≡ false) → first n f ≡ n
first_none zero f h = refl
first_none (suc n) f h = rw (h 0 (omega arith)) (ap suc (first_none n (λ i. f (suc i)) (λ j k. h (suc j) (omega arith))))

pub first_same : (n : ℕ) (f g : ℕ → Bool) → ((i : ℕ) → i < n → f i ≡ g i) → first n f ≡ first n g
first_same zero f g h = refl
first_same (suc n) f g h = rw (h 0 (omega arith), first_same n (λ i. f (suc i)) (λ i. g (suc i)) (λ i l. h (suc i) (omega arith)))

-- before the first index none passes
pub first_before : (n : ℕ) (f : ℕ → Bool) (i : ℕ) → i < first n f → f i ≡ false
first_before zero f i h = absurd (omega arith)
first_before (suc n) f zero h = by (f 0) h
  where
    by : (t : Bool) → 0 < cond t 0 (suc (first n (λ i. f (suc i)))) → t ≡ false
    by true h = absurd (omega arith)
    by false h = refl
first_before (suc n) f (suc i) h = first_before n (λ i. f (suc i)) i (by (f 0) h)
  where
    by : (t : Bool) → suc i < cond t 0 (suc (first n (λ i. f (suc i)))) → i < first n (λ i. f (suc i))
    by true h = absurd (omega arith)
    by false h = omega arith

-- the first index, where there is one, passes
pub first_passes : (n : ℕ) (f : ℕ → Bool) → first n f < n → f (first n f) ≡ true
first_passes zero f h = absurd (omega arith)
first_passes (suc n) f h = by (f 0) refl h (first_passes n (λ i. f (suc i)))
  where
    by : (t : Bool) → f 0 ≡ t → cond t 0 (suc (first n (λ i. f (suc i)))) < suc n → (first n (λ i. f (suc i)) < n → f (suc (first n (λ i. f (suc i)))) ≡ true)
        → f (cond t 0 (suc (first n (λ i. f (suc i))))) ≡ true
    by true e h r = e
    by false e h r = r (omega arith)
