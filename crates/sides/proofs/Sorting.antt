-- The columns one behind the other in a list, filled check by check: a store at the next place of one column leaves the others. Assumes nothing.
use Rattle.integers.proofs.Prelude.{◌≡◌, refl, sym, ap, ◌∙◌, Bool, true, false, cond, ◌||◌, List, [], ◌∷◌, ◌++◌, append-nil, ℕ, zero, suc, ◌+◌, ◌-◌, ◌≤◌, ◌<◌}
use Rattle.integers.proofs.Prelude.{arith, add-one, ltb-true, ltb-false, eqb-true, eqb-false, eqb, ltb, length, get_or, take, drop, set}
use Rattle.integers.proofs.Prelude.{length-append, length-set, length-drop, take-append-drop, drop-drop}
use lib.Seq.{take-set-le, drop-set-lt, drop-set-add, take-suc-set}
use Rattle.lists.specs.Tabulated.{tab}
use Rattle.lists.specs.Entries.{some, total, sum}
use Rattle.model.specs.Sound.{Rising}
use Rattle.model.specs.AlistClaims.{joined}
use Rattle.model.proofs.RecordClaims.{none_left}
use Rattle.sides.specs.Columns.{has, counted, start_of, placed}
use Rattle.sides.proofs.Counting.{counted_at}

-- ---- a part of a list, and a store before it, behind it, and at its end
module _ (p k q : ℕ) (l : List ℕ) (v : ℕ) where
  store_before : q < p → take k (drop p (set l q v)) ≡ take k (drop p l)
  store_before h = ap (take k) (drop-set-lt p l q v h)

  store_behind : p + k ≤ q → take k (drop p (set l q v)) ≡ take k (drop p l)
  store_behind h =
      let e : p + (q - p) ≡ q = omega arith in
      ap (λ (m : ℕ). take k (drop p (set l m v))) (sym e) ∙ ap (take k) (drop-set-add p l (q - p) v) ∙ take-set-le k (drop p l) (q - p) v (omega arith)

store_end : (p k : ℕ) (l : List ℕ) (v : ℕ) → p + k < length l → take (k + 1) (drop p (set l (p + k) v)) ≡ take k (drop p l) ++ (v ∷ [])
store_end p k l v h = rw (add-one k, drop-set-add p l k v) (take-suc-set (drop p l) k v (omega (arith, length-drop p l)))

-- ---- where each column begins
abbrev pub start : (ℕ → List ℕ) → ℕ → ℕ
start column b = total length (tab b column)

start_next : (column : ℕ → List ℕ) (b : ℕ) → start column (suc b) ≡ start column b + length (column b)
start_next column zero = omega arith
start_next column (suc b) = omega (arith, start_next (λ i. column (suc i)) b)

start_rises : (column : ℕ → List ℕ) (a b : ℕ) → a ≤ b → start column a ≤ start column b
start_rises column zero b h = omega arith
start_rises column (suc a) zero h = absurd (omega arith)
start_rises column (suc a) (suc b) h = omega (arith, start_rises (λ i. column (suc i)) a b (omega arith))

-- a column ends before the next begins
pub ends_before : (column : ℕ → List ℕ) (a b : ℕ) → a < b → start column a + length (column a) ≤ start column b
ends_before column a b h = omega (arith, start_next column a, start_rises column (suc a) b (omega arith))

pub start_of_lem : (n : ℕ) (column : ℕ → List ℕ) (b : ℕ) → b ≤ n → start_of (tab n (λ i. length (column i))) b ≡ start column b
start_of_lem n column zero h = refl
start_of_lem zero column (suc b) h = absurd (omega arith)
start_of_lem (suc n) column (suc b) h = omega (arith, start_of_lem n (λ i. column (suc i)) b (omega arith))

pub start_end : (n : ℕ) (column : ℕ → List ℕ) → sum (tab n (λ i. length (column i))) ≡ start column n
start_end zero column = refl
start_end (suc n) column = omega (arith, start_end n (λ i. column (suc i)))

-- ---- columns so far, of n that are to come, with the next place of each
pub record Sorted (n : ℕ) (whole column : ℕ → List ℕ) (next entries : List ℕ) : Type 0 where
  pub here : (b : ℕ) → b < n → get_or next b 0 ≡ start whole b + length (column b)
  pub part : (b : ℕ) → b < n → take (length (column b)) (drop (start whole b) entries) ≡ column b

-- each column of a check has room for one more
abbrev pub Open : (ℕ → List ℕ) → (ℕ → List ℕ) → List ℕ → Type 0
Open whole column c = (i : ℕ) → i < length c → length (column (get_or c i 0)) < length (whole (get_or c i 0))

-- column b with the number j if the check c has b
abbrev pub grown : ℕ → List ℕ → (ℕ → List ℕ) → ℕ → List ℕ
grown j c column b = column b ++ cond (some (eqb b) c) (j ∷ []) []

length_grown : (j : ℕ) (c : List ℕ) (column : ℕ → List ℕ) (b : ℕ) → length (grown j c column b) ≡ length (column b) + has b c
length_grown j c column b = length-append (column b) (cond (some (eqb b) c) (j ∷ []) []) ∙ by (some (eqb b) c)
  where
    by : (t : Bool) → length (column b) + length (cond t (j ∷ []) []) ≡ length (column b) + cond t 1 0
    by true = refl
    by false = refl

module _ (n : ℕ) (whole column : ℕ → List ℕ) (next : List ℕ) (j : ℕ) (here : (b : ℕ) → b < n → get_or next b 0 ≡ start whole b + length (column b)) where
  -- later bits leave the first k entries of column b
  later : (b k low : ℕ) (c entries : List ℕ) → k ≤ length (whole b) → b < low → Rising n low c
      → take k (drop (start whole b) (placed j next c entries)) ≡ take k (drop (start whole b) entries)
  later b k low [] entries h l r = refl
  later b k low (x ∷ c) entries h l r =
      later b k (suc x) c (set entries (get_or next x 0) j) h (omega arith) r.2
      ∙ store_behind (start whole b) k (get_or next x 0) entries j (omega (arith, here x r.1, ends_before whole b x (omega arith), r.0))

  -- a store for another bit leaves column b
  other : (b x : ℕ) (entries : List ℕ) → x < n → (b ≡ x → ⊥) → length (column b) ≤ length (whole b) → length (column x) < length (whole x)
      → take (length (column b)) (drop (start whole b) (set entries (get_or next x 0) j)) ≡ take (length (column b)) (drop (start whole b) entries)
  other b x entries h d k m = by (ltb x b) refl
    where
      by : (t : Bool) → ltb x b ≡ t
          → take (length (column b)) (drop (start whole b) (set entries (get_or next x 0) j)) ≡ take (length (column b)) (drop (start whole b) entries)
      by true e = store_before (start whole b) (length (column b)) (get_or next x 0) entries j (omega (arith, here x h, ends_before whole x b (ltb-true x b e)))
      by false e =
          let less : b < x = omega (arith, ltb-false x b e) in
          store_behind (start whole b) (length (column b)) (get_or next x 0) entries j (omega (arith, here x h, ends_before whole b x less))

  -- column b after the check
  placed_part : (b low : ℕ) (c entries : List ℕ) → b < n → length (column b) ≤ length (whole b) → start whole b + length (whole b) ≤ length entries
      → Rising n low c → Open whole column c → take (length (column b)) (drop (start whole b) entries) ≡ column b
      → take (length (column b) + has b c) (drop (start whole b) (placed j next c entries)) ≡ grown j c column b
  placed_part b low [] entries h m l r o e = let z : length (column b) + 0 ≡ length (column b) = omega arith in rw z (e ∙ sym (append-nil (column b)))
  placed_part b low (x ∷ c) entries h m l r o e = by (eqb b x) refl (placed_part b (suc x) c (set entries (get_or next x 0) j) h m)
    where
      after : List ℕ
      after = set entries (get_or next x 0) j

      more : Open whole column c
      more i k = o (suc i) (omega arith)

      by : (t : Bool) → eqb b x ≡ t
          → (start whole b + length (whole b) ≤ length after → Rising n (suc x) c → Open whole column c
          → take (length (column b)) (drop (start whole b) after) ≡ column b
          → take (length (column b) + has b c) (drop (start whole b) (placed j next c after)) ≡ grown j c column b)
          → take (length (column b) + cond (t || some (eqb b) c) 1 0) (drop (start whole b) (placed j next c after))
          ≡ column b ++ cond (t || some (eqb b) c) (j ∷ []) []
      by true p ih =
          let q = eqb-true b x p in
          let k : length (column b) < length (whole b) = rw q (o 0 (omega arith)) in
          let w : get_or next x 0 ≡ start whole b + length (column b) = rw (← q) (here b h) in
          later b (length (column b) + 1) (suc x) c after (omega arith) (omega arith) r.2
          ∙ rw w (store_end (start whole b) (length (column b)) entries j (omega arith))
          ∙ ap (λ (l : List ℕ). l ++ (j ∷ [])) e
      by false p ih =
          ih (omega (arith, length-set entries (get_or next x 0) j)) r.2 more (other b x entries r.1 (eqb-false b x p) m (o 0 (omega arith)) ∙ e)

-- one check more
module _ {n : ℕ} {whole column : ℕ → List ℕ} {next entries : List ℕ} (s : Sorted n whole column next entries) where
  pub sorted_next : (after : ℕ → List ℕ) (c : List ℕ) (j : ℕ) → n ≤ length next → start whole n ≤ length entries → Rising n 0 c → Open whole column c
      → ((b : ℕ) → b < n → length (column b) ≤ length (whole b)) → ((b : ℕ) → after b ≡ grown j c column b)
      → Sorted n whole after (counted c next) (placed j next c entries)
  sorted_next after c j w f r o m g =
      record {
        here =
            λ b h.
            omega (arith, counted_at c next b (omega arith), s.here b h, ap length (g b), length_grown j c column b);
        part =
            λ b h.
            rw (g b, length_grown j c column b)
            (placed_part n whole column next j s.here b 0 c entries h (m b h) (omega (arith, ends_before whole b n h)) r o (s.part b h));
      }

-- all of them
pub sorted_all : (n : ℕ) (column : ℕ → List ℕ) (entries : List ℕ)
    → ((b : ℕ) → b < n → take (length (column b)) (drop (start column b) entries) ≡ column b) → length entries ≡ start column n
    → entries ≡ joined (tab n column)
sorted_all zero column entries h e = none_left entries e
sorted_all (suc n) column entries h e =
    let k = length (column 0) in
    sym (take-append-drop k entries)
    ∙ rw (h 0 (omega arith))
    (ap (◌++◌ (column 0))
    (sorted_all n (λ i. column (suc i)) (drop k entries)
    (λ b l. rw (drop-drop (start (λ i. column (suc i)) b) k entries) (h (suc b) (omega arith))) (omega (arith, length-drop k entries))))
