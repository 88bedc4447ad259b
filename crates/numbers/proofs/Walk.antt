-- The numbers of a text from a place on, and numbers of at most 65,535. Assumes nothing.
use Rattle.integers.proofs.Prelude.{◌≡◌, refl, sym, ap, ◌∙◌, true, false, ◌&&◌, List, [], ◌∷◌, ℕ, zero, suc, ◌+◌, ◌-◌, ◌≤◌, ◌<◌, max, arith, dec_lt}
use Rattle.integers.proofs.Prelude.{leb-true, le-leb, length, get_or, take, drop, get_or-eq_default, length-take-le, drop-drop}
use Rattle.integers.proofs.Prelude.{get_or-take, get_or-drop, length-drop, take-append-drop, take-add, take-suc}
use native.Mathlib.Nat.{add-zero}
use Rattle.lists.specs.Entries.{every}
use Rattle.lists.proofs.Entries.{every_at, every_in, every_append}
use Rattle.lists.proofs.Tests.{and_left, and_right}
use Rattle.model.specs.Limits.{most_number}
use Rattle.model.specs.Alist.{separator, further, numbers_of, largest}
use Rattle.model.proofs.Spelling.{numbers_end, by_byte, walk_apart, walk_in, walk_end}
use Rattle.model.proofs.AlistLines.{small}
use Rattle.numbers.specs.Walked.{none, Small, Skipped}

-- the numbers of the text s from the place i on
abbrev pub from : List ℕ → ℕ → List ℕ
from s i = numbers_of 0 (drop i s)

-- ---- at the place i of the text s
module _ (s : List ℕ) (i : ℕ) where
  -- a number begins here, and is 0 so far
  pub walk_begin : i < length s → separator (get_or s i 0) ≡ false → from s i ≡ numbers_of 1 (drop i s)
  walk_begin h e = walk_in 0 s i h e ∙ sym (walk_in 1 s i h e)

  -- a separator behind a number
  pub walk_out : (x : ℕ) → i < length s → separator (get_or s i 0) ≡ true → numbers_of (suc x) (drop i s) ≡ x ∷ from s i
  walk_out x h e = walk_apart (suc x) s i h e ∙ ap (◌∷◌ x) (sym (walk_apart 0 s i h e))

  -- the last number ends with the text
  pub walk_out_end : (x : ℕ) → length s ≤ i → numbers_of (suc x) (drop i s) ≡ x ∷ numbers_of 0 []
  walk_out_end x h = walk_end (suc x) s i h ∙ ap (◌∷◌ x) (sym (numbers_end 0))

-- a number that is begun is there
begun_some : (x : ℕ) (t : List ℕ) → 1 ≤ length (numbers_of (suc x) t)
begun_some x [] = rw (numbers_end (suc x)) (omega arith)
begun_some x (b ∷ t) = by_byte (λ l. 1 ≤ length l) (suc x) b t (λ _. omega arith) (λ _. begun_some (further (suc x - 1) b) t)

-- ---- behind separators
module _ {s r : List ℕ} (k : Skipped s r) where
  -- nothing is left exactly where no number is
  pub none_left : length r ≡ 0 → numbers_of 0 s ≡ []
  none_left e = sym k.rest ∙ walk_end 0 r 0 (omega arith)

  pub left_none : numbers_of 0 s ≡ [] → length r ≡ 0
  left_none e = by (dec_lt 0 (length r))
    where
      by : Dec (0 < length r) → length r ≡ 0
      by (yes h) = absurd (omega (arith, begun_some (further 0 (get_or r 0 0)) (drop 1 r), ap length (sym (walk_in 0 r 0 h (k.starts h)) ∙ k.rest ∙ e)))
      by (no h) = omega arith

-- ---- after j of the numbers l
pub first_behind : (l : List ℕ) (j : ℕ) → get_or (drop j l) 0 none ≡ get_or l j none
first_behind l j = get_or-drop j l 0 none ∙ ap (λ (i : ℕ). get_or l i none) (add-zero j)

pub next_behind : (l : List ℕ) (j : ℕ) → drop 1 (drop j l) ≡ drop (suc j) l
next_behind l j = let e : j + 1 ≡ suc j = omega arith in drop-drop 1 j l ∙ ap (λ (i : ℕ). drop i l) e

-- the next number, where it is one, and where it is none
pub next_at : (l : List ℕ) (j : ℕ) {old new : List ℕ} {x : ℕ} → old ≡ drop j l → old ≡ x ∷ new → (x ≡ get_or l j none) × (new ≡ drop (suc j) l)
next_at l j h n =
    let d = sym n ∙ h in
    (ap (λ (k : List ℕ). get_or k 0 none) d ∙ first_behind l j, ap (drop 1) d ∙ next_behind l j)

pub none_at : (l : List ℕ) (j : ℕ) {old : List ℕ} → old ≡ drop j l → most_number < get_or old 0 none → most_number < get_or l j none
none_at l j h n = omega (arith, n, ap (λ (k : List ℕ). get_or k 0 none) h, first_behind l j)

-- a number that is not above all is there
pub there : (l : List ℕ) (j : ℕ) → get_or l j none < none → j < length l
there l j h = by (dec_lt j (length l))
  where
    by : Dec (j < length l) → j < length l
    by (yes k) = k
    by (no k) = absurd (omega (arith, get_or-eq_default l none {n = j} (omega arith)))

-- and is the same whatever stands for one that is not
pub same_at : (l : List ℕ) (j d e : ℕ) → j < length l → get_or l j d ≡ get_or l j e
same_at [] j d e h = absurd (omega arith)
same_at (x ∷ l) zero d e h = refl
same_at (x ∷ l) (suc j) d e h = same_at l j d e (omega arith)

-- ---- numbers of at most 65,535
pub small_none : (l : List ℕ) → Small 0 l
small_none l = record { long = omega arith; small = refl }

pub small_at : (n : ℕ) (l : List ℕ) (i d : ℕ) → Small n l → i < n → get_or l i d ≤ most_number
small_at n l i d h k =
    leb-true (get_or l i d) most_number
    (ap small (sym (get_or-take n l i d k)) ∙ every_at small (take n l) i d h.small (omega (arith, h.long, length-take-le n l h.long)))

pub small_first : (l : List ℕ) → Small 1 l → get_or l 0 none ≤ most_number
small_first l h = small_at 1 l 0 none h (omega arith)

pub small_next : (n : ℕ) (l : List ℕ) → Small n l → get_or l n none ≤ most_number → Small (suc n) l
small_next n l h k =
    let i : n < length l = there l n (omega arith) in
    record {
      long = omega arith;
      small = rw (take-suc l n none i, every_append small (take n l) (get_or l n none ∷ []), h.small, le-leb (get_or l n none) most_number k);
    }

pub small_cons : (n x : ℕ) (l : List ℕ) → small x ≡ true → Small n l → Small (suc n) (x ∷ l)
small_cons n x l e h = record { long = omega (arith, h.long); small = rw e h.small }

-- so many, and behind them so many
pub small_join : (a b : ℕ) (l : List ℕ) → Small a l → Small b (drop a l) → Small (a + b) l
small_join a b l h k =
    record {
      long = omega (arith, h.long, k.long, length-drop a l);
      small = rw (take-add a b l, every_append small (take a l) (take b (drop a l)), h.small) k.small;
    }

-- of numbers that are all such: so many of them, and what is behind them
every_parts : (a : ℕ) (l : List ℕ) → every small l ≡ (every small (take a l) && every small (drop a l))
every_parts a l = ap (every small) (sym (take-append-drop a l)) ∙ every_append small (take a l) (drop a l)

pub small_front : (a : ℕ) (l : List ℕ) → every small l ≡ true → a ≤ length l → Small a l
small_front a l e h = record { long = h; small = and_left (every small (take a l)) (every small (drop a l)) (sym (every_parts a l) ∙ e) }

pub small_behind : (a : ℕ) (l : List ℕ) → every small l ≡ true → every small (drop a l) ≡ true
small_behind a l e = and_right (every small (take a l)) (every small (drop a l)) (sym (every_parts a l) ∙ e)

-- and back
pub small_all : (a : ℕ) (l : List ℕ) → Small a l → every small (drop a l) ≡ true → (every small l ≡ true) × (length l ≡ a + length (drop a l))
small_all a l h e = (every_parts a l ∙ rw h.small e, omega (arith, h.long, length-drop a l))

-- so many of them, behind so many
pub small_part : (a b n : ℕ) (l : List ℕ) → a + b ≤ n → Small n l → Small b (drop a l)
small_part a b n l h s =
    let long : b ≤ length (drop a l) = omega (arith, length-drop a l, s.long) in
    record {
      long = long;
      small = every_in small (take b (drop a l)) 0
          (λ i k.
          let j : i < b = omega (arith, length-take-le b (drop a l) long) in
          le-leb (get_or (take b (drop a l)) i 0) most_number
          (rw (get_or-take b (drop a l) i 0 j, get_or-drop a l i 0) (small_at n l (a + i) 0 s (omega arith))));
    }

-- ---- the largest
pub largest_next : (l : List ℕ) (i d : ℕ) → i < length l → largest (take (suc i) l) ≡ max (largest (take i l)) (get_or l i d)
largest_next [] i d h = absurd (omega arith)
largest_next (x ∷ l) zero d h = omega arith
largest_next (x ∷ l) (suc i) d h = omega (arith, largest_next l i d (omega arith))
