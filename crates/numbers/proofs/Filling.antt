-- Numbers that are read into a list: a byte is a separator or, where the number that it belongs to is at most 65,535, a digit. Assumes nothing.
use Rattle.integers.proofs.Prelude.{◌≡◌, refl, sym, ap, ap₂, subst, ◌∙◌, Bool, true, false, cond, ◌||◌, List, [], ◌∷◌, ◌++◌, ℕ, zero, suc, ◌+◌, ◌-◌, ◌*◌}
use Rattle.integers.proofs.Prelude.{◌/◌, ◌%◌, ◌≤◌, ◌<◌, min, arith, add-one, dec_lt, T, eqb, eqb-true, length, get_or, take, drop, set}
use Rattle.integers.proofs.Prelude.{length-set, length-drop, take_all, take-suc, drop-cons}
use lib.Seq.{take-set-le, take-suc-set}
use Rattle.model.specs.Limits.{most_number}
use Rattle.model.specs.Causes.{outside}
use Rattle.model.specs.Alist.{separator, further, numbers_of}
use Rattle.model.proofs.Spelling.{numbers_end, walk_apart, walk_more, walk_end, by_byte, further_most, further_digit}
use Rattle.numbers.specs.Walked.{none, Small, Filled}
use Rattle.numbers.proofs.Walk.{from, walk_begin, walk_out, first_behind, small_at}

-- ---- bytes
-- with one byte more a number is not smaller
further_grows : (x b : ℕ) → x ≤ suc most_number → x ≤ further x b
further_grows x b h = by (outside 48 57 b)
  where
    by : (t : Bool) → x ≤ cond t (suc most_number) (min (suc most_number) (10 * x + (b - 48)))
    by true = omega arith
    by false = omega arith

-- so it ends at least at what it is so far
begun_least : (x : ℕ) (t : List ℕ) → x ≤ suc most_number → x ≤ get_or (numbers_of (suc x) t) 0 none
begun_least x [] h = rw (numbers_end (suc x)) (omega arith)
begun_least x (b ∷ t) h =
    let p : suc x - 1 ≡ x = omega arith in
    by_byte (λ l. x ≤ get_or l 0 none) (suc x) b t (λ _. omega arith)
    (λ _. rw p (omega (arith, further_grows x b h, begun_least (further x b) t (further_most x b))))

-- the fifth bit of a separator
separator_bit : (b : ℕ) → separator b ≡ true → b / 16 % 2 ≡ 0
separator_bit b h = by (eqb b 32) refl (eqb b 10) refl h
  where
    by : (p : Bool) → eqb b 32 ≡ p → (q : Bool) → eqb b 10 ≡ q → (p || q) ≡ true → b / 16 % 2 ≡ 0
    by true e q f h = let s : b ≡ 32 = eqb-true b 32 e in rw s
    by false e true f h = let s : b ≡ 10 = eqb-true b 10 f in rw s
    by false e false f h = absurd (subst T (sym h) tt)

-- ---- reading
-- of the n numbers l, k are in the list; the next one is `value` so far where inside is 1, and not begun where it is 0
pub record Reading (s l : List ℕ) (n : ℕ) (values : List ℕ) (value inside k i : ℕ) : Type 0 where
  pub long : length values ≡ n
  pub done : take k values ≡ take k l
  pub rest : numbers_of (inside * suc value) (drop i s) ≡ drop k l
  pub small : value ≤ inside * most_number
  pub whole : inside ≤ n - k
  pub bit : inside ≤ 1
  pub within : (k ≤ n) × (i ≤ length s)

module _ (s l : List ℕ) (n : ℕ) (values : List ℕ) (value inside k i : ℕ) (r : Reading s l n values value inside k i) (h : Small n l) where
  -- between numbers, and in one
  between : inside ≡ 0 → from s i ≡ drop k l
  between o = let e : 0 ≡ inside * suc value = omega arith ∙ ap (λ (x : ℕ). x * suc value) (sym o) in ap (λ (x : ℕ). numbers_of x (drop i s)) e ∙ r.rest

  begun : inside ≡ 1 → numbers_of (suc value) (drop i s) ≡ drop k l
  begun o = let e : suc value ≡ inside * suc value = omega arith ∙ ap (λ (x : ℕ). x * suc value) (sym o) in ap (λ (x : ℕ). numbers_of x (drop i s)) e ∙ r.rest

  -- the number is in the list once it ended
  stored : (more : List ℕ) → k < n → value ∷ more ≡ drop k l → (take (suc k) (set values k value) ≡ take (suc k) l) × (more ≡ drop (suc k) l)
  stored more j e =
      let d = e ∙ drop-cons l k 0 (omega (arith, h.long)) in
      let v : value ≡ get_or l k 0 = ap (λ (x : List ℕ). get_or x 0 0) d in (
        take-suc-set values k value (omega (arith, r.long)) ∙ ap₂ (λ (x : List ℕ) (y : ℕ). x ++ (y ∷ [])) r.done v
            ∙ sym (take-suc l k 0 (omega (arith, h.long))),
        ap (drop 1) d,
      )

  module _ (j : k < n) (p : i < length s) where
    kept : length (set values k value) ≡ n
    kept = length-set values k value ∙ r.long

    -- a separator behind a number, and one between numbers
    ends : inside ≡ 1 → separator (get_or s i 0) ≡ true → Reading s l n (set values k value) 0 0 (suc k) (suc i)
    ends o e =
        let g = stored (from s (suc i)) j (ap (◌∷◌ value) (sym (walk_apart 0 s i p e)) ∙ sym (walk_out s i value p e) ∙ begun o) in
        record { long = kept; done = g.0; rest = g.1; small = omega arith; whole = omega arith; bit = omega arith; within = (j, p) }

    stays : take k (set values k value) ≡ take k l
    stays = take-set-le k values k value (omega arith) ∙ r.done

    passes : inside ≡ 0 → separator (get_or s i 0) ≡ true → Reading s l n (set values k value) 0 0 k (suc i)
    passes o e = record {
      long = kept;
      done = stays;
      rest = sym (walk_apart 0 s i p e) ∙ between o;
      small = omega arith;
      whole = omega arith;
      bit = omega arith;
      within = (omega arith, p);
    }

    -- any other byte is a digit
    in_number : separator (get_or s i 0) ≡ false → numbers_of (suc (further value (get_or s i 0))) (drop (suc i) s) ≡ drop k l
    in_number e = sym (walk_more value s i p e) ∙ by inside refl
      where
        by : (x : ℕ) → inside ≡ x → numbers_of (suc value) (drop i s) ≡ drop k l
        by zero o =
            let z : value ≡ 0 = omega (arith, r.small) in
            ap (λ (x : ℕ). numbers_of (suc x) (drop i s)) z ∙ sym (walk_begin s i p e) ∙ between o
        by (suc x) o = begun (omega (arith, r.bit))

    digit : separator (get_or s i 0) ≡ false
        → (48 ≤ get_or s i 0) × (get_or s i 0 ≤ 57) × Reading s l n (set values k value) (10 * value + (get_or s i 0 - 48)) 1 k (suc i)
    digit e =
        let b = get_or s i 0 in
        let low : further value b ≤ get_or l k none
        = subst (λ (x : ℕ). further value b ≤ x) (ap (λ (x : List ℕ). get_or x 0 none) (in_number e) ∙ first_behind l k)
        (begun_least (further value b) (drop (suc i) s) (further_most value b)) in
        let small : further value b ≤ most_number = omega (arith, low, small_at n l k none h j) in
        let d = further_digit value b small in (
          d.0,
          d.1,
          record {
            long = kept;
            done = stays;
            rest =
                let one : 1 * suc (10 * value + (b - 48)) ≡ suc (further value b) = omega (arith, d.2) in
                ap (λ (x : ℕ). numbers_of x (drop (suc i) s)) one ∙ in_number e;
            small = omega (arith, d.2);
            whole = omega arith;
            bit = omega arith;
            within = (omega arith, p);
          },
        )

    -- a byte b of either kind, in the loop's words: its fifth bit, what is in the list and the number after it
    pub read_byte : (b k' value' : ℕ) → b ≡ get_or s i 0 → (b / 16 % 2 < inside → k' ≡ k + 1) → (inside ≤ b / 16 % 2 → k' ≡ k) → (b / 16 % 2 ≡ 0 → value' ≡ 0)
        → ((b / 16 % 2 ≡ 0 → ⊥) → value' ≡ 10 * value + b % 16) → Reading s l n (set values k value) value' (b / 16 % 2) k' (i + 1)
    read_byte b k' value' eb more same none next = by (separator (get_or s i 0)) refl (dec_lt 0 inside)
      where
        by : (t : Bool) → separator (get_or s i 0) ≡ t → Dec (0 < inside) → Reading s l n (set values k value) value' (b / 16 % 2) k' (i + 1)
        by true e (yes o) =
            let z : b / 16 % 2 ≡ 0 = ap (λ (x : ℕ). x / 16 % 2) eb ∙ separator_bit (get_or s i 0) e in
            rw (none z, z, more (omega arith), add-one i, add-one k) (ends (omega (arith, r.bit)) e)
        by true e (no o) =
            let z : b / 16 % 2 ≡ 0 = ap (λ (x : ℕ). x / 16 % 2) eb ∙ separator_bit (get_or s i 0) e in
            rw (none z, z, same (omega arith), add-one i) (passes (omega arith) e)
        by false e o =
            let d = digit e in
            let z : b / 16 % 2 ≡ 1 = omega arith in
            let v : 10 * value + b % 16 ≡ 10 * value + (get_or s i 0 - 48) = omega arith in
            rw (next (λ x. omega arith) ∙ v, z, same (omega (arith, r.bit)), add-one i) d.2

  -- ---- the end of the list, and of the text
  module _ (e : numbers_of 0 s ≡ l) where
    full : (values' : List ℕ) (k' : ℕ) → length values' ≡ n → k' ≡ n → take k' values' ≡ take k' l → from s i ≡ drop k' l → Filled s values' i
    full values' k' g o t d =
        let m : k' ≡ length values' = o ∙ sym g in
        record {
          list = sym (take_all k' values' (omega arith)) ∙ t ∙ ap₂ (λ (x : ℕ) (y : List ℕ). take x y) m (sym e);
          rest = d ∙ ap₂ (λ (x : ℕ) (y : List ℕ). drop x y) m (sym e);
          within = r.within.1;
        }

    pub read_all : n ≤ k → Filled s values i
    read_all o =
        full values k r.long (omega (arith, r.within.0)) r.done (between (omega (arith, r.whole)))

    pub read_last : k < n → length s ≤ i → Filled s (set values k value) i
    read_last j o = by inside refl
      where
        by : (x : ℕ) → inside ≡ x → Filled s (set values k value) i
        by zero z =
            absurd (omega (arith, ap length (sym (walk_end 0 s i o) ∙ between z), length-drop k l, h.long))
        by (suc x) z =
            let g = stored [] j (sym (walk_end (suc value) s i o) ∙ begun (omega (arith, r.bit))) in
            full (set values k value) (suc k) (length-set values k value ∙ r.long) (omega (arith, ap length g.1, length-drop (suc k) l, h.long)) g.0
            (walk_end 0 s i o ∙ g.1)
