-- A turn of the loops that count a block of numbers up and down. Assumes nothing.
use Rattle.integers.proofs.Prelude.{◌≡◌, refl, ap, ◌∙◌, ◌&&◌, List, ℕ, suc, ◌+◌, ◌-◌, ◌*◌, ◌/◌, ◌%◌, ◌≤◌, ◌<◌, arith, add-one, eqb, eq-eqb, length, get_or, take}
use Rattle.integers.proofs.Prelude.{set, length-take-le}
use mathlib.Core.Logic.{◌≢◌}
use native.Mathlib.Nat.{add-zero, mul-le-mul_right, div-add-mod', mod-lt, div-lt_iff_lt-mul}
use lib.Arith.{digits_lt, digits_div, digits_mod}
use Rattle.model.specs.Causes.{◌if◌}
use Rattle.model.specs.Limits.{most_number}
use Rattle.places.specs.declared.Window.{Window}
use Rattle.places.specs.Counters.{in_rows, in_columns, More, Above, Room, Inside, Block}
use Rattle.places.proofs.Counters.{more_up, more_down, more_none, more_then}
use Rattle.places.proofs.Named.{named_next, named_part, row_hit, row_miss, column_hit, column_miss}
use Rattle.places.proofs.Blocks.{room_next}

-- ---- the number k after the first: its list, (first + k) / most, and its place i there; `row` is `width` for each list before
pub record Stands (first k most width row i : ℕ) : Type 0 where
  pub list : row ≡ (first + k) / most * width
  pub place : i ≡ (first + k) % most

pub stands_first : (first most width : ℕ) {row : ℕ} → row ≡ first / most * width → Stands first 0 most width row (first % most)
stands_first first most width f = record { list = rw (add-zero first) f; place = rw (add-zero first) }

module _ {first k most width row i : ℕ} (s : Stands first k most width row i) where
  pub in_list : {size lists : ℕ} → Block most first size lists → i < most_number
  in_list b = omega (arith, s.place, mod-lt (first + k) b.some, b.small)

  -- at the next number
  pub list_goes_on : 1 ≤ most → i + 1 ≢ most → Stands first (k + 1) most width row (i + 1)
  list_goes_on h n =
      let q = first + k in
      let low : q % most + 1 < most = omega (arith, s.place, mod-lt q h, n) in
      let e : first + (k + 1) ≡ q / most * most + (q % most + 1) = omega (arith, div-add-mod' q most) in
      record {
        list = rw (e, digits_div (q / most) low) s.list;
        place = rw (e, digits_mod (q / most) low) (omega (arith, s.place));
      }

  pub list_ends : 1 ≤ most → i + 1 ≡ most → Stands first (k + 1) most width (row + width) 0
  list_ends h n =
      let q = first + k in
      let e : first + (k + 1) ≡ (q / most + 1) * most + 0 = omega (arith, s.place, div-add-mod' q most) in
      record {
        list = rw (e, digits_div (q / most + 1) h) (omega (arith, s.list));
        place = rw (e, digits_mod (q / most + 1) h);
      }

-- the counters of the first number's row begin within
pub row_start : (w : Window) (n most first size : ℕ) → Inside w n → Block most first size w.height → first / most * w.width ≤ n
row_start w n most first size s b =
    let low : first / most < suc w.height = (div-lt_iff_lt-mul {x = first} {y = suc w.height} b.some).1 (omega (arith, b.some, b.within)) in
    let most_rows : first / most ≤ w.height = omega arith in
    omega (arith, mul-le-mul_right w.width most_rows, s.counters)

-- ---- the k-th number of a block, v: k were counted from the counters `old`
-- up: it is one of the row whose counters begin at `row`
pub record Up (w : Window) (most first : ℕ) (values old counters : List ℕ) (row k v : ℕ) : Type 0 where
  pub row_fits : row + w.width ≤ length counters
  pub fits : w.left < v → v ≤ w.left + w.width → get_or counters (row + (v - w.left - 1)) 0 < most_number
  pub counted : w.left < v → v ≤ w.left + w.width
      → let i = row + (v - w.left - 1) in
      More (in_rows w most first (take (k + 1) values)) old (set counters i (get_or counters i 0 + 1))
  pub passed : (w.left < v → v ≤ w.left + w.width → ⊥) → More (in_rows w most first (take (k + 1) values)) old counters

-- down: it is one of the column `column`
pub record Down (w : Window) (most first : ℕ) (values old counters : List ℕ) (column k v : ℕ) : Type 0 where
  pub column_fits : column < w.width
  pub place_fits : w.top < v → v ≤ w.top + w.height → (v - w.top - 1) * w.width + column < length counters
  pub counted : w.top < v
      → let i = (v - w.top - 1) * w.width + column in
      0 < get_or counters i 0 → More (in_columns w most first (take (k + 1) values)) (set counters i (get_or counters i 0 - 1)) old
  pub passed : (w.top < v → v ≤ w.top + w.height → ⊥) → More (in_columns w most first (take (k + 1) values)) counters old
  -- a counter that would fall below 0
  pub none_left : w.top < v → v ≤ w.top + w.height → get_or counters ((v - w.top - 1) * w.width + column) 0 ≡ 0 → Above (in_columns w most first values) old

module _ {w : Window} {most first : ℕ} {values old counters : List ℕ} {k v : ℕ} (s : Inside w (length old)) (h : k < length values)
    (e : v ≡ get_or values k 0) where
  pub up_turn : {row j : ℕ} → Block most first (length values) w.height → Room w most first old → Stands first k most w.width row j
      → More (in_rows w most first (take k values)) old counters → Up w most first values old counters row k v
  up_turn {row} b room g m =
      let q = first + k in
      let f = g.list in
      let i = row + (v - w.left - 1) in
      let before = in_rows w most first (take k values) in
      let after = in_rows w most first (take (k + 1) values) in
      let below : q / most < w.height = (div-lt_iff_lt-mul {x = q} {y = w.height} b.some).1 (omega (arith, b.within)) in
      let next : (p : ℕ) → after p ≡ before p + 1 if (eqb (q / most) (p / w.width) && eqb (suc (w.left + p % w.width)) v)
      = λ p. rw (add-one k, e) (named_next most (p / w.width) (suc (w.left + p % w.width)) first values k h) in
      record {
        row_fits = omega (arith, mul-le-mul_right w.width below, s.counters, m.long);
        fits = λ l r.
            let d : i / w.width ≡ q / most = rw f (digits_div (q / most) {m = w.width} {r = v - w.left - 1} (omega arith)) in
            let t : length (take k values) ≡ k = length-take-le k values (omega arith) in
            let read = room_next w most first (take k values) old counters room m i in
            omega (arith, t, ap (λ (n : ℕ). n * most) d, div-add-mod' q most, mod-lt q b.some, b.small);
        counted = λ l r. more_then before (λ p. 1 if eqb p i) after m (more_up counters i)
            (λ p j.
            let one : 1 if (eqb (q / most) (p / w.width) && eqb (suc (w.left + p % w.width)) v) ≡ 1 if eqb p i = rw f (row_hit w (q / most) v p l r) in
            next p ∙ ap (λ (n : ℕ). before p + n) one);
        passed = λ n. more_then before (λ _. 0) after m (more_none (λ _. 0) counters (λ p j. refl))
            (λ p j. next p ∙ ap (λ (n : ℕ). before p + n) (row_miss w (q / most) v p s.wide n));
      }

  pub down_turn : {column j : ℕ} → Block most first (length values) w.width → Stands first k most 1 column j
      → More (in_columns w most first (take k values)) counters old → Down w most first values old counters column k v
  down_turn {column} b g m =
      let q = first + k in
      let f : column ≡ q / most = omega (arith, g.list) in
      let i = (v - w.top - 1) * w.width + column in
      let before = in_columns w most first (take k values) in
      let after = in_columns w most first (take (k + 1) values) in
      let below : column < w.width = rw f ((div-lt_iff_lt-mul {x = q} {y = w.width} b.some).1 (omega (arith, b.within))) in
      let place : w.top < v → v ≤ w.top + w.height → i < length counters
      = λ l r. omega (arith, digits_lt {q = v - w.top - 1} {m = w.height} {r = column} {c = w.width} (omega arith) below, s.counters, m.long) in
      let next : (p : ℕ) → after p ≡ before p + 1 if (eqb column (p % w.width) && eqb (suc (w.top + p / w.width)) v)
      = λ p. rw (add-one k, e, f) (named_next most (p % w.width) (suc (w.top + p / w.width)) first values k h) in
      let one : w.top < v → (p : ℕ) → after p ≡ before p + 1 if eqb p i = λ l p. next p ∙ ap (λ (n : ℕ). before p + n) (column_hit w column v p below l) in
      record {
        column_fits = below;
        place_fits = place;
        counted = λ l z. more_then (λ p. 1 if eqb p i) before after (more_down counters i z) m (λ p j. omega (arith, one l p));
        passed = λ n. more_then (λ _. 0) before after (more_none (λ _. 0) counters (λ p j. refl)) m
            (λ p j. omega (arith, next p, column_miss w column v p s.wide (omega (arith, s.counters, m.long)) n));
        none_left = λ l r z.
            let here : 1 if eqb i i ≡ 1 = rw (eq-eqb i i refl) in
            let part = named_part most (i % w.width) (suc (w.top + i / w.width)) first (k + 1) values in
            (i, omega (arith, place l r, m.long), omega (arith, m.each i (place l r), one l i, here, part));
      }
