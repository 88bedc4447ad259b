-- The numbers of a text: how a loop over its bytes finds them, their sizes, and the texts that write given numbers. Assumes nothing.
use Rattle.integers.proofs.Prelude.{◌≡◌, refl, sym, ap, ◌∙◌, Bool, true, false, cond, List, [], ◌∷◌, ◌++◌, append-nil, ℕ, zero, suc, ◌+◌, ◌-◌, ◌*◌}
use Rattle.integers.proofs.Prelude.{◌≤◌, ◌<◌, min, arith, leb-true, le-leb, ne_eqb, leb, length, get_or, drop, drop_of_length-le, drop-cons}
use mathlib.Core.Logic.{◌↔◌}
use Rattle.lists.specs.Entries.{every}
use Rattle.lists.proofs.Tests.{and_left, and_right}
use Rattle.model.specs.Limits.{most_number}
use Rattle.model.specs.Causes.{outside}
use Rattle.model.specs.Alist.{separator, further, ended, numbers_of}
use Rattle.model.specs.AlistClaims.{Digits, value_of, Separators, Apart, Spells}
use Rattle.model.proofs.Causes.{within, inside}

-- ---- one byte
-- at a separator a number that was begun ends
pub numbers_apart : (begun b : ℕ) (s : List ℕ) → separator b ≡ true → numbers_of begun (b ∷ s) ≡ ended begun (numbers_of 0 s)
unfolding numbers_of
numbers_apart begun b s e = rw e

-- any other byte begins one or goes on with it
pub numbers_in : (begun b : ℕ) (s : List ℕ) → separator b ≡ false → numbers_of begun (b ∷ s) ≡ numbers_of (suc (further (begun - 1) b)) s
unfolding numbers_of
numbers_in begun b s e = rw e

pub numbers_more : (x b : ℕ) (s : List ℕ) → separator b ≡ false → numbers_of (suc x) (b ∷ s) ≡ numbers_of (suc (further x b)) s
numbers_more x b s e = let same : suc x - 1 ≡ x = omega arith in rw (numbers_in (suc x) b s e, same)

pub numbers_end : (begun : ℕ) → numbers_of begun [] ≡ ended begun []
unfolding numbers_of
numbers_end begun = refl

-- of a loop over the text, at i
module _ (begun : ℕ) (s : List ℕ) (i : ℕ) where
  pub walk_apart : i < length s → separator (get_or s i 0) ≡ true → numbers_of begun (drop i s) ≡ ended begun (numbers_of 0 (drop (suc i) s))
  walk_apart h e = ap (numbers_of begun) (drop-cons s i 0 h) ∙ numbers_apart begun (get_or s i 0) (drop (suc i) s) e

  pub walk_in : i < length s → separator (get_or s i 0) ≡ false → numbers_of begun (drop i s) ≡ numbers_of (suc (further (begun - 1) (get_or s i 0))) (drop (suc i) s)
  walk_in h e = ap (numbers_of begun) (drop-cons s i 0 h) ∙ numbers_in begun (get_or s i 0) (drop (suc i) s) e

  pub walk_more : i < length s → separator (get_or s i 0) ≡ false
      → numbers_of (suc begun) (drop i s) ≡ numbers_of (suc (further begun (get_or s i 0))) (drop (suc i) s)
  walk_more h e = ap (numbers_of (suc begun)) (drop-cons s i 0 h) ∙ numbers_more begun (get_or s i 0) (drop (suc i) s) e

  pub walk_end : length s ≤ i → numbers_of begun (drop i s) ≡ ended begun []
  walk_end h = ap (numbers_of begun) (drop_of_length-le s h) ∙ numbers_end begun

-- by cases, of any fact on the numbers of a text that goes on with b
pub by_byte : (P : List ℕ → Type 0) (begun b : ℕ) (s : List ℕ) → (separator b ≡ true → P (ended begun (numbers_of 0 s)))
    → (separator b ≡ false → P (numbers_of (suc (further (begun - 1) b)) s)) → P (numbers_of begun (b ∷ s))
by_byte P begun b s apart more = by (separator b) refl
  where
    by : (t : Bool) → separator b ≡ t → P (numbers_of begun (b ∷ s))
    by true e = rw (numbers_apart begun b s e) (apart e)
    by false e = rw (numbers_in begun b s e) (more e)

-- ---- sizes
-- "at most 65,535 in value", or one more for what is none
pub further_most : (x b : ℕ) → further x b ≤ suc most_number
further_most x b = by (outside 48 57 b)
  where
    by : (t : Bool) → cond t (suc most_number) (min (suc most_number) (10 * x + (b - 48))) ≤ suc most_number
    by true = omega arith
    by false = omega arith

-- numbers want bytes: one each, and one between two
pub numbers_fit : (begun : ℕ) (s : List ℕ) → 2 * length (numbers_of begun s) ≤ 1 + min begun 1 + length s
numbers_fit zero [] = rw (numbers_end 0) (omega arith)
numbers_fit (suc x) [] = rw (numbers_end (suc x)) (omega arith)
numbers_fit begun (b ∷ s) =
    by_byte (λ l. 2 * length l ≤ 1 + min begun 1 + suc (length s)) begun b s (λ _. by begun (numbers_fit 0 s))
    (λ _. omega (arith, numbers_fit (suc (further (begun - 1) b)) s))
  where
    by : (begun : ℕ) → 2 * length (numbers_of 0 s) ≤ 1 + min 0 1 + length s → 2 * length (ended begun (numbers_of 0 s)) ≤ 1 + min begun 1 + suc (length s)
    by zero ih = omega arith
    by (suc x) ih = omega arith

pub numbers_room : (s : List ℕ) → 2 * length (numbers_of 0 s) ≤ 1 + length s
numbers_room s = omega (arith, numbers_fit 0 s)

-- ---- digits
value_grows : (x : ℕ) (d : List ℕ) → x ≤ value_of x d
value_grows x [] = omega arith
value_grows x (b ∷ d) = omega (arith, value_grows (10 * x + (b - 48)) d)

pub digit_separates : (b : ℕ) → 48 ≤ b → separator b ≡ false
digit_separates b h = rw (ne_eqb b 32 (λ e. omega arith), ne_eqb b 10 (λ e. omega arith))

pub digit_further : (x b : ℕ) → 48 ≤ b → b ≤ 57 → 10 * x + (b - 48) ≤ most_number → further x b ≡ 10 * x + (b - 48)
digit_further x b h k l = rw (inside 48 57 b h k) (omega arith)

-- a number that is begun goes on with digits
digits_read : (x : ℕ) (d s : List ℕ) → Digits d → value_of x d ≤ most_number → numbers_of (suc x) (d ++ s) ≡ numbers_of (suc (value_of x d)) s
digits_read x [] s h l = refl
digits_read x (b ∷ d) s h l =
    let y = 10 * x + (b - 48) in
    numbers_more x b (d ++ s) (digit_separates b h.0.0)
    ∙ ap (λ (n : ℕ). numbers_of (suc n) (d ++ s)) (digit_further x b h.0.0 h.0.1 (omega (arith, value_grows y d)))
    ∙ digits_read y d s h.1 l

-- and begins with them
pub number_read : (d s : List ℕ) → Digits d → 1 ≤ length d → value_of 0 d ≤ most_number → numbers_of 0 (d ++ s) ≡ numbers_of (suc (value_of 0 d)) s
number_read [] s h k l = absurd (omega arith)
number_read (b ∷ d) s h k l =
    numbers_in 0 b (d ++ s) (digit_separates b h.0.0) ∙ sym (numbers_in 1 b (d ++ s) (digit_separates b h.0.0)) ∙ digits_read 0 (b ∷ d) s h l

separators_read : (b s : List ℕ) → Separators b → numbers_of 0 (b ++ s) ≡ numbers_of 0 s
separators_read [] s h = refl
separators_read (x ∷ b) s h =
    numbers_apart 0 x (b ++ s) (and_left (separator x) (every separator b) h) ∙ separators_read b s (and_right (separator x) (every separator b) h)

apart_read : (x : ℕ) (s : List ℕ) → Apart s → numbers_of (suc x) s ≡ x ∷ numbers_of 0 s
apart_read x [] h = numbers_end (suc x) ∙ ap (◌∷◌ x) (sym (numbers_end 0))
apart_read x (b ∷ s) h = numbers_apart (suc x) b s h ∙ ap (◌∷◌ x) (sym (numbers_apart 0 b s h))

-- ---- a text that writes numbers has them
abbrev Small : List ℕ → Type 0
Small l = every (λ x. leb x most_number) l ≡ true

has : (s l : List ℕ) → Spells s l → (numbers_of 0 s ≡ l) × Small l
has s [] h = (ap (numbers_of 0) (sym (append-nil s)) ∙ separators_read s [] h ∙ numbers_end 0, refl)
has s (x ∷ l) h =
    let rest = h.0 in
    let b = h.1 in
    let ih = has rest l h.2 in
    let most : value_of 0 b.digits ≤ most_number = omega (arith, b.value, b.small) in (
      ap (numbers_of 0) b.text ∙ separators_read b.before (b.digits ++ rest) b.separators ∙ number_read b.digits rest b.decimal b.some most
          ∙ apart_read (value_of 0 b.digits) rest b.apart ∙ rw (b.value, ih.0),
      rw (le-leb x most_number b.small) ih.1,
    )

-- ---- and the numbers of a text are what it writes
-- s goes on with digits after a number that is x so far
record Continues (x : ℕ) (s l : List ℕ) : Type 0 where
  digits : List ℕ
  rest : List ℕ
  number : ℕ
  more : List ℕ
  numbers : l ≡ number ∷ more
  text : s ≡ digits ++ rest
  decimal : Digits digits
  value : value_of x digits ≡ number
  small : number ≤ most_number
  apart : Apart rest
  spells : Spells rest more

spells_after : (b : ℕ) (s l : List ℕ) → separator b ≡ true → Spells s l → Spells (b ∷ s) l
spells_after b s [] e h = rw e h
spells_after b s (x ∷ l) e h =
    let r = h.1 in (
      h.0,
      record {
        before = b ∷ r.before;
        digits = r.digits;
        text = ap (◌∷◌ b) r.text;
        separators = rw e r.separators;
        decimal = r.decimal;
        some = r.some;
        value = r.value;
        small = r.small;
        apart = r.apart;
      },
      h.2,
    )

-- a byte that is no separator is a digit, where the number that it belongs to is small
pub further_digit : (x b : ℕ) → further x b ≤ most_number → (48 ≤ b) × (b ≤ 57) × (further x b ≡ 10 * x + (b - 48))
further_digit x b h = by (outside 48 57 b) refl h
  where
    by : (t : Bool) → outside 48 57 b ≡ t → cond t (suc most_number) (min (suc most_number) (10 * x + (b - 48))) ≤ most_number
        → (48 ≤ b) × (b ≤ 57) × (cond t (suc most_number) (min (suc most_number) (10 * x + (b - 48))) ≡ 10 * x + (b - 48))
    by true e h = absurd (omega arith)
    by false e h = let w = within 48 57 b e in (w.0, w.1, omega arith)

continues_with : (x b : ℕ) (s l : List ℕ) → Continues (further x b) s l → Continues x (b ∷ s) l
continues_with x b s l c =
    let d = further_digit x b (omega (arith, value_grows (further x b) c.digits, c.value, c.small)) in
    record {
      digits = b ∷ c.digits;
      rest = c.rest;
      number = c.number;
      more = c.more;
      numbers = c.numbers;
      text = ap (◌∷◌ b) c.text;
      decimal = ((d.0, d.1), c.decimal);
      value = rw (← d.2) c.value;
      small = c.small;
      apart = c.apart;
      spells = c.spells;
    }

begins_with : (b : ℕ) (s l : List ℕ) → Continues (further 0 b) s l → Spells (b ∷ s) l
unfolding continues_with
begins_with b s l c =
    let d = continues_with 0 b s l c in
    rw d.numbers (
      d.rest,
      record {
        before = [];
        digits = d.digits;
        text = d.text;
        separators = refl;
        decimal = d.decimal;
        some = omega arith;
        value = d.value;
        small = d.small;
        apart = d.apart;
      },
      d.spells,
    )

abbrev Written : List ℕ → Type 0
Written s =
    (Small (numbers_of 0 s) → Spells s (numbers_of 0 s))
    × ((x : ℕ) → Small (numbers_of (suc x) s) → Continues x s (numbers_of (suc x) s))

writes_none : Written []
writes_none = (
  λ h. rw (numbers_end 0) refl,
  λ x h. record {
    digits = [];
    rest = [];
    number = x;
    more = [];
    numbers = numbers_end (suc x);
    text = refl;
    decimal = tt;
    value = refl;
    small = let k = rw (numbers_end (suc x)) at h in omega (arith, leb-true x most_number (and_left _ true k));
    apart = tt;
    spells = refl;
  },
)

writes_next : (b : ℕ) (s : List ℕ) → Written s → Written (b ∷ s)
writes_next b s ih = (
  by_byte (λ l. Small l → Spells (b ∷ s) l) 0 b s (λ e h. spells_after b s (numbers_of 0 s) e (ih.0 h)) (λ e h. begins_with b s _ (ih.1 _ h)),
  λ x.
      let same : suc x - 1 ≡ x = omega arith in
      by_byte (λ l. Small l → Continues x (b ∷ s) l) (suc x) b s
      (λ e h. record {
        digits = [];
        rest = b ∷ s;
        number = x;
        more = numbers_of 0 s;
        numbers = refl;
        text = refl;
        decimal = tt;
        value = refl;
        small = omega (arith, leb-true x most_number (and_left (leb x most_number) (every (λ x. leb x most_number) (numbers_of 0 s)) h));
        apart = e;
        spells = spells_after b s (numbers_of 0 s) e (ih.0 (and_right (leb x most_number) _ h));
      })
      (λ e. rw same (λ h. continues_with x b s _ (ih.1 (further x b) h))),
)

writes : (s : List ℕ) → Written s
writes [] = writes_none
writes (b ∷ s) = writes_next b s (writes s)

pub spelled : (s l : List ℕ) → Spells s l ↔ ((numbers_of 0 s ≡ l) × (every (λ x. leb x most_number) l ≡ true))
spelled s l = (has s l, λ h. rw (← h.0) ((writes s).0 (rw h.0 h.1)))
