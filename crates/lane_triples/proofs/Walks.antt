-- The walk: a triple in one four of lanes after the other, and the places of a triple. Assumes nothing.
use Rattle.integers.proofs.Prelude.{◌≡◌, refl, sym, ap, subst, ◌∙◌, Bool, false, List, ℕ, suc, ◌+◌, ◌-◌, ◌*◌, ◌%◌, ◌^◌, ◌≤◌, ◌<◌, arith, dec_lt, le-ltb, ne_eqb, T, eqb, ℤ, length, get_or}
use mathlib.Core.Logic.{◌⊎◌, inl, inr, ⊎_elim, ◌≢◌}
use native.Mathlib.Nat.{mul-le-mul}
use Rattle.model.specs.Limits.{most_triples}
use Rattle.model.specs.Splitting.{blank, member, Members}
use Rattle.model.proofs.Rows.{three}
use Rattle.lanes.specs.declared.Plan.{Plan}
use Rattle.lanes.specs.Lanes.{in_lane, values_at, sums_at, Fits, most_narrow}
use Rattle.lane_triples.specs.Step as Step
use Rattle.lane_triples.specs.Step.{Places, narrow_places, any_places, is_wide, after}
use Rattle.lane_triples.specs.Walk.{Tripled, Narrow, Halves, Due, Walked, InWalk, SameBeside, Course}
use Rattle.lanes.proofs.Places.{lanes_few, lane_short, fits_same}
use Rattle.lane_triples.proofs.Lane.{before_weighed}
use Rattle.lane_triples.proofs.Step.{Turn, Stands, stepped, stepped_long, stepped_beside}

-- a lane that is as it was
walked_same : {p : Plan} {ts counts : List ℕ} {i : ℕ} {w : List ℤ} {l t : ℕ} {w' w'' : List ℤ} → ((j : ℕ) → in_lane p.lanes w'' l j ≡ in_lane p.lanes w' l j)
    → Walked p ts counts i w l t w' → Walked p ts counts i w l t w''
walked_same {p} {i = i} same d = record {
  done = λ j h. same j ∙ d.done j h;
  left = λ j h k. same j ∙ d.left j h k;
  values = λ v h. same (values_at p + v) ∙ d.values v h;
  sums = λ v h. rw (same (sums_at p i + v), same (sums_at p i + (p.variables + v))) (d.sums v h);
  kept = λ v h. rw (same (sums_at p i + v), same (sums_at p i + (p.variables + v))) (d.kept v h);
  others = λ j h. same (sums_at p (1 - i) + j) ∙ d.others j h;
  weighed = λ b h. same (sums_at p 2 + b) ∙ d.weighed b h;
}

module _ {p : Plan} {ts counts : List ℕ} {i : ℕ} {w : List ℤ} {t : ℕ} where
  -- lanes beside those from l to m, which alone were changed
  carried : {from to l m : ℕ} {w' w'' : List ℤ} → SameBeside p l m w' w'' → (to ≤ l) ⊎ (m ≤ from) → to ≤ p.lanes → InWalk p ts counts i w from to t w' → InWalk p ts counts i w from to t w''
  carried {from} {to} {l} {m} same apart room d n a b = ((d n a b).0, walked_same (λ j. same n j (omega arith) (by apart)) (d n a b).1)
    where
      by : (to ≤ l) ⊎ (m ≤ from) → (n < l) ⊎ (m ≤ n)
      by (inl h) = inl (omega arith)
      by (inr h) = inr (omega arith)

  joined : {from l to : ℕ} {w' : List ℤ} → InWalk p ts counts i w from l t w' → InWalk p ts counts i w l to t w' → InWalk p ts counts i w from to t w'
  joined {from} {l} {to} {w'} d e n a b = by (dec_lt n l)
    where
      by : Dec (n < l) → Due p i w n × Walked p ts counts i w n t w'
      by (yes h) = d n a h
      by (no h) = e n (omega arith) b

-- ---- triple t, in the lanes from..to: those before l are done
abbrev pub InTurn : Plan → List ℕ → List ℕ → ℕ → ℕ → ℕ → ℕ → ℕ → List ℤ → List ℤ → Type 0
InTurn p ts counts i from to t l w₀ w' = (w : List ℤ) → InWalk p ts counts i w from to t w₀ → InWalk p ts counts i w from l (suc t) w' × InWalk p ts counts i w l to t w'

module _ {p : Plan} {ts counts : List ℕ} {i : ℕ} {to t l : ℕ} {w' : List ℤ} (fits : Fits p w') (tripled : Tripled p ts counts) (one : i ≤ 1) (below : t < p.triples)
    (four : l + 4 ≤ to) (room : to ≤ p.lanes) where
  pub turn_of : {w : List ℤ} → InWalk p ts counts i w l to t w' → Turn p ts counts i w t l w'
  turn_of now = record { fits = fits; tripled = tripled; list = one; below = below; room = omega arith; lanes = λ n a b. now n a (omega arith) }

  -- one four more
  pub four_more : {from : ℕ} {w₀ : List ℤ} {s : Places} → from ≤ l → Stands p ts counts i t l s → InTurn p ts counts i from to t l w₀ w'
      → InTurn p ts counts i from to t (l + 4) w₀ (after p.lanes w' s 3)
  four_more begin st before w start =
      let now = before w start in
      let turn = turn_of now.1 in
      let same = stepped_beside turn st in
      (joined (carried same (inl (omega arith)) (omega arith) now.0) (stepped turn st), carried same (inr (omega arith)) room (λ n a b. now.1 n (omega arith) b))

-- ---- the loop over the fours of from..to, which stands at lane l
pub record AtFour (p : Plan) (from to l : ℕ) (w₀ w' : List ℤ) : Type 0 where
  pub first : from ≤ l
  pub last : l ≤ to
  pub whole : (to - l) % 4 ≡ 0
  pub room : to ≤ p.lanes
  pub fits : Fits p w'
  pub long : length w' ≡ length w₀
  pub beside : SameBeside p from to w₀ w'

pub at_first : {p : Plan} {from to : ℕ} {w : List ℤ} → Fits p w → Halves p from to → AtFour p from to from w w
at_first {from = from} {to} fits h = record {
  first = omega arith;
  last = omega (arith, h.some);
  whole = ⊎_elim (λ d. ⊎_elim (λ e. omega arith) (λ e. omega arith) h.last) (λ d. ⊎_elim (λ e. omega arith) (λ e. omega arith) h.last) h.first;
  room = h.room;
  fits = fits;
  long = refl;
  beside = λ l j _ _. refl;
}

module _ {p : Plan} {from to l : ℕ} {w₀ w' : List ℤ} (a : AtFour p from to l w₀ w') (less : l < to) where
  pub a_four : l + 4 ≤ to
  a_four = omega (arith, a.whole)

  pub lane_low : l + 4 ≤ 8
  lane_low = omega (arith, a_four, a.room, lanes_few a.fits)

  pub next_four : {ts counts : List ℕ} {i : ℕ} {w : List ℤ} {t : ℕ} {s : Places} → Turn p ts counts i w t l w' → Stands p ts counts i t l s
      → AtFour p from to (l + 4) w₀ (after p.lanes w' s 3)
  next_four turn st = record {
    first = omega (arith, a.first);
    last = a_four;
    whole = omega (arith, a.whole);
    room = a.room;
    fits = fits_same a.fits _ (stepped_long turn st);
    long = stepped_long turn st ∙ a.long;
    beside = λ n j m o. stepped_beside turn st n j m (by n o) ∙ a.beside n j m o;
  }
    where
      by : (n : ℕ) → (n < from) ⊎ (to ≤ n) → (n < l) ⊎ (l + 4 ≤ n)
      by n (inl h) = inl (omega (arith, a.first))
      by n (inr h) = inr (omega (arith, a_four))

-- ---- the loop over the triples from t to `end`, which stands at triple u
pub record AtTriple (p : Plan) (from to t end u : ℕ) (w₀ w' : List ℤ) : Type 0 where
  pub first : t ≤ u
  pub last : u ≤ end
  pub fits : Fits p w'
  pub long : length w' ≡ length w₀
  pub beside : SameBeside p from to w₀ w'

pub at_begin : {p : Plan} {from to t end : ℕ} {w : List ℤ} → Fits p w → t ≤ end → AtTriple p from to t end t w w
at_begin fits h = record { first = omega arith; last = h; fits = fits; long = refl; beside = λ l j _ _. refl }

pub next_triple : {p : Plan} {from to t end u : ℕ} {w₀ w' w'' : List ℤ} → AtTriple p from to t end u w₀ w' → u < end → length w'' ≡ length w' → SameBeside p from to w' w''
    → AtTriple p from to t end (u + 1) w₀ w''
next_triple a less long same =
    record { first = omega (arith, a.first); last = omega arith; fits = fits_same a.fits _ long; long = long ∙ a.long; beside = λ l j m o. same l j m o ∙ a.beside l j m o }

-- no index is too large
pub product_low : {p : Plan} {w : List ℤ} → Fits p w → (v n : ℕ) → v ≤ n → p.lanes * v ≤ 8 * n
product_low fits v n h = mul-le-mul (lanes_few fits) h

module _ {p : Plan} {w : List ℤ} {ts counts : List ℕ} {i values next : ℕ} (fits : Fits p w) (course : Course p ts counts i values next) where
  pub values_low : values ≤ 8 * (4 * most_triples)
  values_low = omega (arith, course.at_values, product_low fits (values_at p) (4 * most_triples) (omega (arith, fits.triples)))

  pub next_low : next ≤ 8 * 2 ^ 17
  next_low =
      let low : sums_at p i ≤ 2 ^ 17 = omega (arith, before_weighed p i course.list, lane_short fits) in
      omega (arith, course.at_sums, product_low fits (sums_at p i) (2 ^ 17) low)

-- ---- the places of triple t, in the lanes from h on
abbrev place : (ℕ → ℕ) → ℕ → ℕ
place f = Step.three (f 0) (f 1) (f 2)

abbrev third_alone : Bool → ℕ → Bool
third_alone b = Step.three false false b

module _ {p : Plan} {ts counts : List ℕ} {i values next : ℕ} (course : Course p ts counts i values next) (t h : ℕ) (below : t < p.triples) where
  abbrev m : ℕ → ℕ
  m = member ts t

  abbrev L : ℕ
  L = p.lanes

  in_triples : 3 * t + 2 < length ts
  in_triples = omega (arith, course.tripled.long)

  abbrev named : Members ts p.variables
  named = course.tripled.named

  pub first_below : m 0 < p.variables
  first_below = named.first t in_triples

  pub second_below : m 1 < p.variables
  second_below = named.second t in_triples

  pub third_below : m 2 ≢ blank → m 2 < p.variables
  third_below some = by (named.third t in_triples)
    where
      by : (m 2 < p.variables) ⊎ (m 2 ≡ blank) → m 2 < p.variables
      by (inl h) = h
      by (inr h) = absurd (some h)

  pub third_most : m 2 ≤ blank
  third_most = by (named.third t in_triples)
    where
      by : (m 2 < p.variables) ⊎ (m 2 ≡ blank) → m 2 ≤ blank
      by (inl h) = omega (arith, named.few)
      by (inr h) = omega arith

  pub may_read : p.triples ≤ most_triples → (q : ℕ) → q < 3 → (t ≤ most_triples) × (q < 3) × (3 * t + q < length ts)
  may_read few q l = (omega arith, l, omega (arith, in_triples))

  -- that of three which place q has; where its entry of a part stands that begins at `at`
  of_three : (f : ℕ → ℕ) (q : ℕ) → q < 3 → place f q ≡ f q
  of_three f = three (λ q. place f q ≡ f q) refl refl refl

  at_entry : {at : ℕ} (a : ℕ) → at ≡ L * a → (q : ℕ) → q < 3 → at + h + place (λ q. L * m q) q ≡ L * (a + m q) + h
  at_entry a e q l = rw (of_three (λ q. L * m q) q l) (omega arith)

  at_any : {at : ℕ} (a : ℕ) → at ≡ L * a → (q : ℕ) → q < 3 → at + h + L * place m q ≡ L * (a + m q) + h
  at_any a e q l = rw (of_three m q l) (omega arith)

  -- any triple
  pub any_stands : {a b c : ℕ} → a ≡ m 0 → b ≡ m 1 → c ≡ m 2 → Stands p ts counts i t h (any_places counts L (4 * L * t + h) (values + h) (next + h) (L * p.variables) a b c)
  any_stands d e f = rw (d, e, f) record {
    rows = omega arith;
    none = three (λ q. third_alone (eqb (m 2) blank) q ≡ eqb (m q) blank) (sym (ne_eqb (m 0) blank (λ e. omega (arith, first_below, named.few))))
        (sym (ne_eqb (m 1) blank (λ e. omega (arith, second_below, named.few)))) refl;
    value = λ q l _. at_any (values_at p) course.at_values q l;
    sum = λ q l _. at_any (sums_at p i) course.at_sums q l;
    wide = λ q l _. ap (is_wide counts) (of_three m q l);
    apart = λ q l n e. refl;
  }

  -- where all is known to be narrow
  module _ (narrow : Narrow p ts counts) where
    pub third_narrow : m 2 < p.variables
    third_narrow = third_below (narrow.blank_none t below)

    variable : (q : ℕ) → q < 3 → m q < p.variables
    variable = three (λ q. m q < p.variables) first_below second_below third_narrow

    pub narrow_stands : {a b c : ℕ} → a ≡ m 0 → b ≡ m 1 → c ≡ m 2 → Stands p ts counts i t h (narrow_places (4 * L * t + h) (values + h) (next + h) (L * a) (L * b) (L * c))
    narrow_stands d e f = rw (d, e, f) record {
      rows = omega arith;
      none = λ q l. sym (ne_eqb (m q) blank (λ e. omega (arith, variable q l, named.few)));
      value = λ q l _. at_entry (values_at p) course.at_values q l;
      sum = λ q l _. at_entry (sums_at p i) course.at_sums q l;
      wide = λ q l n. sym (le-ltb most_narrow (get_or counts (m q) 0) (narrow.counts_few (m q) (variable q l)));
      apart = λ q l n e. absurd (subst T (sym e) tt);
    }
