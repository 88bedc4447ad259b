-- The parts that the bits' values are worked out from, and the numbers in them. Assumes nothing.
use Rattle.integers.proofs.Prelude.{◌≡◌, refl, sym, ap, ◌∙◌, Bool, true, false, List, [], ◌∷◌, ℕ, zero, suc, ◌+◌, ◌-◌, ◌*◌, ◌/◌, ◌^◌, ◌≤◌, ◌<◌, arith}
use Rattle.integers.proofs.Prelude.{leb-true, leb-false, leb, ℤ, pos, nat_abs, neg_ℤ, ◌+ℤ◌, ◌*ℤ◌, length, get_or}
use mathlib.Core.Logic.{⊎_elim}
use native.Mathlib.Nat.{mul-le-mul, mul-le-mul_left, le-div_iff_mul-le, div-lt_iff_lt-mul}
use lib.IntN.{+ℤ_idr}
use Rattle.integers.proofs.Linear.{abs_add, abs_mul}
use Rattle.quotient.specs.Quotient.{unit, quotient}
use Rattle.model.specs.Limits.{most_checks, most_triples, most_variables, most_numerator}
use Rattle.model.specs.Iteration.{at, divisor}
use Rattle.lanes.specs.declared.Plan.{Plan}
use Rattle.lanes.specs.Lanes.{values_at, sums_at, weighed_at, most_narrow, Fits}
use Rattle.lane_values.specs.Stored.{Parts, stored, Stored}
use Rattle.lane_values.specs.Valued.{Same, Counted}
use Rattle.lane_values.specs.Places.{wide_parts, bit_parts, wide_value, narrow_value, bit_value, Entry, Entries}
use Rattle.lane_values.proofs.Stored.{apart_at, stored_join, ahead, stored_same}

-- ---- where the parts stand
module _ {p : Plan} {w : List ℤ} (f : Fits p w) where
  pub some_lanes : 0 < p.lanes
  some_lanes = ⊎_elim (λ e. omega arith) (λ e. omega arith) f.lanes

  pub sizes : (p.lanes ≤ 8) × (p.triples ≤ most_triples) × (p.variables ≤ most_variables) × (p.bits ≤ p.variables)
  sizes = (⊎_elim (λ e. omega arith) (λ e. omega arith) f.lanes, f.triples, f.variables, f.bits)

  pub still_fits : {w' : List ℤ} → length w' ≡ length w → Fits p w'
  still_fits e = record { lanes = f.lanes; triples = f.triples; variables = f.variables; bits = f.bits; long = e ∙ f.long }

  pub entries_below : {v : ℕ} → v ≤ p.variables → p.lanes * v < 2 ^ 64
  entries_below h = omega (arith, mul-le-mul sizes.0 h, f.variables)

  pub bit_parts_lem : (i n : ℕ) → i ≤ 1 → n ≤ p.lanes * p.bits → Parts n (length w) (bit_parts p i)
  bit_parts_lem zero n h k =
      let m = mul-le-mul_left p.lanes f.bits in
      record { ends = omega (arith, f.long); apart = (omega arith, (omega arith, omega arith)) }
  bit_parts_lem (suc zero) n h k =
      let m = mul-le-mul_left p.lanes f.bits in
      record { ends = omega (arith, f.long); apart = (omega arith, (omega arith, omega arith)) }
  bit_parts_lem (suc (suc i)) n h k = absurd (omega arith)

-- the variable that entry k belongs to
pub variable_of : {L v e k : ℕ} → 0 < L → L * v ≤ k → k < L * e → (v ≤ k / L) × (k / L < e)
variable_of {L} {v} {e} {k} h l m = ((le-div_iff_mul-le h).1 (omega arith), (div-lt_iff_lt-mul h).1 (omega arith))

-- ---- the numbers of an entry
module _ {c : ℕ} {low high weighed next : ℤ} (e : Entry c low high weighed next) where
  pub narrow_sum : c ≤ most_narrow → nat_abs low ≤ 2 ^ 31 - 2 ^ 24
  narrow_sum h = omega (arith, (e.kept.narrow h).0)

  sum_within : c ≤ most_checks → nat_abs low + 2 ^ 14 * nat_abs high ≤ most_checks * (2 ^ 14 + 2 ^ 28)
  sum_within h = by (leb c most_narrow) refl
    where
      by : (t : Bool) → leb c most_narrow ≡ t → nat_abs low + 2 ^ 14 * nat_abs high ≤ most_checks * (2 ^ 14 + 2 ^ 28)
      by true t = let k = e.kept.narrow (leb-true c most_narrow t) in omega (arith, ap nat_abs k.1)
      by false t = let k = e.kept.wide (leb-false c most_narrow t) in omega arith

  pub whole_within : c ≤ most_checks → nat_abs (pos 256 *ℤ (low +ℤ pos (2 ^ 14) *ℤ high) +ℤ weighed) ≤ most_numerator
  whole_within h =
      let scaled = pos (2 ^ 14) *ℤ high in
      let sum = low +ℤ scaled in
      omega (arith, abs_add (pos 256 *ℤ sum) weighed, abs_mul (pos 256) sum, abs_add low scaled, abs_mul (pos (2 ^ 14)) high, sum_within h, e.within)

  -- a sum without a high part
  pub narrow_whole : c ≤ most_narrow → pos 256 *ℤ low +ℤ weighed ≡ pos 256 *ℤ (low +ℤ pos (2 ^ 14) *ℤ high) +ℤ weighed
  narrow_whole h = rw (e.kept.narrow h).1 (ap (λ (z : ℤ). pos 256 *ℤ z +ℤ weighed) (sym (+ℤ_idr low)))

-- ---- where no high part is written
module _ {n size values next sums weighed : ℕ} (apart : ℕ) (a : Parts n size (wide_parts values next sums apart weighed)) where
  -- four of the six
  pub narrow_parts : Parts n size (values ∷ next ∷ sums ∷ weighed ∷ [])
  narrow_parts =
      let e = a.ends in
      let b = a.apart in
      record {
        ends = (e.0, (e.1.0, (e.1.1.1.0, (e.1.1.1.1.1.0, tt))));
        apart =
            ((b.0.0, (b.0.1.1.0, (b.0.1.1.1.1.0, tt))), ((b.1.0.1.0, (b.1.0.1.1.1.0, tt)), ((b.1.1.1.0.1.0, tt), (tt, tt))));
      }

  module _ {f g : ℕ → ℤ} {from to : ℕ} {w w' : List ℤ} (h : to ≤ n) (s : Stored 2 (values ∷ next ∷ sums ∷ weighed ∷ []) f from to w w')
      (zeros : (k : ℕ) → from ≤ k → k < to → at w (next + apart + k) ≡ pos 0) (same : (k : ℕ) → from ≤ k → k < to → f k ≡ g k) where
    pub narrow_stored : Stored 3 (wide_parts values next sums apart weighed) g from to w w'
    narrow_stored = record { long = s.long; new = new; old = λ j out. s.old j (old j out) }
      where
        parts : List ℕ
        parts = values ∷ next ∷ sums ∷ weighed ∷ []

        all : List ℕ
        all = wide_parts values next sums apart weighed

        here : (k : ℕ) → from ≤ k → k < to → (r i : ℕ) → r < 2 → from ≤ i → i < to → next + apart + k ≡ get_or parts r 0 + i → ⊥
        here k hf ht zero i hr hi hj e = apart_at n all a.apart 2 0 (omega arith) (omega arith) (omega arith) k i (omega arith) (omega arith) e
        here k hf ht (suc zero) i hr hi hj e = apart_at n all a.apart 2 1 (omega arith) (omega arith) (omega arith) k i (omega arith) (omega arith) e
        here k hf ht (suc (suc r)) i hr hi hj e = absurd (omega arith)

        new : (q k : ℕ) → q < 3 → from ≤ k → k < to → at w' (get_or all q 0 + k) ≡ stored g q k
        new zero k hq hf ht = s.new 0 k (omega arith) hf ht ∙ same k hf ht
        new (suc zero) k hq hf ht = s.new 1 k (omega arith) hf ht
        new (suc (suc zero)) k hq hf ht = s.old (next + apart + k) (here k hf ht) ∙ zeros k hf ht
        new (suc (suc (suc q))) k hq hf ht = absurd (omega arith)

        old : (j : ℕ) → ((q i : ℕ) → q < 3 → from ≤ i → i < to → j ≡ get_or all q 0 + i → ⊥) → (r i : ℕ) → r < 2 → from ≤ i → i < to → j ≡ get_or parts r 0 + i → ⊥
        old j out zero i hr = out 0 i (omega arith)
        old j out (suc zero) i hr = out 1 i (omega arith)
        old j out (suc (suc r)) i hr = absurd (omega arith)

-- ---- bits from v to `end`, of `count` triples each, and where their parts begin
pub record Handed (p : Plan) (counts : List ℕ) (i v end : ℕ) (w : List ℤ) (values next sums weighed count : ℕ) : Type 0 where
  pub fits : Fits p w
  pub list : i ≤ 1
  pub counted : Counted p counts
  pub some : v < end
  pub last : end ≤ p.bits
  pub same : Same counts v v end
  pub entries : Entries p counts i w (p.lanes * v) (p.lanes * end)
  pub values_is : values ≡ p.lanes * values_at p
  pub next_is : next ≡ p.lanes * sums_at p (1 - i)
  pub sums_is : sums ≡ p.lanes * sums_at p i
  pub weighed_is : weighed ≡ p.lanes * weighed_at p
  pub count_is : count ≡ get_or counts v 0

module _ {p : Plan} {counts : List ℕ} {i v end : ℕ} {w : List ℤ} {values next sums weighed count : ℕ}
    (h : Handed p counts i v end w values next sums weighed count) where
  first_below : v < p.variables
  first_below = omega (arith, h.some, h.last, h.fits.bits)

  pub few_count : count ≤ most_checks
  few_count = omega (arith, h.count_is, h.counted.few v first_below)

  pub some_count : 1 ≤ count
  some_count = omega (arith, h.count_is, h.counted.some v first_below)

  pub handed_parts : Parts (p.lanes * end) (length w) (wide_parts values next sums (p.lanes * p.variables) weighed)
  handed_parts =
      rw (h.values_is, h.next_is, h.sums_is, h.weighed_is) (bit_parts_lem h.fits i (p.lanes * end) h.list (mul-le-mul_left p.lanes h.last))

  module _ (k : ℕ) (l : p.lanes * v ≤ k) (m : k < p.lanes * end) where
    same_count : get_or counts (k / p.lanes) 0 ≡ count
    same_count = let u = variable_of (some_lanes h.fits) l m in h.same (k / p.lanes) u.0 u.1 ∙ sym h.count_is

    pub handed_entry : let apart = p.lanes * p.variables in
        Entry count (at w (sums + k)) (at w (sums + apart + k)) (at w (weighed + k)) (at w (next + apart + k))
    handed_entry = rw (h.next_is, h.sums_is, h.weighed_is) (rw same_count at (h.entries k l m))

    value_is : (A : ℕ) → wide_value w sums (sums + p.lanes * p.variables) weighed (divisor (4 * count) A) k ≡ bit_value p counts A i w k
    value_is A =
        let q = p.lanes * sums_at p i in
        rw (h.sums_is, h.weighed_is)
        (ap (λ (c : ℕ). wide_value w q (q + p.lanes * p.variables) (p.lanes * weighed_at p) (divisor (4 * c) A) k) (sym same_count))

  module _ (A : ℕ) {w' : List ℤ} where
    pub wide_bits : let apart = p.lanes * p.variables in
        let f = wide_value w sums (sums + apart) weighed (divisor (4 * count) A) in
        Stored 3 (wide_parts values next sums apart weighed) f (p.lanes * v) (p.lanes * end) w w'
        → Stored 3 (bit_parts p i) (bit_value p counts A i w) (p.lanes * v) (p.lanes * end) w w'
    wide_bits s = rw (h.values_is, h.next_is, h.sums_is, h.weighed_is) at (stored_same (λ k l m. value_is k l m A) s)

    pub narrow_bits : count ≤ most_narrow
        → Stored 2 (values ∷ next ∷ sums ∷ weighed ∷ []) (narrow_value w sums weighed (divisor (4 * count) A)) (p.lanes * v) (p.lanes * end) w w'
        → Stored 3 (bit_parts p i) (bit_value p counts A i w) (p.lanes * v) (p.lanes * end) w w'
    narrow_bits n s =
        wide_bits (narrow_stored (p.lanes * p.variables) handed_parts (omega arith) s (λ k l m. (handed_entry k l m).clear n)
        (λ k l m. ap (λ (z : ℤ). quotient (neg_ℤ z) (divisor (4 * count) A) +ℤ pos unit) (narrow_whole (handed_entry k l m) n)))

-- ---- the bits below v are done, from w₀ to w
module _ {p : Plan} (counts : List ℕ) (A v : ℕ) {i : ℕ} {w₀ w : List ℤ} (f : Fits p w₀) (list : i ≤ 1)
    (s : Stored 3 (bit_parts p i) (bit_value p counts A i w₀) 0 (p.lanes * v) w₀ w) where
  parts : Parts (p.lanes * p.bits) (length w₀) (bit_parts p i)
  parts = bit_parts_lem f i (p.lanes * p.bits) list (omega arith)

  -- the entries of the others are as they were
  later : (q k : ℕ) → q < 6 → p.lanes * v ≤ k → k < p.lanes * p.bits → at w (get_or (bit_parts p i) q 0 + k) ≡ at w₀ (get_or (bit_parts p i) q 0 + k)
  later q k h l m = ahead parts (omega arith) s q k h l m

  module _ {end : ℕ} (last : end ≤ p.bits) where
    until : p.lanes * end ≤ p.lanes * p.bits
    until = mul-le-mul_left p.lanes last

    pub entries_later : Entries p counts i w₀ 0 (p.lanes * p.bits) → Entries p counts i w (p.lanes * v) (p.lanes * end)
    entries_later e = λ k l m.
        let n : k < p.lanes * p.bits = omega (arith, until) in
        rw (later 2 k (omega arith) l n, later 3 k (omega arith) l n, later 4 k (omega arith) l n, later 5 k (omega arith) l n) (e k (omega arith) n)

    pub bits_next : v ≤ end → {w' : List ℤ} → Stored 3 (bit_parts p i) (bit_value p counts A i w) (p.lanes * v) (p.lanes * end) w w'
        → Stored 3 (bit_parts p i) (bit_value p counts A i w₀) 0 (p.lanes * end) w₀ w'
    bits_next h t =
        stored_join parts (omega arith) (omega arith) (mul-le-mul_left p.lanes h) until s
        (stored_same (λ k l m.
        let n : k < p.lanes * p.bits = omega (arith, until) in
        rw (later 3 k (omega arith) l n, later 4 k (omega arith) l n, later 5 k (omega arith) l n)) t)
