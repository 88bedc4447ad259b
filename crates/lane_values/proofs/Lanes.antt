-- From the entries of a lane to places in the list, and back. Assumes nothing.
use Rattle.integers.proofs.Prelude.{◌≡◌, sym, ap, ◌∙◌, List, ℕ, zero, suc, ◌+◌, ◌-◌, ◌*◌, ◌/◌, ◌%◌, ◌^◌, ◌≤◌, ◌<◌, arith}
use Rattle.integers.proofs.Prelude.{lt-ltb, le-ltb, ℤ, pos, nat_abs, neg_ℤ, ◌+ℤ◌, ◌*ℤ◌, get_or}
use native.Mathlib.Nat.{mul-le-mul_left, mod-lt, div-add-mod, mul-add-div, div-eq_of_lt, mul-add-mod_self_left, mod-eq_of_lt, lt_of_mul-lt-mul_left}
use lib.IntN.{+ℤ_idr}
use Rattle.quotient.specs.Quotient.{unit, quotient}
use Rattle.model.specs.Iteration.{at, divisor}
use Rattle.lanes.specs.declared.Plan.{Plan}
use Rattle.lanes.specs.Lanes.{in_lane, sums_at, weighed_at, low_part, high_part, lane_weighed, Fits, SumsKept}
use Rattle.lane_values.specs.Stored.{stored, Stored}
use Rattle.lane_values.specs.Valued.{Counted, WeighedWithin, lane_value}
use Rattle.lane_values.specs.Places.{bit_value, Entries}
use Rattle.lane_values.proofs.Bits.{some_lanes, variable_of}

-- ---- entry k of a part that begins at L a, in its lane
lane_entry : (L a k : ℕ) → L * (a + k / L) + k % L ≡ L * a + k
lane_entry L a k = omega (arith, div-add-mod k L)

pub lane_of : (L v l : ℕ) → l < L → ((L * v + l) / L ≡ v) × ((L * v + l) % L ≡ l)
lane_of L v l h =
    let some : 0 < L = omega arith in
    (omega (arith, mul-add-div some v l, div-eq_of_lt h), mul-add-mod_self_left L v l ∙ mod-eq_of_lt h)

-- entries of one place are the same entry of a lane
same_lane_entry : (L j i l m : ℕ) → l < L → m < L → L * j + l ≡ L * i + m → j ≡ i
same_lane_entry L j i l m h k e =
    let s : j < suc i = lt_of_mul-lt-mul_left L (omega arith) in
    let t : i < suc j = lt_of_mul-lt-mul_left L (omega arith) in
    omega arith

-- what was stored in the parts that begin at `off` in each lane, for the variables from a to b
module _ {m : ℕ} {parts : List ℕ} {f : ℕ → ℤ} {L from to : ℕ} (a b : ℕ) {w w' : List ℤ} (off : ℕ → ℕ)
    (places : (q : ℕ) → q < m → get_or parts q 0 ≡ L * off q) (first : from ≡ L * a) (last : to ≡ L * b) (s : Stored m parts f from to w w')
    (l : ℕ) (h : l < L) where
  pub lane_new : (q v : ℕ) → q < m → a ≤ v → v < b → in_lane L w' l (off q + v) ≡ stored f q (L * v + l)
  lane_new q v hq ha hb =
      let e : L * (off q + v) + l ≡ get_or parts q 0 + (L * v + l) = omega (arith, places q hq) in
      ap (at w') e ∙ s.new q (L * v + l) hq (omega (arith, mul-le-mul_left L ha)) (omega (arith, mul-le-mul_left L hb))

  pub lane_old : (j : ℕ) → ((q v : ℕ) → q < m → a ≤ v → v < b → j ≡ off q + v → ⊥) → in_lane L w' l j ≡ in_lane L w l j
  lane_old j out =
      s.old (L * j + l) (λ q k hq hf ht e.
      let u = variable_of {v = a} {e = b} (omega arith) (omega arith) (omega arith) in
      out q (k / L) hq u.0 u.1
      (same_lane_entry L j (off q + k / L) l (k % L) h (mod-lt k (omega arith)) (e ∙ ap (λ (n : ℕ). n + k) (places q hq) ∙ sym (lane_entry L (off q) k))))

-- ---- the numbers of entry k
module _ (p : Plan) (w : List ℤ) (k : ℕ) where
  abbrev variable : ℕ
  variable = k / p.lanes

  abbrev lane : ℕ
  lane = k % p.lanes

  pub low_is : (n : ℕ) → low_part p n w lane variable ≡ at w (p.lanes * sums_at p n + k)
  low_is n = ap (at w) (lane_entry p.lanes (sums_at p n) k)

  module _ (bit : variable < p.bits) where
    high_is : (n : ℕ) → high_part p n w lane variable ≡ at w (p.lanes * sums_at p n + p.lanes * p.variables + k)
    high_is n =
        let L = p.lanes in
        let e : L * (sums_at p n + (p.variables + variable)) + lane ≡ L * sums_at p n + L * p.variables + k = omega (arith, div-add-mod k L) in
        rw (lt-ltb variable p.bits bit) (ap (at w) e)

    weighed_is : lane_weighed p w lane variable ≡ at w (p.lanes * weighed_at p + k)
    weighed_is = rw (lt-ltb variable p.bits bit) (ap (at w) (lane_entry p.lanes (weighed_at p) k))

    pub bit_value_is : (counts : List ℕ) (A i : ℕ) → bit_value p counts A i w k ≡ lane_value p counts A i w lane variable +ℤ pos unit
    bit_value_is counts A i = rw (low_is i, high_is i, weighed_is)

-- an auxiliary's, in two triples
pub auxiliary_value_is : {p : Plan} {counts : List ℕ} → Counted p counts → (w : List ℤ) (A i l v : ℕ) → p.bits ≤ v → v < p.variables
    → quotient (neg_ℤ (pos 256 *ℤ low_part p i w l v)) (divisor (4 * 2) A) ≡ lane_value p counts A i w l v
auxiliary_value_is {p} {counts} c w A i l v h k =
    rw (le-ltb v p.bits h, c.auxiliaries v h k, +ℤ_idr (low_part p i w l v), +ℤ_idr (pos 256 *ℤ low_part p i w l v))

-- ---- what is known of all lanes, of the entries
both_lists : (P : ℕ → Type 0) (i : ℕ) → i ≤ 1 → P 0 → P 1 → P i × P (1 - i)
both_lists P zero h a b = (a, b)
both_lists P (suc zero) h a b = (b, a)
both_lists P (suc (suc i)) h a b = absurd (omega arith)

module _ {p : Plan} {counts : List ℕ} {w : List ℤ} (i : ℕ) (f : Fits p w) (list : i ≤ 1) (counted : Counted p counts)
    (given : (l : ℕ) → l < p.lanes → SumsKept p counts 0 w l × SumsKept p counts 1 w l × WeighedWithin p w l) where
  kept : (l : ℕ) → l < p.lanes → SumsKept p counts i w l × SumsKept p counts (1 - i) w l
  kept l h = both_lists (λ n. SumsKept p counts n w l) i list (given l h).0 (given l h).1

  pub bit_entries : Entries p counts i w 0 (p.lanes * p.bits)
  bit_entries = λ k _ m.
      let v = k / p.lanes in
      let l = k % p.lanes in
      let h = mod-lt k (some_lanes f) in
      let bit = (variable_of {v = 0} (some_lanes f) (omega arith) m).1 in
      let below : v < p.variables = omega (arith, f.bits) in
      record {
        kept = rw (low_is p w k i, high_is p w k bit i) at ((kept l h).0 v below);
        within = rw (weighed_is p w k bit) at ((given l h).2 v);
        clear = λ n. sym (high_is p w k bit (1 - i)) ∙ (((kept l h).1 v below).narrow n).1;
      }

  pub auxiliary_within : (k : ℕ) → p.lanes * p.bits ≤ k → k < p.lanes * p.variables → nat_abs (at w (p.lanes * sums_at p i + k)) ≤ 2 ^ 31 - 2 ^ 24
  auxiliary_within k l m =
      let v = k / p.lanes in
      let u = variable_of {v = p.bits} (some_lanes f) l m in
      let two = counted.auxiliaries v u.0 u.1 in
      let n = (((kept (k % p.lanes) (mod-lt k (some_lanes f))).0 v u.1).narrow (omega arith)).0 in
      rw (← low_is p w k i) (omega arith)
