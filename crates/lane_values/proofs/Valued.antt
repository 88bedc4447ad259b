-- All lanes after the bits, from w to w₁, and then the auxiliaries, from w₁ to w₂. Assumes nothing.
use Rattle.integers.proofs.Prelude.{◌≡◌, refl, sym, ap, ap₂, ◌∙◌, Bool, true, false, List, [], ◌∷◌, ℕ, zero, suc, ◌+◌, ◌-◌, ◌*◌, ◌/◌, ◌%◌, ◌≤◌, ◌<◌, arith}
use Rattle.integers.proofs.Prelude.{ltb-true, ltb-false, ltb, ℤ, pos, nat_abs, neg_ℤ, ◌+ℤ◌, ◌*ℤ◌, length, get_or}
use native.Mathlib.Nat.{mod-lt}
use Rattle.quotient.specs.Quotient.{unit, quotient}
use Rattle.model.specs.Iteration.{at, divisor}
use Rattle.lanes.specs.declared.Plan.{Plan}
use Rattle.lanes.specs.Lanes.{in_lane, values_at, sums_at, weighed_at, low_part, Fits}
use Rattle.lane_values.specs.Stored.{Parts, Stored}
use Rattle.lane_values.specs.Valued.{Counted, lane_value, LaneValued}
use Rattle.lane_values.specs.Places.{bit_parts, auxiliary_parts, auxiliary_value, bit_value}
use Rattle.lane_values.proofs.Bits.{some_lanes, variable_of}
use Rattle.lane_values.proofs.Lanes.{lane_of, lane_new, lane_old, low_is, bit_value_is, auxiliary_value_is}

-- ---- where the parts begin
-- in a lane: those of c and of the sums that come next, low and high
abbrev begins : Plan → ℕ → ℕ → ℕ
begins p i q = get_or (values_at p ∷ sums_at p (1 - i) ∷ (sums_at p (1 - i) + p.variables) ∷ []) q 0

bit_places : (p : Plan) (i q : ℕ) → q < 3 → get_or (bit_parts p i) q 0 ≡ p.lanes * begins p i q
bit_places p i zero h = refl
bit_places p i (suc zero) h = refl
bit_places p i (suc (suc zero)) h = omega arith
bit_places p i (suc (suc (suc q))) h = absurd (omega arith)

auxiliary_places : (p : Plan) (i q : ℕ) → q < 2 → get_or (auxiliary_parts p i) q 0 ≡ p.lanes * begins p i q
auxiliary_places p i zero h = refl
auxiliary_places p i (suc zero) h = refl
auxiliary_places p i (suc (suc q)) h = absurd (omega arith)

auxiliary_parts_lem : {p : Plan} {w : List ℤ} → Fits p w → (i : ℕ) → i ≤ 1 → Parts (p.lanes * p.variables) (length w) (auxiliary_parts p i)
auxiliary_parts_lem f zero h = record { ends = omega (arith, f.long); apart = omega arith }
auxiliary_parts_lem f (suc zero) h = record { ends = omega (arith, f.long); apart = omega arith }
auxiliary_parts_lem f (suc (suc i)) h = absurd (omega arith)

-- the lists of sums have no entry in common, nor have they one with W × L
module _ (p : Plan) where
  lists_apart : (i : ℕ) → i ≤ 1 → (j u : ℕ) → j < p.variables + p.bits → u < p.variables + p.bits → sums_at p i + j ≡ sums_at p (1 - i) + u → ⊥
  lists_apart zero h j u k m e = omega arith
  lists_apart (suc zero) h j u k m e = omega arith
  lists_apart (suc (suc i)) h j u k m e = omega arith

  weighed_apart : (i : ℕ) → i ≤ 1 → (b u : ℕ) → u < p.variables + p.bits → weighed_at p + b ≡ sums_at p (1 - i) + u → ⊥
  weighed_apart zero h b u k e = omega arith
  weighed_apart (suc zero) h b u k e = omega arith
  weighed_apart (suc (suc i)) h b u k e = omega arith

-- ---- what the bits leave
module _ {p : Plan} (counts : List ℕ) (A : ℕ) {i : ℕ} {w w₁ : List ℤ} (f : Fits p w) (list : i ≤ 1)
    (bits : Stored 3 (bit_parts p i) (bit_value p counts A i w) 0 (p.lanes * p.bits) w w₁) where
  bits_leave : (l : ℕ) → l < p.lanes → (j : ℕ) → ((v : ℕ) → v < p.bits → j ≡ values_at p + v → ⊥)
      → ((u : ℕ) → u < p.variables + p.bits → j ≡ sums_at p (1 - i) + u → ⊥) → in_lane p.lanes w₁ l j ≡ in_lane p.lanes w l j
  bits_leave l h j x y = lane_old 0 p.bits (begins p i) (bit_places p i) (omega arith) refl bits l h j out
    where
      out : (q v : ℕ) → q < 3 → 0 ≤ v → v < p.bits → j ≡ begins p i q + v → ⊥
      out zero v hq _ k e = x v k e
      out (suc zero) v hq _ k e = y v (omega arith) e
      out (suc (suc zero)) v hq _ k e = y (p.variables + v) (omega arith) (omega arith)
      out (suc (suc (suc q))) v hq _ k e = omega arith

  -- the sums that are read
  sum_left : (l : ℕ) → l < p.lanes → (v : ℕ) → v < p.variables → low_part p i w₁ l v ≡ low_part p i w l v
  sum_left l h v k = bits_leave l h (sums_at p i + v) (λ u n e. omega (arith, f.bits)) (λ u n e. lists_apart p i list v u (omega arith) n e)

  pub sums_left : (n k : ℕ) → k < p.lanes * p.variables → nat_abs (at w (p.lanes * sums_at p i + k)) ≤ n
      → nat_abs (at w₁ (p.lanes * sums_at p i + k)) ≤ n
  sums_left n k m t =
      let some = some_lanes f in
      let e = sum_left (k % p.lanes) (mod-lt k some) (k / p.lanes) (variable_of {v = 0} some (omega arith) m).1 in
      rw (sym (low_is p w₁ k i) ∙ e ∙ low_is p w k i) t

module _ {p : Plan} {counts : List ℕ} (A : ℕ) {i : ℕ} {w w₁ w₂ : List ℤ} (f : Fits p w) (list : i ≤ 1) (counted : Counted p counts)
    (bits : Stored 3 (bit_parts p i) (bit_value p counts A i w) 0 (p.lanes * p.bits) w w₁)
    (others : let f = auxiliary_value w₁ (p.lanes * sums_at p i) (divisor (4 * 2) A) in
    Stored 2 (auxiliary_parts p i) f (p.lanes * p.bits) (p.lanes * p.variables) w₁ w₂) (l : ℕ) (h : l < p.lanes) where
  -- ---- what stays
  others_leave : (j : ℕ) → ((v : ℕ) → p.bits ≤ v → v < p.variables → j ≡ values_at p + v → ⊥)
      → ((v : ℕ) → p.bits ≤ v → v < p.variables → j ≡ sums_at p (1 - i) + v → ⊥) → in_lane p.lanes w₂ l j ≡ in_lane p.lanes w₁ l j
  others_leave j x y = lane_old p.bits p.variables (begins p i) (auxiliary_places p i) refl refl others l h j out
    where
      out : (q v : ℕ) → q < 2 → p.bits ≤ v → v < p.variables → j ≡ begins p i q + v → ⊥
      out zero v hq m k e = x v m k e
      out (suc zero) v hq m k e = y v m k e
      out (suc (suc q)) v hq m k e = omega arith

  both_leave : (j : ℕ) → ((v : ℕ) → v < p.variables → j ≡ values_at p + v → ⊥) → ((u : ℕ) → u < p.variables + p.bits → j ≡ sums_at p (1 - i) + u → ⊥)
      → in_lane p.lanes w₂ l j ≡ in_lane p.lanes w l j
  both_leave j x y =
      others_leave j (λ v _ k. x v k) (λ v _ k. y v (omega arith)) ∙ bits_leave counts A f list bits l h j (λ v k. x v (omega (arith, f.bits))) y

  -- ---- c
  bit_written : (v : ℕ) → v < p.bits → in_lane p.lanes w₂ l (values_at p + v) ≡ lane_value p counts A i w l v +ℤ pos unit
  bit_written v k =
      let o = lane_of p.lanes v l h in
      others_leave (values_at p + v) (λ u m n e. omega arith) (λ u m n e. omega (arith, f.bits))
      ∙ lane_new 0 p.bits (begins p i) (bit_places p i) (omega arith) refl bits l h 0 v (omega arith) (omega arith) k
      ∙ bit_value_is p w (p.lanes * v + l) (omega arith) counts A i ∙ ap₂ (λ (m u : ℕ). lane_value p counts A i w m u +ℤ pos unit) o.1 o.0

  auxiliary_written : (v : ℕ) → p.bits ≤ v → v < p.variables → in_lane p.lanes w₂ l (values_at p + v) ≡ lane_value p counts A i w l v +ℤ pos unit
  auxiliary_written v m k =
      let place : p.lanes * sums_at p i + (p.lanes * v + l) ≡ p.lanes * (sums_at p i + v) + l = omega arith in
      let sum = ap (at w₁) place ∙ sum_left counts A f list bits l h v k in
      lane_new p.bits p.variables (begins p i) (auxiliary_places p i) refl refl others l h 0 v (omega arith) m k
      ∙ ap (λ (z : ℤ). quotient (neg_ℤ (pos 256 *ℤ z)) (divisor (4 * 2) A) +ℤ pos unit) sum
      ∙ ap (λ (z : ℤ). z +ℤ pos unit) (auxiliary_value_is counted w A i l v m k)

  written : (v : ℕ) → v < p.variables → (t : Bool) → ltb v p.bits ≡ t
      → in_lane p.lanes w₂ l (values_at p + v) ≡ lane_value p counts A i w l v +ℤ pos unit
  written v k true e = bit_written v (ltb-true v p.bits e)
  written v k false e = auxiliary_written v (ltb-false v p.bits e) k

  -- ---- the sums that come next
  low_cleared : (j : ℕ) → j < p.bits → in_lane p.lanes w₂ l (sums_at p (1 - i) + j) ≡ pos 0
  low_cleared j k =
      others_leave (sums_at p (1 - i) + j) (λ v m n e. omega arith) (λ v m n e. omega arith)
      ∙ lane_new 0 p.bits (begins p i) (bit_places p i) (omega arith) refl bits l h 1 j (omega arith) (omega arith) k

  high_cleared : (j : ℕ) → p.variables ≤ j → j < p.variables + p.bits → in_lane p.lanes w₂ l (sums_at p (1 - i) + j) ≡ pos 0
  high_cleared j m k =
      let e : sums_at p (1 - i) + j ≡ sums_at p (1 - i) + p.variables + (j - p.variables) = omega arith in
      others_leave (sums_at p (1 - i) + j) (λ v a b c. omega arith) (λ v a b c. omega arith) ∙ ap (in_lane p.lanes w₁ l) e
      ∙ lane_new 0 p.bits (begins p i) (bit_places p i) (omega arith) refl bits l h 2 (j - p.variables) (omega arith) (omega arith) (omega arith)

  cleared : (j : ℕ) → j < p.variables + p.bits → (s t : Bool) → ltb j p.bits ≡ s → ltb j p.variables ≡ t
      → in_lane p.lanes w₂ l (sums_at p (1 - i) + j) ≡ pos 0
  cleared j k true t e d = low_cleared j (ltb-true j p.bits e)
  cleared j k false true e d =
      lane_new p.bits p.variables (begins p i) (auxiliary_places p i) refl refl others l h 1 j (omega arith) (ltb-false j p.bits e)
      (ltb-true j p.variables d)
  cleared j k false false e d = high_cleared j (ltb-false j p.variables d) k

  pub lane_valued : LaneValued p counts A i w w₂ l
  lane_valued =
      record {
        rows = λ j k. both_leave j (λ v m e. omega arith) (λ u m e. omega arith);
        values = λ v k. written v k (ltb v p.bits) refl;
        sums = λ j k. both_leave (sums_at p i + j) (λ v m e. omega arith) (λ u m e. lists_apart p i list j u k m e);
        cleared = λ j k. cleared j k (ltb j p.bits) (ltb j p.variables) refl refl;
        weighed = λ b k. both_leave (weighed_at p + b) (λ v m e. omega arith) (λ u m e. weighed_apart p i list b u m e);
      }

-- ---- the places that the auxiliaries were handed
module _ (p : Plan) (i : ℕ) {w : List ℤ} {values next sums : ℕ} (a : values ≡ p.lanes * values_at p) (b : next ≡ p.lanes * sums_at p (1 - i))
    (c : sums ≡ p.lanes * sums_at p i) where
  pub handed_auxiliaries : Fits p w → i ≤ 1 → {size : ℕ} → size ≡ length w → Parts (p.lanes * p.variables) size (values ∷ next ∷ sums ∷ [])
  handed_auxiliaries f h e = rw (e, a, b, c) (auxiliary_parts_lem f i h)

  pub stored_auxiliaries : (d : ℤ) {from to : ℕ} {w' : List ℤ} → Stored 2 (values ∷ next ∷ sums ∷ []) (auxiliary_value w sums d) from to w w'
      → Stored 2 (auxiliary_parts p i) (auxiliary_value w (p.lanes * sums_at p i) d) from to w w'
  stored_auxiliaries d s = rw (a, b, c) at s
