-- Where the entries of lanes stand in the work list, and what a store to one of them leaves. Assumes nothing.
use Rattle.integers.proofs.Prelude.{◌≡◌, sym, ap, ◌∙◌, List, ℕ, ◌+◌, ◌*◌, ◌/◌, ◌%◌, ◌^◌, ◌≤◌, ◌<◌, arith, ℤ, pos, length, set}
use mathlib.Core.Logic.{◌≢◌, ⊎_elim}
use native.Mathlib.Nat.{mul-le-mul, mul-le-mul_left, mul-le-mul_right, mul-add-div, mul-add-mod_self_left, div-eq_of_lt, mod-eq_of_lt}
use lib.Seq.{get_or-set_same, get_or-set_other}
use Rattle.lanes.specs.declared.Plan.{Plan}
use Rattle.lanes.specs.Lanes.{in_lane, sums_at, weighed_at, lane_size, Fits}

module _ (L : ℕ) where
  -- entry j of lane l is among the first n of all lanes
  pub place_below : (n j l : ℕ) → l < L → j < n → L * j + l < L * n
  place_below n j l h k = omega (arith, mul-le-mul_left L k)

  -- entry v behind entry j of lane l, which stands at i
  pub place_behind : (j l v i : ℕ) → i ≡ L * j + l → i + L * v ≡ L * (j + v) + l
  place_behind j l v i e = omega (arith, e)

  -- its place tells which it is
  pub place_entry : (j l k m : ℕ) → l < L → m < L → L * j + l ≡ L * k + m → j ≡ k
  place_entry j l k m g h e = sym (entry j l g) ∙ ap (λ (i : ℕ). i / L) e ∙ entry k m h
    where
      entry : (j l : ℕ) → l < L → (L * j + l) / L ≡ j
      entry j l h = let z : l / L ≡ 0 = div-eq_of_lt h in mul-add-div (omega arith) j l ∙ rw z (omega arith)

  pub place_lane : (j l k m : ℕ) → l < L → m < L → L * j + l ≡ L * k + m → l ≡ m
  place_lane j l k m g h e = sym (lane j l g) ∙ ap (λ (i : ℕ). i % L) e ∙ lane k m h
    where
      lane : (j l : ℕ) → l < L → (L * j + l) % L ≡ l
      lane j l h = mul-add-mod_self_left L j l ∙ mod-eq_of_lt h

  -- ---- x is stored as entry j of lane l
  module _ (w : List ℤ) (l j : ℕ) (x : ℤ) (h : l < L) where
    pub set_here : L * j + l < length w → in_lane L (set w (L * j + l) x) l j ≡ x
    set_here k = get_or-set_same w (L * j + l) x (pos 0) k

    pub set_entry : (k : ℕ) → k ≢ j → in_lane L (set w (L * j + l) x) l k ≡ in_lane L w l k
    set_entry k d = get_or-set_other w (L * j + l) (L * k + l) x (pos 0) (λ e. d (place_entry k l j l h h e))

    pub set_lane : (m k : ℕ) → m < L → m ≢ l → in_lane L (set w (L * j + l) x) m k ≡ in_lane L w m k
    set_lane m k g d = get_or-set_other w (L * j + l) (L * k + m) x (pos 0) (λ e. d (place_lane k m j l g h e))

-- ---- the parts of a lane: both lists of sums stand before W × L
pub sums_end : (p : Plan) (i : ℕ) → i ≤ 1 → sums_at p i + (p.variables + p.bits) ≤ weighed_at p
sums_end p i h = omega (arith, mul-le-mul_right (p.variables + p.bits) h)

-- ---- a list of lanes
module _ {p : Plan} {w : List ℤ} (f : Fits p w) where
  pub lanes_few : p.lanes ≤ 8
  lanes_few = ⊎_elim (λ e. omega arith) (λ e. omega arith) f.lanes

  pub lane_short : lane_size p ≤ 2 ^ 17
  lane_short = omega (arith, f.triples, f.variables, f.bits)

  pub list_short : length w ≤ 2 ^ 20
  list_short = omega (arith, f.long, mul-le-mul lanes_few lane_short)

  -- the entries j of all lanes begin in it, or at its end
  pub part_in : (j : ℕ) → j ≤ lane_size p → p.lanes * j ≤ length w
  part_in j h = omega (arith, f.long, mul-le-mul_left p.lanes h)

  -- entry j of lane l stands in it
  pub place_in : (l j : ℕ) → l < p.lanes → j < lane_size p → p.lanes * j + l < length w
  place_in l j h k = omega (arith, f.long, place_below p.lanes (lane_size p) j l h k)

  pub behind_in : (j l v i : ℕ) → i ≡ p.lanes * j + l → l < p.lanes → j + v < lane_size p → i + p.lanes * v < length w
  behind_in j l v i e h k = omega (arith, place_behind p.lanes j l v i e, place_in l (j + v) h k)

  -- another list of that length
  pub fits_same : (w' : List ℤ) → length w' ≡ length w → Fits p w'
  fits_same w' e = record { lanes = f.lanes; triples = f.triples; variables = f.variables; bits = f.bits; long = e ∙ f.long }
