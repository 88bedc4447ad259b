-- The fours of lanes in which a frame runs. Assumes nothing.
use Rattle.integers.proofs.Prelude.{◌≡◌, refl, Bool, true, false, cond, ◌||◌, List, ℕ, zero, suc, ◌+◌, ◌-◌, ◌≤◌, ◌<◌, arith, dec_lt}
use mathlib.Core.Logic.{◌⊎◌, inl, inr}
use Rattle.lanes.specs.declared.Plan.{Plan}
use Rattle.lane_triples.specs.Walk.{Halves}
use Rattle.lane_step.specs.Step.{runs, some_run}

-- ---- one of four
or_right : (a b : Bool) → b ≡ true → (a || b) ≡ true
or_right true b h = refl
or_right false b h = h

one : (f : ℕ → Bool) (k : ℕ) → k < 4 → f k ≡ true → (f 0 || (f 1 || (f 2 || f 3))) ≡ true
one f zero h r = rw r refl
one f (suc zero) h r = or_right (f 0) (f 1 || (f 2 || f 3)) (rw r refl)
one f (suc (suc zero)) h r = or_right (f 0) (f 1 || (f 2 || f 3)) (or_right (f 1) (f 2 || f 3) (rw r refl))
one f (suc (suc (suc zero))) h r = or_right (f 0) (f 1 || (f 2 || f 3)) (or_right (f 1) (f 2 || f 3) (or_right (f 2) (f 3) r))
one f (suc (suc (suc (suc k)))) h r = absurd (omega arith)

or_of : (a b : Bool) → (a || b) ≡ true → (a ≡ true) ⊎ (b ≡ true)
or_of true b h = inl refl
or_of false b h = inr h

one_of : (f : ℕ → Bool) → (f 0 || (f 1 || (f 2 || f 3))) ≡ true → (k : ℕ) × (k < 4) × (f k ≡ true)
one_of f h = by (or_of (f 0) (f 1 || (f 2 || f 3)) h)
  where
    last : (f 2 ≡ true) ⊎ (f 3 ≡ true) → (k : ℕ) × (k < 4) × (f k ≡ true)
    last (inl e) = (2, omega arith, e)
    last (inr e) = (3, omega arith, e)

    then : (f 1 ≡ true) ⊎ ((f 2 || f 3) ≡ true) → (k : ℕ) × (k < 4) × (f k ≡ true)
    then (inl e) = (1, omega arith, e)
    then (inr e) = last (or_of (f 2) (f 3) e)

    by : (f 0 ≡ true) ⊎ ((f 1 || (f 2 || f 3)) ≡ true) → (k : ℕ) × (k < 4) × (f k ≡ true)
    by (inl e) = (0, omega arith, e)
    by (inr e) = then (or_of (f 1) (f 2 || f 3) e)

-- ---- from the first four in which a frame runs to the last
module _ (p : Plan) (m : List Bool) (lanes : (p.lanes ≡ 4) ⊎ (p.lanes ≡ 8)) (below : (f : ℕ) → runs m f ≡ true → f < p.lanes) where
  abbrev from : ℕ
  from = cond (some_run m 0) 0 4

  abbrev to : ℕ
  to = cond (some_run m 4) 8 4

  most : p.lanes ≤ 8
  most = by lanes
    where
      by : (p.lanes ≡ 4) ⊎ (p.lanes ≡ 8) → p.lanes ≤ 8
      by (inl e) = omega arith
      by (inr e) = omega arith

  -- a frame that runs is between them
  pub first_runs : (f : ℕ) → runs m f ≡ true → from ≤ f
  first_runs f r = by (dec_lt f 4)
    where
      by : Dec (f < 4) → from ≤ f
      by (yes h) = rw (one (runs m) f h r) (omega arith)
      by (no h) = up_to (some_run m 0)
        where
          up_to : (b : Bool) → cond b 0 4 ≤ f
          up_to true = omega arith
          up_to false = omega arith

  pub last_runs : (f : ℕ) → runs m f ≡ true → f < to
  last_runs f r = by (dec_lt f 4)
    where
      by : Dec (f < 4) → f < to
      by (yes h) = up_to (some_run m 4)
        where
          up_to : (b : Bool) → f < cond b 8 4
          up_to true = omega arith
          up_to false = omega arith
      by (no h) =
          let e : 4 + (f - 4) ≡ f = omega arith in
          let o = one (λ k. runs m (4 + k)) (f - 4) (omega (arith, below f r, most)) (rw e r) in
          rw o (omega (arith, below f r, most))

  -- so they are halves, where one runs
  pub halves : (f : ℕ) → runs m f ≡ true → Halves p from to
  halves f r = record {
    first = either (some_run m 0);
    last = other (some_run m 4);
    some = omega (arith, first_runs f r, last_runs f r);
    room = room (some_run m 4) refl;
  }
    where
      either : (b : Bool) → (cond {A = ℕ} b 0 4 ≡ 0) ⊎ (cond {A = ℕ} b 0 4 ≡ 4)
      either true = inl refl
      either false = inr refl

      other : (b : Bool) → (cond {A = ℕ} b 8 4 ≡ 4) ⊎ (cond {A = ℕ} b 8 4 ≡ 8)
      other true = inr refl
      other false = inl refl

      eight : (p.lanes ≡ 4) ⊎ (p.lanes ≡ 8) → 4 < p.lanes → 8 ≤ p.lanes
      eight (inl e) h = absurd (omega arith)
      eight (inr e) h = omega arith

      four : (p.lanes ≡ 4) ⊎ (p.lanes ≡ 8) → 4 ≤ p.lanes
      four (inl e) = omega arith
      four (inr e) = omega arith

      room : (b : Bool) → some_run m 4 ≡ b → cond b 8 4 ≤ p.lanes
      room true h = let k = one_of (λ k. runs m (4 + k)) h in eight lanes (omega (arith, below (4 + k.0) k.2))
      room false h = four lanes
