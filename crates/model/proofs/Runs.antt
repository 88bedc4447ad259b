-- How a run goes on, and whether it settles. Assumes nothing.
use Rattle.integers.proofs.Prelude.{◌≡◌, refl, ap₂, Bool, true, false, ◌&&◌, List, ℕ, suc, ◌*◌, ◌≤◌, arith, leb, leb-true, leb-false, lt-leb, ℤ}
use mathlib.Core.Bool.{and-false}
use Rattle.integers.specs.Sum.{sum_ℕ}
use Rattle.integers.proofs.Sums.{sum_ℕ_fours}
use Rattle.model.specs.declared.Settings.{Settings}
use Rattle.model.specs.Causes.{◌if◌}
use Rattle.model.specs.Splitting.{System}
use Rattle.model.specs.Iteration.{at, slack, multiplier, State, iterate}
use Rattle.model.specs.Run.{square_of_change, changes, settled_by, stop, run_from}

module _ (div : ℤ → ℤ → ℤ) (g : System) (o : Settings) (costs : List ℤ) (more k : ℕ) (a : State) where
  pub stops : (n : ℕ) → stop g o a (iterate div g o costs a) ≡ suc n
      → run_from div g o costs (suc more) k a ≡ record { k = suc k; settled = suc n; last = iterate div g o costs a }
  unfolding run_from
  stops n e = rw (e, run_from)

  pub goes_on : stop g o a (iterate div g o costs a) ≡ 0
      → run_from div g o costs (suc more) k a ≡ run_from div g o costs more (suc k) (iterate div g o costs a)
  unfolding run_from
  goes_on e = rw (e, run_from)

-- ---- the totals
-- a total is over all rows
pub changes_rows : (part : ℤ → ℕ) (T : ℕ) (old new : List ℤ) → changes part T old new ≡ sum_ℕ (4 * T) (λ i. square_of_change (part (at old i)) (part (at new i)))
unfolding changes
changes_rows part T old new = sum_ℕ_fours T (λ i. square_of_change (part (at old i)) (part (at new i)))

-- the answer is that of the totals, also by numbers that are less where one of them exceeds x
pub settled_by_lem : (x T a b : ℕ) (old new : List ℤ) → let A = changes multiplier T old new in let B = changes slack T old new in
    a ≤ A → b ≤ B → (a ≤ x → b ≤ x → (a ≡ A) × (b ≡ B)) → 1 if (leb a x && leb b x) ≡ settled_by x T old new
unfolding settled_by
settled_by_lem x T a b old new h k w = by (leb a x) (leb b x) refl refl
  where
    A : ℕ
    A = changes multiplier T old new

    B : ℕ
    B = changes slack T old new

    by : (p q : Bool) → leb a x ≡ p → leb b x ≡ q → 1 if (leb a x && leb b x) ≡ 1 if (leb A x && leb B x)
    by true true e f = let same = w (leb-true a x e) (leb-true b x f) in ap₂ (λ (u v : ℕ). 1 if (leb u x && leb v x)) same.0 same.1
    by true false e f = rw (e, f, lt-leb B x (omega (arith, leb-false b x f)), and-false (leb A x))
    by false q e f = rw (e, lt-leb A x (omega (arith, leb-false a x e)))
