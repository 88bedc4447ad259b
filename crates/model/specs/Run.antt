-- Document 01, 'One iteration', the stopping rule (003, algorithm 1). Definitions only.
use Rattle.std.specs.Prelude.{◌&&◌, List, ℕ, zero, suc, ◌*◌, leb, ℤ, pos, nat_abs, ◌-ℤ◌, replicate}
use Rattle.integers.specs.Sum.{sum_ℕ}
use Rattle.model.specs.declared.Settings.{Settings}
use Rattle.model.specs.Causes.{◌if◌}
use Rattle.model.specs.Splitting.{System}
use Rattle.model.specs.Iteration.{row, slack, multiplier, State, iterate}

-- ---- the totals
abbrev pub square_of_change : ℕ → ℕ → ℕ
square_of_change a b = let d = nat_abs (pos b -ℤ pos a) in d * d

-- "add up, over all rows, the squares of the changes" of a part of s
unfoldable pub changes : (ℤ → ℕ) → ℕ → List ℤ → List ℤ → ℕ
changes part T old new = sum_ℕ T (λ t. sum_ℕ 4 (λ r. square_of_change (part (row old t r)) (part (row new t r))))

-- "If neither total exceeds X, the run stops, settled": 1, otherwise 0
unfoldable pub settled_by : ℕ → ℕ → List ℤ → List ℤ → ℕ
settled_by X T old new = 1 if (leb (changes multiplier T old new) X && leb (changes slack T old new) X)

-- how the iteration from a to b ends a run: 0 where it goes on, 1 where "the run stops, settled"
abbrev pub stop : System → Settings → State → State → ℕ
stop g o a b = settled_by o.tolerance g.triples a.rows b.rows

-- ---- the run
-- "Each of the four rows keeps one signed number s, at first 0." The first c and S do not matter, and are 0.
unfoldable pub start : System → State
start g = record { sums = replicate g.variables (pos 0); values = replicate g.variables (pos 0); rows = replicate (4 * g.triples) (pos 0) }

-- how a run ended: after how many iterations k, settled or not, and with what
pub record Ended : Type 0 where
  pub k : ℕ
  pub settled : ℕ
  pub last : State

module _ (div : ℤ → ℤ → ℤ) (g : System) (o : Settings) (costs : List ℤ) where
  -- a, after k more iterations
  unfoldable pub after : ℕ → State → State
  after zero a = a
  after (suc k) a = iterate div g o costs (after k a)

  -- the run from a, k iterations being done and at most `more` to come
  unfoldable pub run_from : ℕ → ℕ → State → Ended
  run_from zero k a = record { k = k; settled = 0; last = a }
  run_from (suc more) k a =
      let b = iterate div g o costs a in
      elim (stop g o a b) [
        | zero ↦ run_from more (suc k) b
        | suc settled ↦ record { k = suc k; settled = suc settled; last = b }
      ]

  -- "Otherwise it stops after iteration K, not settled."
  abbrev pub run : Ended
  run = run_from o.limit 0 (start g)
