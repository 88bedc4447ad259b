-- The divisors of 2 to 8 triples. Assumes nothing.
use Rattle.integers.proofs.Prelude.{◌≡◌, ◌∙◌, ℕ, ◌*◌, ◌≤◌, arith, List, ℤ, pos, ◌≤ℤ◌, length, get_or}
use Rattle.integers.proofs.Linear.{to_ℕ}
use Rattle.quotient.specs.Quotient.{least_narrow, most_narrow}
use Rattle.model.specs.Limits.{most_ratio}
use Rattle.model.specs.Iteration.{divisor}
use Rattle.std.proofs.lemmas.List.{get_or_default}
use Rattle.lane_values.specs.Valued.{NarrowTables}

pub divisor_narrow : (c A : ℕ) → 2 ≤ c → c ≤ 8 → A ≤ most_ratio → (pos least_narrow ≤ℤ divisor (4 * c) A) × (divisor (4 * c) A ≤ℤ pos most_narrow)
divisor_narrow c A h k m = (simp to_ℕ (omega arith), simp to_ℕ (omega arith))

-- the entry that is read for variables in c triples
pub entry_is : (A : ℕ) (l : List ℤ) (n c : ℕ) (x : ℤ) → length l ≡ 9 → n ≡ c → 2 ≤ c → c ≤ 8 → NarrowTables A l → get_or l n x ≡ divisor (4 * c) A
entry_is A l n c x long is least most t = rw is (get_or_default l c x (pos 0) (omega (arith, long)) ∙ t c least most)
