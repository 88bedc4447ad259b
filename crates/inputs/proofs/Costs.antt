-- The cost −32,768, which has no negative of 16 bits. Assumes nothing.
use Rattle.integers.proofs.Prelude.{◌≡◌, refl, Bool, true, false, ◌||◌, List, ℕ, ◌+◌, ◌≤◌, ◌<◌, arith, dec_lt, ℤ, pos, nat_abs, length, get_or-eq_default}
use Rattle.lists.proofs.Entries.{below_next}
use Rattle.model.specs.Limits.{most_cost}
use Rattle.model.specs.Iteration.{at}
use Rattle.model.specs.DecoderClaims.{Small}

-- where none was found among the first i costs, those have a negative
pub record SmallBelow (costs : List ℤ) (found : Bool) (i : ℕ) : Type 0 where
  pub below : found ≡ false → (v : ℕ) → v < i → nat_abs (at costs v) ≤ most_cost

pub small_next : (costs : List ℤ) (found here : Bool) (i : ℕ) → SmallBelow costs found i → (here ≡ false → nat_abs (at costs i) ≤ most_cost) → SmallBelow costs (found || here) (i + 1)
small_next costs true here i s h = record { below = λ e. absurd (cc) }
small_next costs false here i s h = record { below = λ e. below_next (λ v. nat_abs (at costs v) ≤ most_cost) i (s.below refl) (h e) }

pub small_end : (costs : List ℤ) (found : Bool) (i : ℕ) → length costs ≤ i → SmallBelow costs found i → found ≡ false → Small costs
small_end costs found i l s e v = by (dec_lt v (length costs))
  where
    by : Dec (v < length costs) → nat_abs (at costs v) ≤ most_cost
    by (yes h) = s.below e v (omega arith)
    by (no h) = let none : at costs v ≡ pos 0 = get_or-eq_default costs (pos 0) (omega arith) in rw none (omega arith)
