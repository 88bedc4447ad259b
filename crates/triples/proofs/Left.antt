-- The checks of a sound code one after another: those that are left, with the first auxiliary of the first of them. Assumes nothing.
use Rattle.integers.proofs.Prelude.{◌≡◌, List, ◌∷◌, ℕ, ◌+◌, ◌≤◌, arith}
use Rattle.lists.specs.Entries.{total}
use Rattle.model.specs.Limits.{most_variables}
use Rattle.model.specs.Code.{Code, turns, variables}
use Rattle.model.specs.Sound.{Sound, SoundCheck, SoundChecks}
use Rattle.model.proofs.Sound.{rising_more, variables_most}

-- `next` is the first auxiliary of the checks that are left
pub record Left (k : Code) (left : List (List ℕ)) (next : ℕ) : Type 0 where
  pub low : k.bits ≤ next
  pub sound : SoundChecks k.bits left
  pub last : next + total turns left ≡ variables k

pub all_left : (k : Code) → Sound k → Left k k.checks k.bits
all_left k s = record { low = omega arith; sound = s.checks; last = omega arith }

module _ (k : Code) (s : Sound k) (check : List ℕ) (left : List (List ℕ)) (next : ℕ) (l : Left k (check ∷ left) next) where
  pub next_most : next ≤ most_variables
  next_most = omega (arith, l.last, variables_most k s, s.bits_most, s.triples_most)

  pub check_sound : SoundCheck next check
  check_sound = let c = l.sound.0 in record { least = c.least; most = c.most; rising = rising_more k.bits next 0 check l.low c.rising }

  pub auxiliaries_below : next + turns check ≤ variables k
  auxiliaries_below = omega (arith, l.last)

  pub one_less : Left k left (next + turns check)
  one_less = record { low = omega (arith, l.low); sound = l.sound.1; last = omega (arith, l.last) }
