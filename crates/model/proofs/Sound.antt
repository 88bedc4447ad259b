-- The checks of a sound code, one by one, and its sizes. Assumes nothing.
use Rattle.integers.proofs.Prelude.{◌≡◌, refl, List, [], ◌∷◌, ℕ, zero, suc, ◌+◌, ◌≤◌, ◌<◌, arith, length, get_or}
use Rattle.lists.specs.Entries.{total}
use Rattle.lists.proofs.Entries.{each_at}
use Rattle.model.specs.Code.{Code, turns, triple_count, triples, variables}
use Rattle.model.specs.Sound.{Rising, SoundCheck, SoundChecks, Sound}

-- ---- a rising list
pub rising_below : (n low : ℕ) (l : List ℕ) → Rising n low l → (i : ℕ) → i < length l → get_or l i 0 < n
rising_below n low [] r i h = absurd (omega arith)
rising_below n low (x ∷ l) r zero h = r.1
rising_below n low (x ∷ l) r (suc i) h = rising_below n (suc x) l r.2 i (omega arith)

pub rising_from : (n low : ℕ) (l : List ℕ) → Rising n low l → (i : ℕ) → i < length l → low ≤ get_or l i 0
rising_from n low [] r i h = absurd (omega arith)
rising_from n low (x ∷ l) r zero h = r.0
rising_from n low (x ∷ l) r (suc i) h = omega (arith, rising_from n (suc x) l r.2 i (omega arith), r.0)

pub rising_apart : (n low : ℕ) (l : List ℕ) → Rising n low l → (i j : ℕ) → i < j → j < length l → get_or l i 0 < get_or l j 0
rising_apart n low [] r i j h k = absurd (omega arith)
rising_apart n low (x ∷ l) r i zero h k = absurd (omega arith)
rising_apart n low (x ∷ l) r zero (suc j) h k = rising_from n (suc x) l r.2 j (omega arith)
rising_apart n low (x ∷ l) r (suc i) (suc j) h k = rising_apart n (suc x) l r.2 i j (omega arith) (omega arith)

pub rising_more : (n m low : ℕ) (l : List ℕ) → n ≤ m → Rising n low l → Rising m low l
rising_more n m low [] h r = tt
rising_more n m low (x ∷ l) h r = (r.0, omega (arith, r.1), rising_more n m (suc x) l h r.2)

-- ---- the checks
pub sound_at : (n : ℕ) (l : List (List ℕ)) → SoundChecks n l → (j : ℕ) → j < length l → SoundCheck n (get_or l j [])
sound_at n l s = each_at (SoundCheck n) l [] s

-- ---- the sizes: a check has one triple more than turns
pub turns_triples : (l : List (List ℕ)) → total turns l + length l ≡ total triple_count l
turns_triples [] = refl
turns_triples (c ∷ l) = omega (arith, turns_triples l)

pub variables_most : (k : Code) → Sound k → variables k < k.bits + triples k
variables_most k s = omega (arith, turns_triples k.checks, s.checks_least)
