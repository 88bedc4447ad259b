-- The first entry that passes a test, as a search of a list answers it. Assumes nothing.
use Rattle.std.specs.List.{position_or_len}
use Rattle.integers.proofs.Prelude.{◌≡◌, refl, sym, subst, Bool, true, false, cond, List, [], ◌∷◌, ℕ, ◌≤◌, ◌<◌, arith, ltb, ltb-true, ltb-false, length, get_or}
use Rattle.std.proofs.Common.{Option, None, Some}
use Rattle.lists.specs.Entries.{first}
use Rattle.lists.proofs.Entries.{each_at}
use Rattle.model.specs.Code.{Code}
use Rattle.model.specs.Sound.{Sound, SoundCheck}
use Rattle.model.specs.Splitting.{Named}
use Rattle.model.specs.Words.{odd, first_odd}
use Rattle.model.proofs.Sound.{rising_below}
use Rattle.codeword.specs.Found.{Finds}

module _ {A : Type 0} (test : A → Bool) where
  first_place : (l : List A) (d : A) → first (length l) (λ j. test (get_or l j d)) ≡ position_or_len test l
  first_place [] d = refl
  first_place (x ∷ l) d = by (test x) refl (first_place l d)
    where
      by : (t : Bool) → test x ≡ t → first (length l) (λ j. test (get_or l j d)) ≡ position_or_len test l
          → first (length (x ∷ l)) (λ j. test (get_or (x ∷ l) j d)) ≡ position_or_len test (x ∷ l)
      by true e h = rw e refl
      by false e h = rw (e, h) (omega arith)

  place_most : (l : List A) → position_or_len test l ≤ length l
  place_most [] = omega arith
  place_most (x ∷ l) = by (test x) refl (place_most l)
    where
      by : (t : Bool) → test x ≡ t → position_or_len test l ≤ length l → position_or_len test (x ∷ l) ≤ length (x ∷ l)
      by true e h = rw e (omega arith)
      by false e h = rw e (omega (arith, h))

finds : (answer : Option ℕ) (i n : ℕ) → i ≤ n → answer ≡ cond (ltb i n) (Some i) None → Finds answer i n
finds answer i n h e = by (ltb i n) refl
  where
    by : (t : Bool) → ltb i n ≡ t → Finds answer i n
    by true b = rw (e, b) (refl, ltb-true i n b)
    by false b = rw (e, b) (omega (arith, ltb-false i n b, h))

-- what `position` answers
pub finds_first : {A : Type 0} (test : A → Bool) (l : List A) (d : A) (answer : Option ℕ)
    → answer ≡ cond (ltb (position_or_len test l) (length l)) (Some (position_or_len test l)) None
    → Finds answer (first (length l) (λ j. test (get_or l j d))) (length l)
finds_first test l d answer e = rw (first_place test l d) (finds answer (position_or_len test l) (length l) (place_most test l) e)

pub finds_odd : (k : Code) (w : List ℕ) (answer : Option ℕ)
    → answer ≡ cond (ltb (position_or_len (odd w) k.checks) (length k.checks)) (Some (position_or_len (odd w) k.checks)) None
    → Finds answer (first_odd k w) (length k.checks)
unfolding first_odd
finds_odd k w answer e = finds_first (odd w) k.checks [] answer e

-- the bits of a check have an entry in a word
pub named : (k : Code) → Sound k → (w : List ℕ) → k.bits ≤ length w → (check : List ℕ) (j : ℕ) → j < length k.checks → check ≡ get_or k.checks j check
    → Named check (length w)
named k s w long check j h e i l =
    let sound = subst (SoundCheck k.bits) (sym e) (each_at (SoundCheck k.bits) k.checks check s.checks j h) in
    omega (arith, rising_below k.bits 0 check sound.rising i l, long)
