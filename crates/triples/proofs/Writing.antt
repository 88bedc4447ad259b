-- The triples of check after check, written to a lent list. Assumes nothing.
use Rattle.integers.proofs.Prelude.{◌≡◌, refl, sym, ap, ◌∙◌, List, [], ◌∷◌, ◌++◌, append_assoc, append-nil, ℕ, ◌+◌, ◌-◌, ◌*◌, ◌≤◌, arith, length, take, drop, length-append}
use Rattle.lists.specs.Tabulated.{written}
use Rattle.lists.proofs.Tabulated.{length_written}
use Rattle.lists.proofs.Parts.{written_more}
use Rattle.model.specs.Code.{Code, turns, triple_count}
use Rattle.model.specs.Sound.{Sound}
use Rattle.model.specs.Splitting.{triples_of, triples_from, system_of}
use Rattle.model.proofs.TripleRule.{triples_of_long, members_long}
use Rattle.triples.proofs.Left.{Left, all_left, one_less}

-- of the list that was old `done` entries are written, and with those of the checks that are left they are the code's
pub record Written (k : Code) (old : List ℕ) (left : List (List ℕ)) (next done : ℕ) (now : List ℕ) : Type 0 where
  pub left_to_do : Left k left next
  pub entries : List ℕ
  pub whole : entries ++ triples_from left next ≡ (system_of k).members
  pub long : done ≡ length entries
  pub filled : now ≡ written entries old

module _ (k : Code) (s : Sound k) (old : List ℕ) (fits : 3 * (system_of k).triples ≤ length old) where
  pub none_written : Written k old k.checks k.bits 0 old
  unfolding system_of
  none_written = record { left_to_do = all_left k s; entries = []; whole = refl; long = refl; filled = refl }

  pub all_written : (next done : ℕ) (now : List ℕ) → Written k old [] next done now → now ≡ written (system_of k).members old
  unfolding triples_from
  all_written next done now w = rw (← w.whole, append-nil w.entries) w.filled

  module _ (left : List (List ℕ)) (next done : ℕ) (now : List ℕ) (w : Written k old left next done now) where
    pub length_now : length now ≡ length old
    unfolding system_of
    length_now =
        ap length w.filled
        ∙ length_written w.entries old (omega (arith, length-append w.entries (triples_from left next), ap length w.whole, members_long k s))

  module _ (check : List ℕ) (left : List (List ℕ)) (next done : ℕ) (now : List ℕ) (w : Written k old (check ∷ left) next done now) where
    long_check : length (triples_of check next) ≡ 3 * triple_count check
    long_check = triples_of_long check next w.left_to_do.sound.0.least

    whole_now : (w.entries ++ triples_of check next) ++ triples_from left (next + turns check) ≡ (system_of k).members
    unfolding triples_from
    whole_now = append_assoc w.entries (triples_of check next) (triples_from left (next + turns check)) ∙ w.whole

    long_now : length (w.entries ++ triples_of check next) ≡ done + 3 * triple_count check
    long_now = length-append w.entries (triples_of check next) ∙ omega (arith, long_check, w.long)

    pub room_left : done + 3 * triple_count check ≤ length old
    unfolding system_of
    room_left =
        omega (arith, fits, members_long k s, ap length whole_now, long_now, length-append (w.entries ++ triples_of check next) (triples_from left (next + turns check)))

    pub check_written : (part : List ℕ) → part ≡ written (triples_of check next) (drop done now)
        → Written k old left (next + turns check) (done + 3 * triple_count check) (take done now ++ (part ++ drop (length now - done) (drop done now)))
    check_written part e = record {
      left_to_do = one_less k s check left next w.left_to_do;
      entries = w.entries ++ triples_of check next;
      whole = whole_now;
      long = sym long_now;
      filled = rw w.long (written_more w.entries (triples_of check next) part old now w.filled (rw w.long at e));
    }
