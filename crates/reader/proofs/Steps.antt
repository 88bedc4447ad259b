-- The judgement of check records, one after another: what is left decides. Assumes nothing.
use Rattle.integers.proofs.Prelude.{◌≡◌, refl, List, [], ◌∷◌, ℕ, suc, ◌+◌, ◌-◌, ◌*◌, ◌≤◌, ◌<◌, arith, length}
use Rattle.lists.specs.Entries.{total}
use Rattle.model.specs.Causes.{first_of}
use Rattle.model.specs.Code.{triple_count}
use Rattle.model.specs.Records.{degree, indices, checks_in, after_check, after_checks, judge_check, judge_checks}
use Rattle.model.proofs.Accepted.{record_sound}

-- a record that passed has all its bytes
pub passed_room : (bits : ℕ) (s : List ℕ) → judge_check bits s ≡ 0 → 3 + 2 * degree s ≤ length s
passed_room bits s passed = (record_sound bits s passed).room

pub passed_begun : (bits : ℕ) (s : List ℕ) → judge_check bits s ≡ 0 → 3 ≤ length s
passed_begun bits s passed = omega (arith, passed_room bits s passed)

-- where some are left, `done` being judged
module _ (checks done : ℕ) (s : List ℕ) (left : done < checks) where
  more : checks - done ≡ suc (checks - (done + 1))
  more = omega arith

  module _ (bits : ℕ) where
    first_left : judge_checks bits (checks - done) s ≡ first_of (judge_check bits s ∷ judge_checks bits (checks - (done + 1)) (after_check s) ∷ [])
    unfolding judge_checks
    first_left = rw more refl

    pub check_refused : 0 < judge_check bits s → judge_checks bits (checks - done) s ≡ judge_check bits s
    check_refused refused = rw first_left (grind (arith, refused))

    pub check_passed : judge_check bits s ≡ 0 → judge_checks bits (checks - done) s ≡ judge_checks bits (checks - (done + 1)) (after_check s)
    check_passed passed = rw first_left (grind (arith, passed))

  pub after_more : after_checks (checks - done) s ≡ after_checks (checks - (done + 1)) (after_check s)
  unfolding after_checks
  after_more = rw more refl

  pub triples_more : total triple_count (checks_in (checks - done) s)
      ≡ triple_count (indices s) + total triple_count (checks_in (checks - (done + 1)) (after_check s))
  unfolding checks_in
  triples_more = rw more refl

-- where none is left
module _ (checks done : ℕ) (s : List ℕ) (over : checks ≤ done) where
  none : checks - done ≡ 0
  none = omega arith

  pub judged_none : (bits : ℕ) → judge_checks bits (checks - done) s ≡ 0
  unfolding judge_checks
  judged_none bits = rw none refl

  pub after_none : after_checks (checks - done) s ≡ s
  unfolding after_checks
  after_none = rw none refl

  pub triples_none : total triple_count (checks_in (checks - done) s) ≡ 0
  unfolding checks_in
  triples_none = rw none refl

pub ruleset one_check = (passed_room, passed_begun, check_refused, check_passed, after_more, triples_more, judged_none, after_none, triples_none)
