-- The judgement of several indices, one after another. Assumes nothing.
use Rattle.integers.proofs.Prelude.{◌≡◌, refl, List, [], ◌∷◌, ◌++◌, ℕ, suc, ◌+◌, ◌-◌, ◌≤◌, ◌<◌, arith, length, drop}
use Rattle.model.specs.Causes.{first_of}
use Rattle.model.specs.Records.{two_bytes, index_causes, judge_indices}

-- of those that are left, `done` being judged: the first index decides, or those behind it
module _ (bits degree done low : ℕ) (s : List ℕ) (left : done < degree) where
  first_left : judge_indices bits (degree - done) low s
      ≡ first_of (index_causes bits low s ++ (judge_indices bits (degree - (done + 1)) (two_bytes s + 1) (drop 2 s) ∷ []))
  unfolding judge_indices
  first_left =
      let more : degree - done ≡ suc (degree - (done + 1)) = omega arith in
      let next : suc (two_bytes s) ≡ two_bytes s + 1 = omega arith in
      rw (more, next) refl

  pub index_cut : length s < 2 → judge_indices bits (degree - done) low s ≡ 1
  index_cut cut = rw first_left (grind arith)

  pub index_above : 2 ≤ length s → bits ≤ two_bytes s → judge_indices bits (degree - done) low s ≡ 5
  index_above whole above = rw first_left (grind arith)

  pub index_low : 2 ≤ length s → two_bytes s < bits → two_bytes s < low → judge_indices bits (degree - done) low s ≡ 6
  index_low whole below falls = rw first_left (grind arith)

  pub index_passed : 2 ≤ length s → two_bytes s < bits → low ≤ two_bytes s
      → judge_indices bits (degree - done) low s ≡ judge_indices bits (degree - (done + 1)) (two_bytes s + 1) (drop 2 s)
  index_passed whole below rises = rw first_left (grind arith)

pub none_left : (bits degree done low : ℕ) (s : List ℕ) → degree ≤ done → judge_indices bits (degree - done) low s ≡ 0
unfolding judge_indices
none_left bits degree done low s over = let none : degree - done ≡ 0 = omega arith in rw none refl

pub ruleset one_index = (index_cut, index_above, index_low, index_passed, none_left)
