-- The lists of a step, as one call after the other makes them. Assumes nothing.
use Rattle.integers.proofs.Prelude.{◌≡◌, ap, ◌∙◌, false, cond, List, [], ℕ, suc, ◌+◌, ◌<◌, ℤ, get_or}
use Rattle.lists.specs.Tabulated.{tab}
use Rattle.lists.proofs.Tabulated.{get_or_tab}
use Rattle.lane_triples.specs.Step.{given, MayGive, with_rows, new_row, new_shares, MayRenew, Places, values_in, shares_in, after, MayStep}

module _ (L : ℕ) (w : List ℤ) (s : Places) where
  -- with the values that were loaded
  module _ {a b c : List ℤ} (p : a ≡ values_in L w s 0) (q : b ≡ values_in L w s 1) (r : c ≡ values_in L w s 2) where
    pub may_renew : MayStep L w s → MayRenew L w s.rows a b c
    may_renew may = rw (p, q, r) may.renew

    pub rows_put : {w' : List ℤ} → w' ≡ with_rows L w s.rows (new_row L w s.rows a b c) → w' ≡ after L w s 0
    unfolding after
    rows_put e = rw (p, q, r) at e

    pub share_is : {x : List (List ℤ)} → x ≡ tab 3 (new_shares L w s.rows a b c) → (n : ℕ) → n < 3 → get_or x n [] ≡ shares_in L w s n
    share_is e n l = ap (λ (x : List (List ℤ)). get_or x n []) (rw (p, q, r) at e) ∙ get_or_tab 3 (shares_in L w s) n [] l

  -- place n comes next
  module _ (n : ℕ) {w' x : List ℤ} (now : w' ≡ after L w s n) (is : x ≡ shares_in L w s n) where
    pub may_give : n < 3 → s.none n ≡ false → MayStep L w s → MayGive (s.wide n) w' (s.sum n) (s.sum n + s.apart) x
    may_give l some may = rw (now, is) (may.give n l some)

    pub place_put : {w'' : List ℤ} → w'' ≡ cond (s.none n) w' (given (s.wide n) w' (s.sum n) (s.sum n + s.apart) x) → w'' ≡ after L w s (suc n)
    unfolding after
    place_put e = rw (now, is) at e
