-- One triple in four lanes side by side: what its renewal stores in the work list w, and what it asks of it. Definitions only.
use Rattle.std.specs.Prelude.{Bool, true, false, cond, List, [], ◌∷◌, ◌≡◌, ℕ, zero, suc, ◌+◌, ◌*◌, ◌^◌, ◌≤◌, ◌<◌, eqb, ltb, ℤ, pos, nat_abs, ◌+ℤ◌, ◌-ℤ◌, ◌*ℤ◌, length, get_or}
use Rattle.std.proofs.lemmas.List.Edits.{sets}
use Rattle.std.specs.Int.Signed.{shr_z}
use Rattle.integers.specs.Sum.{sum_ℤ}
use Rattle.lists.specs.Tabulated.{tab}
use Rattle.quotient.specs.Quotient.{unit}
use Rattle.model.specs.Limits.{most_done, most_slack, most_multiplier, most_row}
use Rattle.model.specs.Splitting.{blank}
use Rattle.model.specs.Iteration.{at, sign, row_sum, slack, multiplier, renewed}
use Rattle.lanes.specs.Lanes.{most_narrow}

-- ---- four numbers are added to four entries, those from i on
unfoldable pub added : List ℤ → ℕ → List ℤ → List ℤ
added w i q = sets w i (tab 4 (λ k. at w (i + k) +ℤ at q k))

pub record MayAdd (w : List ℤ) (i : ℕ) (q : List ℤ) : Type 0 where
  pub room : i + 3 < length w
  pub small : (k : ℕ) → k < 4 → nat_abs (at w (i + k)) + nat_abs (at q k) < 2 ^ 31

-- in two parts, if they are wide: the low ones at i, the high ones at j
abbrev pub highs_of : List ℤ → List ℤ
highs_of x = tab 4 (λ k. shr_z (at x k) (2 ^ 14))

abbrev pub lows_of : List ℤ → List ℤ
lows_of x = tab 4 (λ k. at x k -ℤ pos (2 ^ 14) *ℤ shr_z (at x k) (2 ^ 14))

unfoldable pub given : Bool → List ℤ → ℕ → ℕ → List ℤ → List ℤ
given true w i j x = added (added w i (lows_of x)) j (highs_of x)
given false w i j x = added w i x

pub record MayGive (wide : Bool) (w : List ℤ) (i j : ℕ) (x : List ℤ) : Type 0 where
  pub share : (k : ℕ) → nat_abs (at x k) ≤ 2 * most_row
  pub whole : wide ≡ false → MayAdd w i x
  pub low : wide ≡ true → MayAdd w i (lows_of x)
  pub high : wide ≡ true → MayAdd (added w i (lows_of x)) j (highs_of x)

-- ---- rows, of which the first stand at i and each of the others L further, become f's
unfoldable pub with_rows : ℕ → List ℤ → ℕ → (ℕ → ℕ → ℤ) → List ℤ
with_rows L w i f = sets (sets (sets (sets w i (tab 4 (f 0))) (i + L) (tab 4 (f 1))) (i + 2 * L) (tab 4 (f 2))) (i + 3 * L) (tab 4 (f 3))

-- they are renewed with a, b and c, which are raised by U: what they become, what they then give place p, and what is asked of them
module _ (L : ℕ) (w : List ℤ) (i : ℕ) (a b c : List ℤ) where
  abbrev pub new_row : ℕ → ℕ → ℤ
  new_row r k = renewed (at w (i + r * L + k)) (row_sum r (at a k -ℤ pos unit) (at b k -ℤ pos unit) (at c k -ℤ pos unit))

  abbrev pub new_shares : ℕ → List ℤ
  new_shares p = tab 4 (λ k. sum_ℤ 4 (λ r. sign r p *ℤ pos (slack (new_row r k) + multiplier (new_row r k))))

  pub record MayRenew : Type 0 where
    pub room : i + 3 * L + 3 < length w
    pub multipliers : (r k : ℕ) → r < 4 → k < 4 → multiplier (at w (i + r * L + k)) ≤ most_multiplier most_done
    pub slacks : (r k : ℕ) → r < 4 → k < 4 → slack (at w (i + r * L + k)) ≤ most_slack
    pub first : (k : ℕ) → nat_abs (at a k -ℤ pos unit) ≤ unit
    pub second : (k : ℕ) → nat_abs (at b k -ℤ pos unit) ≤ unit
    pub third : (k : ℕ) → nat_abs (at c k -ℤ pos unit) ≤ unit

-- ---- a triple's places: where its first rows stand; where c of the variable in place p stands, and its sum; how far behind that the sum's high part is,
-- if it is wide; which places have no variable
pub record Places : Type 0 where
  pub rows : ℕ
  pub value : ℕ → ℕ
  pub sum : ℕ → ℕ
  pub apart : ℕ
  pub wide : ℕ → Bool
  pub none : ℕ → Bool

-- that of three which place p has
abbrev pub three : {A : Type 0} → A → A → A → ℕ → A
three a b c p = get_or (a ∷ b ∷ c ∷ []) p a

-- none is wide, and there is no blank: u, v and w are where the lanes of the variables begin in the values and in the sums
abbrev pub narrow_places : ℕ → ℕ → ℕ → ℕ → ℕ → ℕ → Places
narrow_places i values next u v w = record {
  rows = i;
  value = λ p. values + three u v w p;
  sum = λ p. next + three u v w p;
  apart = 0;
  wide = λ _. false;
  none = λ _. false;
}

-- the sum of the variable v has a high part
abbrev pub is_wide : List ℕ → ℕ → Bool
is_wide counts v = ltb most_narrow (get_or counts v 0)

-- any triple, whose variables are u, v and w
abbrev pub any_places : List ℕ → ℕ → ℕ → ℕ → ℕ → ℕ → ℕ → ℕ → ℕ → Places
any_places counts L i values next apart u v w = record {
  rows = i;
  value = λ p. values + L * three u v w p;
  sum = λ p. next + L * three u v w p;
  apart = apart;
  wide = λ p. is_wide counts (three u v w p);
  none = three false false (eqb w blank);
}

-- ---- the triple is renewed, and place after place is given its share
module _ (L : ℕ) (w : List ℤ) (s : Places) where
  -- c of place p, raised by U: the blank's is 0
  abbrev pub values_in : ℕ → List ℤ
  values_in p = tab 4 (λ k. cond (s.none p) (pos 0) (at w (s.value p + k)))

  abbrev pub row_in : ℕ → ℕ → ℤ
  row_in = new_row L w s.rows (values_in 0) (values_in 1) (values_in 2)

  abbrev pub shares_in : ℕ → List ℤ
  shares_in = new_shares L w s.rows (values_in 0) (values_in 1) (values_in 2)

  -- w after the first p places
  unfoldable pub after : ℕ → List ℤ
  after zero = with_rows L w s.rows row_in
  after (suc p) = cond (s.none p) (after p) (given (s.wide p) (after p) (s.sum p) (s.sum p + s.apart) (shares_in p))

  pub record MayStep : Type 0 where
    pub long : length w < 2 ^ 32
    pub values : (p : ℕ) → p < 3 → s.none p ≡ false → s.value p + 3 < length w
    pub renew : MayRenew L w s.rows (values_in 0) (values_in 1) (values_in 2)
    pub give : (p : ℕ) → p < 3 → s.none p ≡ false → MayGive (s.wide p) (after p) (s.sum p) (s.sum p + s.apart) (shares_in p)
