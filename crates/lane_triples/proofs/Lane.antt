-- One lane, while the rows of a triple are renewed one by one and its places are given their shares. Its entries are a function's. Assumes nothing.
use Rattle.integers.proofs.Prelude.{◌≡◌, refl, sym, ap, ap₂, ◌∙◌, Bool, true, false, List, ℕ, suc, ◌+◌, ◌-◌, ◌*◌, ◌^◌, ◌≤◌, ◌<◌, arith, dec_lt, eqb-true, eqb-false, ne_eqb}
use Rattle.integers.proofs.Prelude.{lt-ltb, eqb, ltb, ℤ, pos, ◌+ℤ◌, ◌*ℤ◌, get_or}
use mathlib.Core.Logic.{◌⊎◌, inl, inr, ◌≢◌}
use lib.IntN.{+ℤ_idr, +ℤ_assoc}
use Rattle.integers.specs.Sum.{sum_ℕ, sum_ℤ}
use Rattle.integers.proofs.Linear.{split, to_ℕ, abs_add}
use Rattle.model.specs.Causes.{◌if◌}
use Rattle.model.specs.Splitting.{member}
use Rattle.model.specs.Iteration.{renewed_at, share, ◌when◌, sum_of, occurrences}
use Rattle.model.proofs.Rows.{two}
use Rattle.lanes.specs.declared.Plan.{Plan}
use Rattle.lanes.specs.Lanes.{in_lane, values_at, sums_at, weighed_at, lane_rows, lane_values, Kept}
use Rattle.lane_triples.specs.Walk.{new_rows, Walked}

-- ---- a sum's two parts
abbrev pub low : Plan → ℕ → (ℕ → ℤ) → ℕ → ℤ
low p i g v = g (sums_at p i + v)

abbrev pub high : Plan → ℕ → (ℕ → ℤ) → ℕ → ℤ
high p i g v = g (sums_at p i + (p.variables + v)) when ltb v p.bits

abbrev whole : ℤ → ℤ → ℤ
whole x y = x +ℤ pos (2 ^ 14) *ℤ y

-- both are added to, where a test passes
more_whole : (e : Bool) (x y a b s : ℤ) → whole a b ≡ s → whole (x +ℤ (a when e)) (y +ℤ (b when e)) ≡ whole x y +ℤ (s when e)
more_whole true x y a b s h = rw (← h) (rw (split x, split y, split a, split b) (simp to_ℕ (omega arith)))
more_whole false x y a b s h = rw (split x, split y) (simp to_ℕ (omega arith))

more_kept : (e : Bool) (c n : ℕ) (x y a b : ℤ) → Kept c n x y → (e ≡ true → Kept c 1 a b) → Kept c (n + (1 if e)) (x +ℤ (a when e)) (y +ℤ (b when e))
more_kept true c n x y a b k more = let m = more refl in record {
  narrow = λ h. (omega (arith, abs_add x a, (k.narrow h).0, (m.narrow h).0), ap₂ ◌+ℤ◌ (k.narrow h).1 (m.narrow h).1);
  wide = λ h. (omega (arith, abs_add x a, (k.wide h).0, (m.wide h).0), omega (arith, abs_add y b, (k.wide h).1, (m.wide h).1));
}
more_kept false c n x y a b k more = let e : n + 0 ≡ n = omega arith in rw (+ℤ_idr x, +ℤ_idr y, e) k

-- ---- a lane that stood in w: n rows are renewed, and its sums are those of t triples and of the first q places of triple t
abbrev pub part_sum : List ℕ → ℕ → List ℤ → ℕ → ℕ → ℤ
part_sum ts t s q v = sum_of ts t s v +ℤ sum_ℤ q (λ x. share s t x when eqb (member ts t x) v)

abbrev pub part_count : List ℕ → ℕ → ℕ → ℕ → ℕ
part_count ts t q v = occurrences ts t v + sum_ℕ q (λ x. 1 if eqb (member ts t x) v)

pub record Partly (p : Plan) (ts counts : List ℕ) (i : ℕ) (w : List ℤ) (l t n q : ℕ) (g : ℕ → ℤ) : Type 0 where
  pub done : (j : ℕ) → j < n → g j ≡ renewed_at ts (lane_rows p w l) (lane_values p w l) j
  pub left : (j : ℕ) → n ≤ j → j < 4 * p.triples → g j ≡ in_lane p.lanes w l j
  pub values : (v : ℕ) → v < p.variables → g (values_at p + v) ≡ in_lane p.lanes w l (values_at p + v)
  pub sums : (v : ℕ) → v < p.variables → whole (low p i g v) (high p i g v) ≡ part_sum ts t (new_rows p ts w l) q v
  pub kept : (v : ℕ) → v < p.variables → Kept (get_or counts v 0) (part_count ts t q v) (low p i g v) (high p i g v)
  pub others : (j : ℕ) → j < p.variables + p.bits → g (sums_at p (1 - i) + j) ≡ in_lane p.lanes w l (sums_at p (1 - i) + j)
  pub weighed : (b : ℕ) → b < p.bits → g (weighed_at p + b) ≡ in_lane p.lanes w l (weighed_at p + b)

-- ---- where its parts stand
module _ (p : Plan) (i : ℕ) (one : i ≤ 1) where
  beside : (j : ℕ) → j < p.variables + p.bits → (sums_at p (1 - i) + j < sums_at p i) ⊎ (sums_at p i + (p.variables + p.bits) ≤ sums_at p (1 - i) + j)
  beside j h = two (λ i. (sums_at p (1 - i) + j < sums_at p i) ⊎ (sums_at p i + (p.variables + p.bits) ≤ sums_at p (1 - i) + j)) (inr (omega arith)) (inl (omega arith)) i (omega arith)

  pub before_weighed : sums_at p i + (p.variables + p.bits) ≤ weighed_at p
  before_weighed = two (λ i. sums_at p i + (p.variables + p.bits) ≤ weighed_at p) (omega arith) (omega arith) i (omega arith)

-- ---- an entry that was stored
pub record Put (j : ℕ) (x : ℤ) (g g' : ℕ → ℤ) : Type 0 where
  pub here : g' j ≡ x
  pub other : (n : ℕ) → n ≢ j → g' n ≡ g n

-- a and b are added to the two parts of the sum of m, if m is a variable
pub record Gave (p : Plan) (i m : ℕ) (a b : ℤ) (g g' : ℕ → ℤ) : Type 0 where
  pub to_low : (v : ℕ) → v < p.variables → low p i g' v ≡ low p i g v +ℤ (a when eqb m v)
  pub to_high : (v : ℕ) → v < p.variables → high p i g' v ≡ high p i g v +ℤ (b when eqb m v)
  pub rest : (j : ℕ) → (j < sums_at p i) ⊎ (sums_at p i + (p.variables + p.bits) ≤ j) → g' j ≡ g j

module _ (p : Plan) (i m : ℕ) (a : ℤ) {g g' : ℕ → ℤ} (put : Put (sums_at p i + m) (g (sums_at p i + m) +ℤ a) g g') (var : m < p.variables) where
  low_put : (v : ℕ) → low p i g' v ≡ low p i g v +ℤ (a when eqb m v)
  low_put v = by (eqb m v) refl
    where
      by : (e : Bool) → eqb m v ≡ e → low p i g' v ≡ low p i g v +ℤ (a when e)
      by true e = let same = eqb-true m v e in rw (← same) put.here
      by false e = put.other (sums_at p i + v) (λ h. eqb-false m v e (omega arith)) ∙ sym (+ℤ_idr (low p i g v))

  high_same : (v : ℕ) → g' (sums_at p i + (p.variables + v)) ≡ g (sums_at p i + (p.variables + v))
  high_same v = put.other (sums_at p i + (p.variables + v)) (λ h. omega arith)

  rest_same : (j : ℕ) → (j < sums_at p i) ⊎ (sums_at p i + (p.variables + p.bits) ≤ j) → g' j ≡ g j
  rest_same j (inl h) = put.other j (λ e. omega arith)
  rest_same j (inr h) = put.other j (λ e. omega arith)

  pub gave_whole : Gave p i m a (pos 0) g g'
  gave_whole = record {
    to_low = λ v _. low_put v;
    to_high = λ v _. ap (λ (z : ℤ). z when ltb v p.bits) (high_same v) ∙ sym (nothing (eqb m v) (high p i g v));
    rest = rest_same;
  }
    where
      nothing : (e : Bool) (z : ℤ) → z +ℤ (pos 0 when e) ≡ z
      nothing true z = +ℤ_idr z
      nothing false z = +ℤ_idr z

  pub gave_parts : (b : ℤ) {g'' : ℕ → ℤ} → Put (sums_at p i + (p.variables + m)) (g' (sums_at p i + (p.variables + m)) +ℤ b) g' g'' → m < p.bits → Gave p i m a b g g''
  gave_parts b {g''} more bit = record {
    to_low = λ v h. more.other (sums_at p i + v) (λ e. omega arith) ∙ low_put v;
    to_high = λ v _. by v (eqb m v) refl;
    rest = rest;
  }
    where
      by : (v : ℕ) (e : Bool) → eqb m v ≡ e → high p i g'' v ≡ high p i g v +ℤ (b when e)
      by v true e = let same = eqb-true m v e in rw (← same, lt-ltb m p.bits bit) (more.here ∙ ap (λ (z : ℤ). z +ℤ b) (high_same m))
      by v false e =
          ap (λ (z : ℤ). z when ltb v p.bits) (more.other (sums_at p i + (p.variables + v)) (λ h. eqb-false m v e (omega arith)) ∙ high_same v)
          ∙ sym (+ℤ_idr (high p i g v))

      rest : (j : ℕ) → (j < sums_at p i) ⊎ (sums_at p i + (p.variables + p.bits) ≤ j) → g'' j ≡ g j
      rest j (inl h) = more.other j (λ e. omega arith) ∙ rest_same j (inl h)
      rest j (inr h) = more.other j (λ e. omega arith) ∙ rest_same j (inr h)

pub gave_none : (p : Plan) (i m : ℕ) (a b : ℤ) (g : ℕ → ℤ) → p.variables ≤ m → Gave p i m a b g g
gave_none p i m a b g h = record {
  to_low = λ v k. sym (rw (ne_eqb m v (λ e. omega arith)) (+ℤ_idr (low p i g v)));
  to_high = λ v k. sym (rw (ne_eqb m v (λ e. omega arith)) (+ℤ_idr (high p i g v)));
  rest = λ j _. refl;
}

-- ---- the steps
module _ {p : Plan} {ts counts : List ℕ} {i : ℕ} {w : List ℤ} {l t : ℕ} where
  pub begun : {w' : List ℤ} → Walked p ts counts i w l t w' → Partly p ts counts i w l t (4 * t) 0 (in_lane p.lanes w' l)
  begun d = record {
    done = d.done;
    left = d.left;
    values = d.values;
    sums = λ v h. d.sums v h ∙ sym (+ℤ_idr (sum_of ts t (new_rows p ts w l) v));
    kept = λ v h. let e : occurrences ts t v + 0 ≡ occurrences ts t v = omega arith in rw e (d.kept v h);
    others = d.others;
    weighed = d.weighed;
  }

  pub ended : {w' : List ℤ} → Partly p ts counts i w l t (4 * suc t) 3 (in_lane p.lanes w' l) → Walked p ts counts i w l (suc t) w'
  unfolding sum_of occurrences
  ended d = record { done = d.done; left = d.left; values = d.values; sums = d.sums; kept = d.kept; others = d.others; weighed = d.weighed }

  -- row n
  pub row_put : {n q : ℕ} {g g' : ℕ → ℤ} → Partly p ts counts i w l t n q g → n < 4 * p.triples
      → Put n (renewed_at ts (lane_rows p w l) (lane_values p w l) n) g g' → Partly p ts counts i w l t (suc n) q g'
  row_put {n} {q} {g} {g'} d h put = record {
    done = λ j m. by j m (dec_lt j n);
    left = λ j a b. put.other j (λ e. omega arith) ∙ d.left j (omega arith) b;
    values = λ v m. put.other (values_at p + v) (λ e. omega arith) ∙ d.values v m;
    sums = λ v m. ap₂ (λ (x y : ℤ). whole x (y when ltb v p.bits)) (low_same v) (high_same' v) ∙ d.sums v m;
    kept = λ v m. rw (low_same v, high_same' v) (d.kept v m);
    others = λ j m. put.other (sums_at p (1 - i) + j) (λ e. omega arith) ∙ d.others j m;
    weighed = λ b m. put.other (weighed_at p + b) (λ e. omega arith) ∙ d.weighed b m;
  }
    where
      by : (j : ℕ) → j < suc n → Dec (j < n) → g' j ≡ renewed_at ts (lane_rows p w l) (lane_values p w l) j
      by j m (yes a) = put.other j (λ e. omega arith) ∙ d.done j a
      by j m (no a) = let e : j ≡ n = omega arith in rw e put.here

      low_same : (v : ℕ) → low p i g' v ≡ low p i g v
      low_same v = put.other (sums_at p i + v) (λ e. omega arith)

      high_same' : (v : ℕ) → g' (sums_at p i + (p.variables + v)) ≡ g (sums_at p i + (p.variables + v))
      high_same' v = put.other (sums_at p i + (p.variables + v)) (λ e. omega arith)

  -- place q
  pub place_given : {n q : ℕ} {g g' : ℕ → ℤ} → Partly p ts counts i w l t n q g → n ≤ 4 * p.triples → i ≤ 1 → (a b : ℤ) → Gave p i (member ts t q) a b g g'
      → a +ℤ pos (2 ^ 14) *ℤ b ≡ share (new_rows p ts w l) t q → ((v : ℕ) → v < p.variables → member ts t q ≡ v → Kept (get_or counts v 0) 1 a b)
      → Partly p ts counts i w l t n (suc q) g'
  place_given {n} {q} {g} {g'} d h one a b x is small = record {
    done = λ j m. x.rest j (inl (omega arith)) ∙ d.done j m;
    left = λ j m k. x.rest j (inl (omega arith)) ∙ d.left j m k;
    values = λ v m. x.rest (values_at p + v) (inl (omega arith)) ∙ d.values v m;
    sums = λ v m.
        ap₂ whole (x.to_low v m) (x.to_high v m)
        ∙ more_whole (eqb (member ts t q) v) (low p i g v) (high p i g v) a b (share (new_rows p ts w l) t q) is
        ∙ ap (λ (z : ℤ). z +ℤ (share (new_rows p ts w l) t q when eqb (member ts t q) v)) (d.sums v m)
        ∙ +ℤ_assoc (sum_of ts t (new_rows p ts w l) v) _ _;
    kept = λ v m.
        let e : part_count ts t (suc q) v ≡ part_count ts t q v + (1 if eqb (member ts t q) v) = omega arith in
        rw (e, x.to_low v m, x.to_high v m)
        (more_kept (eqb (member ts t q) v) (get_or counts v 0) (part_count ts t q v) (low p i g v) (high p i g v) a b (d.kept v m)
        (λ same. small v m (eqb-true (member ts t q) v same)));
    others = λ j m. x.rest (sums_at p (1 - i) + j) (beside p i one j m) ∙ d.others j m;
    weighed = λ b m. x.rest (weighed_at p + b) (inr (omega (arith, before_weighed p i one))) ∙ d.weighed b m;
  }
