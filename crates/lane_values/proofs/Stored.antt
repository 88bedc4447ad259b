-- Parts of a list that loops read and write. Assumes nothing.
-- A loop that stores entry i of the first parts at turn i keeps `Stored m parts f from i` (start: nothing_stored; store_next). What it reads at i or
-- later is still as it was (ahead). One loop after another: stored_join.
use Rattle.integers.proofs.Prelude.{◌≡◌, refl, sym, ap, ◌∙◌, Bool, true, false, List, [], ◌∷◌, ℕ, zero, suc, ◌+◌, ◌≤◌, ◌<◌, arith, eqb-true, eqb-false, eqb}
use Rattle.integers.proofs.Prelude.{ltb-true, ltb-false, ltb, ℤ, pos, length, get_or, set, length-set}
use mathlib.Core.Logic.{◌≢◌}
use lib.Seq.{get_or-set_same, get_or-set_other}
use Rattle.lists.proofs.Entries.{each_at}
use Rattle.model.specs.Iteration.{at}
use Rattle.lane_values.specs.Stored.{Apart, AllApart, Parts, stored, Stored}

-- ---- two parts of those that lie apart
pub apart_at : (n : ℕ) (parts : List ℕ) → AllApart n parts → (q r : ℕ) → q < length parts → r < length parts → q ≢ r → Apart n (get_or parts q 0) (get_or parts r 0)
apart_at n [] h q r k m p = absurd (omega arith)
apart_at n (a ∷ parts) h zero zero k m p = absurd (p refl)
apart_at n (a ∷ parts) h zero (suc r) k m p = each_at (Apart n a) parts 0 h.0 r (omega arith)
apart_at n (a ∷ parts) h (suc q) zero k m p = λ i j hi hj e. each_at (Apart n a) parts 0 h.0 q (omega arith) j i hj hi (sym e)
apart_at n (a ∷ parts) h (suc q) (suc r) k m p = apart_at n parts h.1 q r (omega arith) (omega arith) (λ e. p (ap suc e))

-- ---- what a turn stores: x in the first part, 0 in the others
abbrev pub turned : List ℕ → ℕ → ℤ → ℕ → List ℤ → List ℤ
turned parts i x zero w = w
turned parts i x (suc m) w = set (turned parts i x m w) (get_or parts m 0 + i) (stored (λ _. x) m i)

module _ {n size : ℕ} {parts : List ℕ} (a : Parts n size parts) where
  -- entries that stand at one place are entries of one number
  same_entry : (q r i k : ℕ) → q < length parts → r < length parts → i < n → k < n → get_or parts q 0 + i ≡ get_or parts r 0 + k → i ≡ k
  same_entry q r i k hq hr hi hk e = by (eqb q r) refl
    where
      by : (t : Bool) → eqb q r ≡ t → i ≡ k
      by true p = let s : get_or parts q 0 ≡ get_or parts r 0 = ap (λ (s : ℕ). get_or parts s 0) (eqb-true q r p) in omega arith
      by false p = absurd (apart_at n parts a.apart q r hq hr (eqb-false q r p) i k hi hk e)

  module _ {m : ℕ} (few : m ≤ length parts) {f : ℕ → ℤ} where
    pub stored_join : {from mid to : ℕ} {w w' w'' : List ℤ} → from ≤ mid → mid ≤ to → to ≤ n
        → Stored m parts f from mid w w' → Stored m parts f mid to w' w'' → Stored m parts f from to w w''
    stored_join {from} {mid} {to} {w} {w'} {w''} h k l s t =
        record {
          long = t.long ∙ s.long;
          new = λ q i hq hf ht. by q i hq hf ht (ltb i mid) refl;
          old = λ j out. t.old j (λ q i hq hf ht. out q i hq (omega arith) ht) ∙ s.old j (λ q i hq hf ht. out q i hq hf (omega arith));
        }
      where
        by : (q i : ℕ) → q < m → from ≤ i → i < to → (b : Bool) → ltb i mid ≡ b → at w'' (get_or parts q 0 + i) ≡ stored f q i
        by q i hq hf ht true p =
            let b = ltb-true i mid p in
            t.old (get_or parts q 0 + i) (λ r k hr hm hk e. let z = same_entry q r i k (omega arith) (omega arith) (omega arith) (omega arith) e in omega arith)
            ∙ s.new q i hq hf b
        by q i hq hf ht false p = t.new q i hq (ltb-false i mid p) ht

    -- entries that no turn has come to yet
    pub ahead : {from mid : ℕ} {w w' : List ℤ} → Stored m parts f from mid w w' → (q i : ℕ) → q < length parts → mid ≤ i → i < n
        → at w' (get_or parts q 0 + i) ≡ at w (get_or parts q 0 + i)
    ahead s q i hq hm hn =
        s.old (get_or parts q 0 + i) (λ r k hr hf hk e. let z = same_entry q r i k hq (omega arith) hn (omega arith) e in omega arith)

pub nothing_stored : {m : ℕ} {parts : List ℕ} {f : ℕ → ℤ} {from to : ℕ} {w : List ℤ} → to ≤ from → Stored m parts f from to w w
nothing_stored h = record { long = refl; new = λ q i hq hf ht. absurd (omega arith); old = λ j out. refl }

-- the same values by another name
pub stored_same : {m : ℕ} {parts : List ℕ} {f g : ℕ → ℤ} {from to : ℕ} {w w' : List ℤ} → ((i : ℕ) → from ≤ i → i < to → f i ≡ g i)
    → Stored m parts f from to w w' → Stored m parts g from to w w'
stored_same {m} {parts} {f} {g} {from} {to} {w} {w'} e s = record { long = s.long; new = new; old = s.old }
  where
    new : (q i : ℕ) → q < m → from ≤ i → i < to → at w' (get_or parts q 0 + i) ≡ stored g q i
    new zero i hq hf ht = s.new 0 i hq hf ht ∙ e i hf ht
    new (suc q) i hq hf ht = s.new (suc q) i hq hf ht

module _ {n size : ℕ} {parts : List ℕ} (a : Parts n size parts) (f : ℕ → ℤ) (i : ℕ) (x : ℤ) (e : x ≡ f i) (below : i < n) (w : List ℤ)
    (long : length w ≡ size) where
  stored_turn : (m : ℕ) → m ≤ length parts → Stored m parts f i (i + 1) w (turned parts i x m w)
  stored_turn zero few = record { long = refl; new = λ q k hq. absurd (omega arith); old = λ j out. refl }
  stored_turn (suc m) few =
      let s = stored_turn m (omega arith) in
      record {
        long = length-set (turned parts i x m w) (get_or parts m 0 + i) (stored (λ _. x) m i) ∙ s.long;
        new = λ q k hq hf ht. by s q k hq hf ht (eqb q m) refl;
        old = λ j out.
            get_or-set_other (turned parts i x m w) (get_or parts m 0 + i) j (stored (λ _. x) m i) (pos 0) (out m i (omega arith) (omega arith) (omega arith))
            ∙ s.old j (λ q k hq hf ht. out q k (omega arith) hf ht);
      }
    where
      value : (q : ℕ) → stored (λ _. x) q i ≡ stored f q i
      value zero = e
      value (suc q) = refl

      by : Stored m parts f i (i + 1) w (turned parts i x m w) → (q k : ℕ) → q < suc m → i ≤ k → k < i + 1 → (b : Bool) → eqb q m ≡ b
          → at (set (turned parts i x m w) (get_or parts m 0 + i) (stored (λ _. x) m i)) (get_or parts q 0 + k) ≡ stored f q k
      by s q k hq hf ht true p =
          let o : q ≡ m = eqb-true q m p in
          let z : k ≡ i = omega arith in
          let l = each_at (λ b. b + n ≤ size) parts 0 a.ends m (omega arith) in
          rw (o, z) (get_or-set_same (turned parts i x m w) (get_or parts m 0 + i) (stored (λ _. x) m i) (pos 0) (omega (arith, s.long)) ∙ value m)
      by s q k hq hf ht false p =
          let z : k ≡ i = omega arith in
          get_or-set_other (turned parts i x m w) (get_or parts m 0 + i) (get_or parts q 0 + k) (stored (λ _. x) m i) (pos 0)
          (λ c. apart_at n parts a.apart q m (omega (arith, eqb-false q m p)) (omega arith) (eqb-false q m p) k i (omega arith) below c)
          ∙ s.new q k (omega (arith, eqb-false q m p)) hf ht

  -- the turn i of a loop from w₀ on
  pub store_next : (m : ℕ) → m ≤ length parts → {from : ℕ} {w₀ : List ℤ} → from ≤ i → Stored m parts f from i w₀ w
      → Stored m parts f from (i + 1) w₀ (turned parts i x m w)
  store_next m few h s = stored_join a few h (omega arith) (omega arith) s (stored_turn m few)
