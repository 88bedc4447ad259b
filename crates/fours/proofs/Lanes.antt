-- Four numbers side by side: what the code reads of them, what it gives for each, their sums and differences. Assumes nothing.
use Rattle.integers.proofs.Prelude.{◌≡◌, sym, ap, ap₂, ◌∙◌, List, [], ◌∷◌, ℕ, ◌+◌, ◌^◌, ◌≤◌, ◌<◌, arith, dec_lt, T, ltb, ℤ, pos, nat_abs, ◌+ℤ◌, ◌-ℤ◌, length}
use Rattle.integers.proofs.Prelude.{get_or-eq_default, w32}
use native.Mathlib.Nat.{lt_of_le_of_lt}
use lib.Dec.{ltb→lt}
use lib.Signed.{mag}
use mir.Val.{Val, hbits}
use denote.Laws.{Is}
use denote.Array.{Array}
use denote.Signed.{SInt}
use borrow.Kind.Array.{e_s_int, good_length}
use Rattle.integers.proofs.Linear.{abs_add, abs_sub}
use Rattle.integers.proofs.Machine.{Worth, stored, read_back, param}
use Rattle.lists.specs.Tabulated.{tab}
use Rattle.lists.proofs.Tabulated.{length_tab, get_or_tab, tab_same, tab_get_or}
use Rattle.model.specs.Iteration.{at}
use Rattle.rows.proofs.Four.{four_are, small_are}
use Rattle.rows.proofs.Signs.{raw}

-- no number of 32 bits is larger, if its negative is one too
abbrev pub most : ℕ
most = 2147483647

pub read : (z : ℤ) → nat_abs z < 2 ^ 31 → Worth (raw z) z most
read z h = param w32 z most tt (omega arith)

-- ---- a call for each of four
module _ (f : ℤ → ℤ) (a : List ℤ) (h : (k : ℕ) → nat_abs (at a k) < 2 ^ 31) where
  -- what the one for entry k gave
  abbrev pub Gave : ℕ → ℤ → Type 0
  Gave k r = (mag r < 2 ^ hbits w32) × (r ≡ f (raw (at a k)))

  back : (k : ℕ) (r : ℤ) → Gave k r → raw r ≡ f (at a k)
  back k r g = read_back w32 g.0 (g.1 ∙ ap f (read (at a k) (h k)).is)

  pub each : (w x y z : ℤ) → Gave 0 w → Gave 1 x → Gave 2 y → Gave 3 z → raw w ∷ raw x ∷ raw y ∷ raw z ∷ [] ≡ tab 4 (λ k. f (at a k))
  each w x y z p q r s = four_are (λ k. f (at a k)) (raw w) (raw x) (raw y) (raw z) (back 0 w p) (back 1 x q) (back 2 y r) (back 3 z s)

-- ---- four numbers that are f's, none larger than n
pub record Lanes (l : List ℤ) (f : ℕ → ℤ) (n : ℕ) : Type 0 where
  pub is : l ≡ tab 4 f
  pub within : (k : ℕ) → nat_abs (at l k) ≤ n

-- a parameter, of which the toolchain knows that it is an array of four
abbrev pub Parameter : List ℤ → List Val → Type 0
Parameter l vs = Is (Array (SInt w32) 4) l vs

long : (l : List ℤ) {vs : List Val} → Parameter l vs → length l ≡ 4
long l {vs} = good_length (e_s_int w32) 4 l vs

pub given : (l : List ℤ) (n : ℕ) {vs : List Val} → Parameter l vs → ((k : ℕ) → nat_abs (at l k) ≤ n) → Lanes l (at l) n
given l n p h = record { is = sym (tab_get_or l (pos 0)) ∙ ap (λ (m : ℕ). tab m (at l)) (long l p); within = h }

pub told : {l : List ℤ} (f : ℕ → ℤ) (n : ℕ) → l ≡ tab 4 f → ((k : ℕ) → nat_abs (f k) ≤ n) → Lanes l f n
told f n e h = record { is = e; within = small_are n f e (λ k _. h k) }

module _ {a b : List ℤ} {f g : ℕ → ℤ} {m n : ℕ} (u : Lanes a f m) (v : Lanes b g n) where
  -- what a sum and a difference ask
  pub room : T (ltb (m + n) (2 ^ 31)) → (k : ℕ) → nat_abs (at a k) + nat_abs (at b k) < 2 ^ 31
  room t k = lt_of_le_of_lt (omega (arith, u.within k, v.within k)) (ltb→lt (m + n) (2 ^ 31) t)

-- and one of entries of a list, of which nothing is known but of these four: past them both are 0
pub room_of : {a : List ℤ} (b : List ℤ) (f : ℕ → ℤ) {vs : List Val} → a ≡ tab 4 f → Parameter b vs → ((k : ℕ) → k < 4 → nat_abs (f k) + nat_abs (at b k) < 2 ^ 31)
    → (k : ℕ) → nat_abs (at a k) + nat_abs (at b k) < 2 ^ 31
room_of b f e p h k = rw e (by (dec_lt k 4))
  where
    by : Dec (k < 4) → nat_abs (at (tab 4 f) k) + nat_abs (at b k) < 2 ^ 31
    by (yes l) = rw (get_or_tab 4 f k (pos 0) l) (h k l)
    by (no l) = rw (get_or-eq_default (tab 4 f) (pos 0) {n = k} (omega (arith, length_tab 4 f)), get_or-eq_default b (pos 0) {n = k} (omega (arith, long b p))) (omega arith)

-- ---- by an operation that is `◌+ℤ◌` or `◌-ℤ◌`
module _ (op : ℤ → ℤ → ℤ) (small : (a b : ℤ) → nat_abs (op a b) ≤ nat_abs a + nat_abs b) where
  -- of one number each, as the code works it out
  pub worked : (a b : ℤ) → nat_abs a + nat_abs b < 2 ^ 31 → Worth (op (raw a) (raw b)) (op a b) most
  worked a b h = record { is = ap₂ op (read a (omega arith)).is (read b (omega arith)).is; within = omega (arith, small a b) }

  -- of four
  pub four_worked : (a b : ℕ → ℤ) → ((k : ℕ) → nat_abs (a k) + nat_abs (b k) < 2 ^ 31) → tab 4 (λ k. raw (op (raw (a k)) (raw (b k)))) ≡ tab 4 (λ k. op (a k) (b k))
  four_worked a b h = tab_same 4 (λ k. raw (op (raw (a k)) (raw (b k)))) (λ k. op (a k) (b k)) (λ k _. (stored (worked (a k) (b k) (h k)) w32 tt).is)

  -- of four that are known
  combined : {l a b : List ℤ} {f g : ℕ → ℤ} {m n : ℕ} → Lanes a f m → Lanes b g n → l ≡ tab 4 (λ k. op (at a k) (at b k)) → Lanes l (λ k. op (f k) (g k)) (m + n)
  combined {a} {b} u v e = record {
    is = e ∙ ap₂ (λ (x y : List ℤ). tab 4 (λ k. op (at x k) (at y k))) u.is v.is;
    within = small_are _ (λ k. op (at a k) (at b k)) e (λ k _. omega (arith, small (at a k) (at b k), u.within k, v.within k));
  }

module _ {l a b : List ℤ} {f g : ℕ → ℤ} {m n : ℕ} (u : Lanes a f m) (v : Lanes b g n) where
  pub sum : l ≡ tab 4 (λ k. at a k +ℤ at b k) → Lanes l (λ k. f k +ℤ g k) (m + n)
  sum = combined ◌+ℤ◌ abs_add u v

  pub difference : l ≡ tab 4 (λ k. at a k -ℤ at b k) → Lanes l (λ k. f k -ℤ g k) (m + n)
  difference = combined ◌-ℤ◌ abs_sub u v
