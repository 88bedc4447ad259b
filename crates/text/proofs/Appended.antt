-- Text that is written piece by piece: one piece, and one after another. Assumes nothing.
use Rattle.integers.proofs.Prelude.{◌≡◌, refl, sym, ap, ◌∙◌, List, [], ◌∷◌, ◌++◌, append_assoc, ℕ, ◌+◌, ◌≤◌, ◌<◌, arith, add-one, length, take, drop, set}
use Rattle.integers.proofs.Prelude.{length-append, length-drop, take-append-drop, length-take-le, take_at, drop_at, drop-drop}
use lib.Seq.{set_split}
use Rattle.text.specs.Appended.{Appended}

pub none : (at : ℕ) (a : List ℕ) → at ≤ length a → Appended at [] a a at
none at a h = let e : at + 0 ≡ at = omega arith in record { list = rw e (sym (take-append-drop at a)); ends = omega arith; fits = h }

pub one : (at x : ℕ) (a : List ℕ) → at < length a → Appended at (x ∷ []) a (set a at x) (at + 1)
one at x a h = record { list = rw (add-one at) (set_split a at x h); ends = refl; fits = omega arith }

module _ {at : ℕ} {t a b : List ℕ} {i : ℕ} (p : Appended at t a b i) where
  -- the text so far, and what follows it
  begun : b ≡ (take at a ++ t) ++ drop i a
  begun = rw (p.list, p.ends) (sym (append_assoc (take at a) t (drop (at + length t) a)))

  size : length (take at a ++ t) ≡ i
  size = length-append (take at a) t ∙ omega (arith, length-take-le at a (omega (arith, p)), p.ends)

  pub long : length b ≡ length a
  long = ap length begun ∙ length-append (take at a ++ t) (drop i a) ∙ omega (arith, size, length-drop i a, p)

  pub then : {u c : List ℕ} {j : ℕ} → Appended i u b c j → Appended at (t ++ u) a c j
  then {u} q =
      let n = length-append t u in
      let e : at + length (t ++ u) ≡ i + length u = omega (arith, p.ends) in
      record {
        list = q.list ∙ rw (e, begun, take_at (take at a ++ t) (drop i a) i size, ← drop-drop (length u) i ((take at a ++ t) ++ drop i a), drop_at (take at a ++ t) (drop i a) i size, drop-drop (length u) i a) (simp append_assoc);
        ends = omega (arith, p.ends, q.ends);
        fits = omega (arith, q.fits, long);
      }

-- of text from the front: what is beyond it stays
pub front : {t a b : List ℕ} {i : ℕ} → Appended 0 t a b i → b ≡ t ++ drop (length t) a
front {t} {a} p = let z : 0 + length t ≡ length t = omega arith in p.list ∙ ap (λ (n : ℕ). t ++ drop n a) z

-- a loan of it
pub counted : {t a b : List ℕ} {i : ℕ} → Appended 0 t a b i → (i ≤ length b) × (i ≡ length (take i b))
counted {b = b} {i = i} p = let h : i ≤ length b = omega (arith, p.fits, long p) in (h, sym (length-take-le i b h))

-- what that loan holds, and so what is written out of it: the text
pub lent : {t a b : List ℕ} {i : ℕ} → Appended 0 t a b i → take i b ≡ t
lent {t} {a} {i = i} p = rw p.list (take_at t (drop (0 + length t) a) i (omega (arith, p.ends)))
