-- The words of frames that are concluded one after the other. Assumes nothing.
use Rattle.integers.proofs.Prelude.{◌≡◌, sym, ap, ap₂, ◌∙◌, Bool, true, false, cond, List, ℕ, zero, suc, ◌*◌, ◌≤◌, ◌<◌, arith, eqb, ℤ, length, drop}
use native.Mathlib.Nat.{mul-le-mul_right}
use borrow.Rule.Slice.PartMut.{put_mid}
use Rattle.lists.specs.Tabulated.{written, part, blocks}
use Rattle.lists.proofs.Tabulated.{length_written}
use Rattle.lists.proofs.Parts.{Sized, length_part, part_end, length_blocks, later_part, behind_written, replaced, part_back, next_block}
use Rattle.model.specs.Causes.{accepted}
use Rattle.model.specs.Code.{Code}
use Rattle.model.specs.Words.{word_of, outcome}
use Rattle.model.proofs.WordClaims.{outcome_claims}
use Rattle.group.specs.Ends.{word_left}

left_long : (k : Code) (n : ℕ) (c : List ℤ) (w : List ℕ) → length w ≡ k.bits → length (word_left k n c w) ≡ k.bits
left_long k n c w e = by (eqb n 0) (outcome k c).number
  where
    by : (t : Bool) (a : ℕ) → length (cond t w (accepted a (written (word_of k c) w) w)) ≡ k.bits
    by true a = e
    by false zero = length_written (word_of k c) w (omega (arith, (outcome_claims k c).word.long)) ∙ e
    by false (suc a) = e

-- the word of frame f, of frames with n bits and v values each, of which frame f did ks f iterations and whose words were in old
abbrev pub left_in : Code → ℕ → ℕ → List ℤ → (ℕ → ℕ) → List ℕ → ℕ → List ℕ
left_in k n v values ks old f = word_left k (ks f) (part v f values) (part n f old)

-- f of F frames are concluded, so that their words are now in `word`
pub record Concluded (k : Code) (n v F : ℕ) (values : List ℤ) (ks : ℕ → ℕ) (old : List ℕ) (f : ℕ) (word : List ℕ) : Type 0 where
  pub bits : n ≡ k.bits
  pub room : F * n ≤ length old
  pub within : f ≤ F
  pub so_far : word ≡ written (blocks f (left_in k n v values ks old)) old

module _ {k : Code} {n v F : ℕ} {values : List ℤ} {ks : ℕ → ℕ} {old : List ℕ} {f : ℕ} {word : List ℕ} (c : Concluded k n v F values ks old f word) where
  abbrev left : ℕ → List ℕ
  left = left_in k n v values ks old

  sized : Sized n F left
  sized i h = left_long k (ks i) (part v i values) (part n i old) (length_part n i old (omega (arith, part_end n F i h, c.room)) ∙ c.bits) ∙ sym c.bits

  front : Sized n f left
  front i h = sized i (omega (arith, c.within))

  pub words_long : length word ≡ length old
  words_long = ap length c.so_far ∙ length_written (blocks f left) old (omega (arith, length_blocks n f left front, mul-le-mul_right {m = f} {n = F} n c.within, c.room))

  -- the word of frame f is still as it was,
  pub next_part : part n f word ≡ part n f old
  next_part = later_part n f f word old (omega arith) (ap (drop (f * n)) c.so_far ∙ behind_written n f left old front)

  -- and is then written, in m entries that were lent
  pub next_word : f < F → (m : ℕ) (x : List ℕ) → m ≡ n → x ≡ left f → put_mid (f * n) m word x ≡ written (blocks (suc f) left) old
  next_word less m x e is =
      part_back n f m x word e ∙ ap₂ (λ (x w : List ℕ). replaced n f x w) is c.so_far ∙ next_block n f left old (λ i h. sized i (omega arith))
