-- Four entries of a list, one after the other, as the code reads and stores them. Assumes nothing.
use Rattle.integers.proofs.Prelude.{◌≡◌, ap, ◌∙◌, List, [], ◌∷◌, ℕ, ◌+◌, ◌^◌, ◌≤◌, arith, add-one, add-two, T, ltb, ℤ, nat_abs, set, sets, w32, to_z-of_z}
use native.Mathlib.Numerals.{add-three}
use mir.Val.{SFits, hbits}
use Rattle.integers.proofs.Machine.{param}
use Rattle.lists.specs.Tabulated.{tab}
use Rattle.model.specs.Iteration.{at}
use Rattle.rows.proofs.Four.{four_are}
use Rattle.rows.proofs.Signs.{raw}

module _ (l : List ℤ) (i : ℕ) where
  pub four_read : SFits w32 (at l i) → SFits w32 (at l (i + 1)) → SFits w32 (at l (i + 2)) → SFits w32 (at l (i + 3))
      → raw (at l i) ∷ raw (at l (i + 1)) ∷ raw (at l (i + 2)) ∷ raw (at l (i + 3)) ∷ [] ≡ tab 4 (λ k. at l (i + k))
  four_read p q r s =
      let z : i ≡ i + 0 = omega arith in
      four_are (λ k. at l (i + k)) _ _ _ _ (to_z-of_z p ∙ ap (at l) z) (to_z-of_z q) (to_z-of_z r) (to_z-of_z s)

  pub four_stored : (q : List ℤ) (b : ℕ) → T (ltb b (2 ^ hbits w32)) → ((k : ℕ) → nat_abs (at q k) ≤ b)
      → set (set (set (set l i (raw (at q 0))) (i + 1) (raw (at q 1))) (i + 2) (raw (at q 2))) (i + 3) (raw (at q 3)) ≡ sets l i (tab 4 (at q))
  four_stored q b t h =
      let a : (k : ℕ) → raw (at q k) ≡ at q k = λ k. (param w32 (at q k) b t (h k)).is in
      rw (add-one i, add-two i, add-three i, a 0, a 1, a 2, a 3)
