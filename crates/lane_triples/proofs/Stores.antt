-- A store of four, seen by the lanes. Assumes nothing.
use Rattle.integers.proofs.Prelude.{◌≡◌, refl, ap, List, ℕ, ◌+◌, ◌*◌, ◌≤◌, ◌<◌, arith, ℤ, pos, length, sets}
use mathlib.Core.Logic.{◌⊎◌, inl, inr, ◌≢◌}
use Rattle.lists.specs.Tabulated.{tab}
use Rattle.lists.proofs.Tabulated.{sets_at}
use Rattle.lanes.specs.Lanes.{in_lane}

-- two entries that stand at one place are the same entry of the same lane
pub same_entry : (L : ℕ) → (L ≡ 4) ⊎ (L ≡ 8) → (j l k m : ℕ) → l < L → m < L → L * j + l ≡ L * k + m → (j ≡ k) × (l ≡ m)
same_entry L (inl e) = rw e (λ j l k m a b q. (omega arith, omega arith))
same_entry L (inr e) = rw e (λ j l k m a b q. (omega arith, omega arith))

module _ (L h : ℕ) (is : (L ≡ 4) ⊎ (L ≡ 8)) (room : h + 4 ≤ L) (w : List ℤ) (j i : ℕ) (e : i ≡ L * j + h) (f : ℕ → ℤ) (long : i + 3 < length w) where
  -- entry j of the lanes from h on
  pub put_here : (k : ℕ) → k < 4 → in_lane L (sets w i (tab 4 f)) (h + k) j ≡ f k
  put_here k m =
      sets_at (λ z. z ≡ f k) (pos 0) (L * j + (h + k)) 4 i f w (omega arith) (λ n _ q. let same : n ≡ k = omega arith in ap f same)
      (λ out. absurd (out k m (omega arith)))

  -- any other
  pub put_other : (l n : ℕ) → l < L → (n ≢ j) ⊎ ((l < h) ⊎ (h + 4 ≤ l)) → in_lane L (sets w i (tab 4 f)) l n ≡ in_lane L w l n
  put_other l n m out =
      sets_at (λ z. z ≡ in_lane L w l n) (pos 0) (L * n + l) 4 i f w (omega arith)
      (λ k a q. let same = same_entry L is n l j (h + k) m (omega arith) (omega arith) in absurd (by out same.0 (omega (arith, same.1)) (omega (arith, same.1))))
      (λ _. refl)
    where
      by : (n ≢ j) ⊎ ((l < h) ⊎ (h + 4 ≤ l)) → n ≡ j → h ≤ l → l < h + 4 → ⊥
      by (inl a) b c d = a b
      by (inr (inl a)) b c d = omega arith
      by (inr (inr a)) b c d = omega arith
