-- The worked table holds, at the real quotient. Assumes nothing.
use Rattle.integers.proofs.Prelude.{◌≡◌, refl, ap, ap₂, ◌∙◌, fun_ext, Bool, ◌&&◌, List, [], ◌∷◌, ℕ, zero, suc, min, arith, lt-leb, le-leb, ℤ, pos, negsuc}
use Rattle.integers.proofs.Prelude.{neg_ℤ}
use lib.Dec.{leb-zero}
use Rattle.integers.specs.Nearest.{nearest}
use Rattle.quotient.specs.Quotient.{unit, quotient}
use Rattle.quotient.proofs.Laws.{quotient_odd, quotient_is, rounded_by}
use Rattle.model.specs.Causes.{◌if◌}
use Rattle.model.specs.Splitting.{queue, triples_from, system_of}
use Rattle.model.specs.Iteration.{State, sign, row_sum, share, sum_of, occurrences, sums_of, values_of, rows_of, iterate}
use Rattle.model.specs.Run.{changes, settled_by, start, after, Ended, run_from}
use Rattle.model.specs.Reflection.{reflect}
use Rattle.model.specs.Channel.{cost_of_bits}
use Rattle.model.specs.Table.{Table, End, check_over, settings}
use Rattle.model.proofs.Runs.{stops, goes_on}

-- ---- the quotient computes, by its laws
abbrev pub computes : ℤ → ℤ → ℤ
computes n (pos zero) = quotient n (pos zero)
computes n (negsuc d) = quotient n (negsuc d)
computes (pos n) (pos (suc d)) = pos (min (nearest n (suc d)) unit)
computes (negsuc n) (pos (suc d)) = neg_ℤ (pos (min (nearest (suc n) (suc d)) unit))

size_computes : (n d : ℕ) → quotient (pos n) (pos (suc d)) ≡ pos (min (nearest n (suc d)) unit)
size_computes n d = quotient_is n (suc d) _ (omega arith) (rounded_by n (suc d) (omega arith))

pub quotient_computes : (n d : ℤ) → quotient n d ≡ computes n d
quotient_computes n (pos zero) = refl
quotient_computes n (negsuc d) = refl
quotient_computes (pos n) (pos (suc d)) = size_computes n d
quotient_computes (negsuc n) (pos (suc d)) = quotient_odd (pos (suc n)) (pos (suc d)) ∙ ap neg_ℤ (size_computes (suc n) d)

-- ---- all costs 0, for every X
abbrev zeros : List ℤ
zeros = pos 0 ∷ pos 0 ∷ pos 0 ∷ []

abbrev end_at : Ended → End
end_at e = record { k = e.k; settled = e.settled }

-- neither total exceeds X
abbrev neither : Bool → Bool → ℕ
neither s t = 1 if (s && t)

abbrev once : ℕ → State
once X = iterate computes (check_over 3) (settings 256 X) zeros (start (check_over 3))

computed : Table computes
unfolding queue triples_from system_of sign row_sum share sum_of occurrences sums_of values_of rows_of iterate changes settled_by start after run_from reflect cost_of_bits
computed = record {
  splitting_3 = refl;
  splitting_4 = refl;
  splitting_5 = refl;
  splitting_6 = refl;
  product_half = refl;
  product_minus_half = refl;
  product_large = refl;
  costs_1 = refl;
  costs_2 = refl;
  reflected = refl;
  cost_2 = refl;
  cost_minus_2 = refl;
  cost_1 = refl;
  cost_3 = refl;
  weight_512 = refl;
  zeros_below = λ X h.
      let o = settings 256 X in
      ap end_at (goes_on computes (check_over 3) o zeros 1 0 (start (check_over 3)) (ap₂ neither (leb-zero X) (lt-leb 1073741824 X h))
      ∙ stops computes (check_over 3) o zeros 0 1 (once X) 0 (ap₂ neither (leb-zero X) (leb-zero X)));
  zeros_from = λ X h. ap end_at (stops computes (check_over 3) (settings 256 X) zeros 1 0 (start (check_over 3)) 0 (ap₂ neither (leb-zero X) (le-leb 1073741824 X h)));
}

pub table : Table quotient
table = let e : quotient ≡ computes = fun_ext (λ n. fun_ext (quotient_computes n)) in rw e computed
