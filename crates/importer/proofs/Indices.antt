-- The indices of a row, one by one. Assumes nothing.
use Rattle.integers.proofs.Prelude.{◌≡◌, sym, ap, ◌∙◌, List, ◌∷◌, ℕ, suc, ◌-◌, ◌≤◌, ◌<◌, arith, ltb-true, ltb, length, get_or, take, drop, length-map}
use Rattle.integers.proofs.Prelude.{length-take-le, get_or-take}
use lib.ListN.{get_or-map}
use Rattle.lists.proofs.Entries.{every_at}
use Rattle.model.specs.Limits.{most_number}
use Rattle.numbers.specs.Walked.{none, Small}
use Rattle.numbers.proofs.Walk.{next_at, small_at, small_part, same_at}
use Rattle.importer.specs.Rows.{Indexed, bits_at}

module _ {l : List ℕ} {degree : ℕ} (row : Indexed l degree) where
  pub length_bits : length (bits_at l degree) ≡ degree
  length_bits = length-map (take degree l) (λ i. i - 1) ∙ length-take-le degree l row.small.long

  -- index i is next where i of them were passed
  module _ (i : ℕ) {left : List ℕ} (h : i < degree) (stand : left ≡ drop i l) where
    pub index_known : Small 1 left
    index_known = rw stand (small_part i 1 degree l (omega arith) row.small)

    pub index_at : {value : ℕ} {after : List ℕ} → left ≡ value ∷ after
        → (1 ≤ value) × (value ≤ most_number) × (get_or (bits_at l degree) i 0 ≡ value - 1) × (after ≡ drop (suc i) l)
    index_at {value} next =
        let x = next_at l i stand next in
        let many = length-take-le degree l row.small.long in
        let same : get_or (take degree l) i 0 ≡ value = get_or-take degree l i 0 h ∙ same_at l i 0 none (omega (arith, row.small.long)) ∙ sym x.0 in
        let above = ltb-true 0 (get_or (take degree l) i 0) (every_at (ltb 0) (take degree l) i 0 row.above (omega arith)) in (
          omega arith,
          omega (arith, x.0, small_at degree l i none row.small h),
          get_or-map (λ i. i - 1) (take degree l) i 0 ∙ ap (λ (i : ℕ). i - 1) same,
          x.1,
        )
