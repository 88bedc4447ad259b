-- The costs of an erasing setting, and of a Gaussian one, sample by sample. Assumes nothing.
use Rattle.integers.proofs.Prelude.{◌≡◌, refl, sym, ap, fun_ext, Bool, true, false, not, cond, List, ℕ, ◌<◌, not-false, ℤ, pos, length, get_or}
use lib.Ieee.{Float, nan, binary32, is_nan, lt, neg, mul, to_bits}
use Rattle.lists.specs.Entries.{some}
use Rattle.lists.proofs.Entries.{some_at}
use Rattle.model.specs.declared.Erasure.{Erasure}
use Rattle.model.specs.declared.Channel.TheVariants.{Gaussian, Hard, Erasing}
use Rattle.model.specs.Channel.{finite, zero_float, in_range, hard, size_of, product, cost_of_bits, cost_of}
use Rattle.model.proofs.Products.{finite_number, scale_finite, weight_in_range, product_number, no_floor, hard_erasing}

-- a weight is no NaN, and neither is its negative
pub weight_number : (p : Erasure) → in_range (Erasing p) ≡ true → (is_nan p.weight ≡ false) × (is_nan (neg p.weight) ≡ false)
weight_number p h = finite_number p.weight (scale_finite p.weight (weight_in_range p h))

-- the cost of a product that is chosen is the one chosen of the costs
pub erasing_costs : (p : Erasure) (x : Float)
    → cost_of (Erasing p) x
    ≡ cond (lt (size_of x) p.floor) (pos 0)
    (cond (lt zero_float x) (cost_of_bits (to_bits binary32 p.weight)) (cond (lt x zero_float) (cost_of_bits (to_bits binary32 (neg p.weight))) (pos 0)))
unfolding cost_of product hard cost_of_bits to_bits
erasing_costs p x = by (lt (size_of x) p.floor) (lt zero_float x) (lt x zero_float)
  where
    cost : Float → ℤ
    cost y = cost_of_bits (to_bits binary32 y)

    by : (t u v : Bool)
        → cost (cond t zero_float (cond u p.weight (cond v (neg p.weight) zero_float)))
        ≡ cond t (pos 0) (cond u (cost p.weight) (cond v (cost (neg p.weight)) (pos 0)))
    by true u v = refl
    by false true v = refl
    by false false true = refl
    by false false false = refl

-- a hard setting is an erasing one whose floor erases nothing
pub hard_costs : (weight : Float) → cost_of (Erasing (no_floor weight)) ≡ cost_of (Hard weight)
unfolding cost_of
hard_costs weight = fun_ext (λ x. ap (λ (y : Float). cost_of_bits (to_bits binary32 y)) (sym (hard_erasing weight x)))

-- the product of a finite sample and a scale is no NaN
pub product_of : (scale : Float) (samples : List Float) (i : ℕ) → in_range (Gaussian scale) ≡ true → some (λ x. not (finite x)) samples ≡ false → i < length samples
    → is_nan (mul binary32 (get_or samples i nan) scale) ≡ false
unfolding product
product_of scale samples i ranged sound l =
    product_number (Gaussian scale) (get_or samples i nan) ranged (not-false (finite (get_or samples i nan)) (some_at (λ x. not (finite x)) samples i nan sound l))
