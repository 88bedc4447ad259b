-- Rounding. Assumes nothing.
use Rattle.integers.proofs.Prelude.{◌≡◌, ℕ, ◌+◌, ◌*◌, ◌%◌, ◌≤◌, ◌<◌, arith}
use native.Mathlib.Nat.{div-add-mod', mod-lt, mul-le-mul_right}
use lib.Ieee.Nearest.{div_same, div_mono}
use Rattle.integers.specs.Nearest.{nearest, Nearest}

pub nearest_is : (n d : ℕ) → 0 < d → Nearest n d (nearest n d)
nearest_is n d h =
    let e : nearest n d * (2 * d) + (2 * n + d) % (2 * d) ≡ 2 * n + d = div-add-mod' (2 * n + d) (2 * d) in
    let l : (2 * n + d) % (2 * d) < 2 * d = mod-lt (2 * n + d) (omega arith) in
    record { above = omega arith; below = omega arith }

-- of two equal fractions
pub nearest_same : (n d k p : ℕ) → 0 < d → 0 < p → n * p ≡ k * d → nearest n d ≡ nearest k p
nearest_same n d k p h l e = div_same (2 * n + d) (2 * d) (2 * k + p) (2 * p) (omega arith) (omega arith) (omega arith)

-- of n / d and a larger fraction
pub nearest_mono : (n k d : ℕ) → 0 < d → n ≤ k → nearest n d ≤ nearest k d
nearest_mono n k d h l = div_mono (2 * n + d) (2 * d) (2 * k + d) (2 * d) (omega arith) (omega arith) (mul-le-mul_right (2 * d) (omega arith))
