-- Laws of whole numbers. How to close a goal:
--
--   an equation, an order or a bound `nat_abs x ≤ n` that is linear, or a small ring identity, in the integers a, b:
--       rw (split a, split b) (simp to_ℕ (omega arith))                        (hypotheses left to the right of the colon go along)
--   the same from hypotheses that are bound, or that lie in a record `c` of facts:
--       omega (arith, read_ℤ, about a, about b)
--   a ring identity with more than 64 products:
--       simp ring (simp linear (omega arith))
--   a bound of a product or of a sum:
--       rw abs_mul (mul-le-mul h k)          omega (arith, abs_add a b)
--   a value of a width, and what a signed local holds: `Machine`
--   sums over a range: `Sums`; rounding: `Nearest`
pub mod Prelude
pub mod Linear
pub mod Machine
pub mod Sums
pub mod Nearest
pub mod Examples
