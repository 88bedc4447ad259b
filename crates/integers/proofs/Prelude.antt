-- The toolchain's names that proofs want most often, passed on: a proof file takes them from here in a line.
pub use mathlib.Core.Path.{◌≡◌, refl, sym, ap, ap₂, subst, ◌∙◌, fun_ext}
pub use mathlib.Core.Bool.{Bool, true, false, not, cond, ◌&&◌, ◌||◌}
pub use mathlib.Core.List.{List, [], ◌∷◌, ◌++◌, map, append_assoc, append-nil}
pub use Prim.Native.Nat.{ℕ, zero, suc, ◌+◌, ◌-◌, ◌*◌, ◌/◌, ◌%◌, ◌^◌, ◌≤◌, ◌<◌, min, max}
pub use native.Mathlib.Omega.{arith}
pub use native.Mathlib.Numerals.{add-one, add-two}
pub use native.Mathlib.Decide.{dec_lt}
pub use borrow.Author.Rules.{rules}
pub use borrow.Author.Tests.{ltb-true, ltb-false, lt-ltb, le-ltb, leb-true, leb-false, lt-leb, le-leb, eqb-true, eqb-false, eq-eqb, ne_eqb, not-false, not-true}
pub use lib.Dec.{T, eqb, ltb, leb}
pub use lib.IntN.{ℤ, pos, negsuc, nat_abs, neg_ℤ, ◌+ℤ◌, ◌-ℤ◌, ◌*ℤ◌}
pub use lib.Signed.{lt_z, ◌≤ℤ◌, ◌<ℤ◌}
pub use lib.ListN.{length, get_or, take, drop, set, length-append, length-take, length-drop, length-set, length-map, take-append-drop, drop_of_length-le}
pub use lib.ListN.{get_or-append, get_or-eq_default}
pub use lib.Seq.{sets, length-take-le, take_at, take_all, take-take, take-add, take-suc, drop_at, drop-drop, drop-cons, get_or-take, get_or-drop, get_or-append-add}
pub use lib.Seq.{take-append_seam}
pub use mir.Syntax.{w16, w32, w64}
pub use mir.Val.{to_z, of_z}
pub use mir.Facts.{to_z-of_z}
