-- `sides::row` meets its contract: the bits of the check so far. Assumes nothing.
use Rattle.integers.proofs.Prelude.{◌≡◌, List, [], ◌∷◌, ◌++◌, map, ℕ, suc, ◌+◌, ◌<◌, arith, add-one, length, get_or, take}
use Rattle.integers.proofs.Prelude.{take-suc}
use mathlib.Core.List.{map-append}
use Rattle.text.proofs.Appended.{one, long, then}
use Rattle.sides.proofs.row.Goals as goal
use Rattle.sides.proofs.row.Goals.{In-loop-i}

room : (c : In-loop-i) → c.args.at + c.loop-i.i < length c.loop-i.entries
room c = omega (arith, long c.loop-i.invariant, c.requires, c.loop-i-test.true, c.degree-degree.ensures.value)

bits_next : (c : List ℕ) (i x : ℕ) → i < length c → x ≡ get_or c i 0 → map suc (take (i + 1) c) ≡ map suc (take i c) ++ ((x + 1) ∷ [])
bits_next c i x h e = rw (add-one i, add-one x, take-suc c i 0 h, e) (map-append suc (take i c) (get_or c i 0 ∷ []))

pub loop-i-preserved : goal.loop-i-preserved
loop-i-preserved c =
    let e : c.args.at + (c.loop-i.i + 1) ≡ c.args.at + c.loop-i.i + 1 = omega arith in
    let t = bits_next c.args.check.now c.loop-i.i _ (omega (arith, c.degree-degree.ensures.value)) c.bit.ensures.value in
    rw (e, t) (then c.loop-i.invariant (one _ _ _ (room (goal.at.loop-i-preserved c).In-loop-i)))
