-- `lines::write_bits` meets its contract: the bits so far are written. Assumes nothing.
use Rattle.integers.proofs.Prelude.{◌≡◌, [], ◌∷◌, ◌++◌, map, ◌+◌, arith, add-one, get_or, take, take-suc}
use mathlib.Core.List.{map-append}
use Rattle.program.specs.Frames.{glyph}
use Rattle.text.proofs.Wrote.{then}
use Rattle.lines.proofs.write_bits.Goals as goal

pub loop-bit-preserved : goal.loop-bit-preserved
loop-bit-preserved c =
    let w = c.args.word.now in
    let i = c.loop-bit.bit-index in
    let e : map glyph (take (i + 1) w) ≡ map glyph (take i w) ++ (glyph (get_or w i 0) ∷ []) = rw (add-one i, take-suc w i 0 (omega arith), map-append glyph (take i w) (get_or w i 0 ∷ [])) in
    rw (e, ← c.glyph.ensures) (then c.loop-bit.invariant c.byte.ensures)
