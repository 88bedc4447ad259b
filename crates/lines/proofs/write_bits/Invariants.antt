-- `lines::write_bits` meets its contract: the bits so far are written.
use Rattle.integers.proofs.Prelude.{map, take}
use Rattle.program.specs.Frames.{glyph}
use Rattle.text.specs.Wrote.{Wrote}
use Rattle.lines.proofs.write_bits.Given as goal

abbrev pub invariant-loop-bit : goal.invariant-loop-bit
invariant-loop-bit l = Wrote (map glyph (take l.bit-index l.word)) l.fn.out l.out
