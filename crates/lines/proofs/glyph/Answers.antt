-- `lines::glyph` meets its contract: the definition's own test. Assumes nothing.
use Rattle.integers.proofs.Prelude.{ne_eqb}
use Rattle.lines.proofs.glyph.Goals as goal

pub returns-then-bit-eq0 : goal.returns-then-bit-eq0
returns-then-bit-eq0 c = rw c.if-bit-eq0.true

pub returns-else-bit-eq0 : goal.returns-else-bit-eq0
returns-else-bit-eq0 c = rw (ne_eqb _ 0 c.if-bit-eq0.false)
