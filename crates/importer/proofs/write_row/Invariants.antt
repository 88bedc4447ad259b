-- The first bits are in the row.
use Rattle.integers.proofs.Prelude.{◌≡◌, length, take, drop}
use Rattle.importer.specs.Rows.{bits_at}
use Rattle.importer.proofs.write_row.Given as goal

abbrev pub invariant-loop-i : goal.invariant-loop-i
invariant-loop-i l = (take l.i l.bits ≡ take l.i (bits_at l.row l.degree)) × (length l.bits ≡ 32) × (l.indices ≡ drop l.i l.row)
