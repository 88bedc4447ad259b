-- `lines::write_place` meets its contract: the opening, then the place. Assumes nothing.
use Rattle.integers.proofs.Prelude.{arith}
use Rattle.text.proofs.Appended.{long}
use Rattle.text.proofs.Decimals.{decimal_few}
use Rattle.text.proofs.Wrote.{then}
use Rattle.lines.proofs.write_place.Goals as goal

pub field-requires : goal.field-requires
field-requires c = omega (arith, decimal_few c.args.place (omega arith), c.requires, c.write_opening.ensures.short, long c.write_opening.ensures.text.bytes)

pub returns : goal.returns
returns c = then c.write_opening.ensures.text c.field.ensures.text
