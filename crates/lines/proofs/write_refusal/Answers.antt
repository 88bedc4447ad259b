-- `lines::write_refusal` meets its contract: the letter, then the number. Assumes nothing.
use Rattle.integers.proofs.Prelude.{arith}
use Rattle.program.specs.Frames.{refusal}
use Rattle.text.proofs.Decimals.{decimal_few}
use Rattle.text.proofs.Wrote.{then, room_after}
use Rattle.lines.proofs.write_refusal.Goals as goal

pub field-requires : goal.field-requires
field-requires c = room_after _ c.write_letter.ensures (omega (arith, decimal_few c.args.cause (omega arith), c.requires))

pub returns : goal.returns
unfolding refusal
returns c = then c.write_letter.ensures c.field.ensures.text
