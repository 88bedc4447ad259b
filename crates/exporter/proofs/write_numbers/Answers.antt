-- `exporter::write_numbers` meets its contract: the numbers so far. Assumes nothing.
use Rattle.integers.proofs.Prelude.{arith}
use Rattle.text.proofs.Wrote.{nothing, then, room_after}
use Rattle.exporter.specs.Lines.{spaced}
use Rattle.exporter.proofs.Lines.{spaced_next, spaced_room}
use Rattle.exporter.proofs.write_numbers.Goals as goal

pub loop-number-init : goal.loop-number-init
unfolding spaced
loop-number-init c = nothing c.args.text.now

pub field-requires : goal.field-requires
field-requires c =
    let l = c.loop-number in
    rw c.from.ensures (room_after _ l.invariant (omega (arith, c.requires, spaced_room c.args.numbers.now l.number-index (omega arith))))

pub loop-number-preserved : goal.loop-number-preserved
loop-number-preserved c =
    let l = c.loop-number in
    rw (spaced_next c.args.numbers.now l.number-index (omega arith), ← c.from.ensures) (then l.invariant c.field.ensures.text)
