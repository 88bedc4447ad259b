-- `exporter::write_pair` meets its contract: a number and a space, a number and a line feed. Assumes nothing.
use Rattle.integers.proofs.Prelude.{[], ◌∷◌, ◌++◌, append_assoc, arith, length-append}
use Rattle.model.specs.Text.{decimal}
use Rattle.model.specs.Alist.{line_of}
use Rattle.text.proofs.Wrote.{then, room_after}
use Rattle.exporter.proofs.Lines.{length_line}
use Rattle.exporter.proofs.write_pair.Goals as goal

pub field-requires : goal.field-requires
field-requires c = omega (arith, c.requires, length_line (c.args.x ∷ c.args.y ∷ []) (omega arith))

pub field-requires-2 : goal.field-requires-2
field-requires-2 c =
    let size = length_line (c.args.x ∷ c.args.y ∷ []) (omega arith) in
    room_after _ c.field.ensures.text (omega (arith, c.requires, size, length-append (decimal c.args.x) (32 ∷ [])))

pub returns : goal.returns
unfolding line_of
returns c = rw (← append_assoc (decimal c.args.x) (32 ∷ []) (decimal c.args.y ++ (10 ∷ []))) (then c.field.ensures.text c.field-2.ensures.text)
