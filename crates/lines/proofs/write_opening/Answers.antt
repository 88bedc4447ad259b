-- `lines::write_opening` meets its contract: a letter and two fields. Assumes nothing.
use Rattle.integers.proofs.Prelude.{[], ◌∷◌, ◌++◌, append_assoc, arith}
use Rattle.model.specs.Text.{decimal}
use Rattle.program.specs.Frames.{opening}
use Rattle.text.proofs.Decimals.{decimal_few}
use Rattle.text.proofs.Wrote.{then, room_after}
use Rattle.lines.proofs.write_opening.Goals as goal

pub field-requires : goal.field-requires
field-requires c = room_after _ c.write_letter.ensures (omega (arith, decimal_few c.args.ending.k (omega arith), c.requires))

pub field-requires-2 : goal.field-requires-2
field-requires-2 c =
    let few = decimal_few c.args.ending.k (omega arith) in
    room_after _ (then c.write_letter.ensures c.field.ensures.text) (omega (arith, few, decimal_few c.from-settled.result (omega arith), c.requires))

pub returns-clause-text : goal.returns-clause-text
unfolding opening
returns-clause-text c =
    let e = c.args.ending in
    rw (← c.from-settled.ensures, ← append_assoc (decimal e.k) (32 ∷ []) (decimal c.from-settled.result ++ (32 ∷ [])))
    (then (then c.write_letter.ensures c.field.ensures.text) c.field-2.ensures.text)
