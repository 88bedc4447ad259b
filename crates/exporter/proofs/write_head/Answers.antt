-- `exporter::write_head` meets its contract: the pairs and the lines of the degrees, one after another. Assumes nothing.
use Rattle.integers.proofs.Prelude.{◌≡◌, List, [], ◌∷◌, ◌++◌, append_assoc, ℕ, length}
use Rattle.model.specs.Alist.{largest, line_of}
use Rattle.text.specs.Wrote.{Wrote}
use Rattle.text.proofs.Wrote.{then, room_next}
use Rattle.exporter.specs.Lines.{head_text}
use Rattle.exporter.proofs.Lines.{fill_none}
use Rattle.exporter.proofs.write_head.Goals as goal
use Rattle.exporter.proofs.write_head.Goals.{After-write_list}

module _ (c : After-write_list) where
  abbrev columns : List ℕ
  columns = c.args.columns.now

  abbrev rows : List ℕ
  rows = c.args.rows.now

  -- what stands before the degrees of the rows
  abbrev before : List ℕ
  before = line_of (length columns ∷ length rows ∷ []) ++ (line_of (largest columns ∷ largest rows ∷ []) ++ line_of columns)

  begun : Wrote before c.args.text.now c.write_list.new.text
  begun = then c.write_pair.ensures (then (rw (← c.largest.ensures.0, ← c.largest-2.ensures.0) c.write_pair-2.ensures) (rw (fill_none columns) at c.write_list.ensures))

  whole : head_text columns rows ≡ before ++ line_of rows
  whole = simp append_assoc

pub write_list-requires-2-clause-room : goal.write_list-requires-2-clause-room
write_list-requires-2-clause-room c =
    let l = (goal.at.write_list-requires-2-clause-room c).After-write_list in
    rw (fill_none (rows l)) (room_next (line_of (rows l)) (begun l) (rw (← whole l) c.requires.room))

pub returns : goal.returns
returns c =
    let l = (goal.at.returns c).After-write_list in
    rw (whole l) (then (begun l) (rw (fill_none (rows l)) at c.write_list-2.ensures))
