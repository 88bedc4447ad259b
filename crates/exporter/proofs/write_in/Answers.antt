-- `exporter::write_in` meets its contract: the head, the lists of the columns and those of the rows. Assumes nothing.
use Rattle.integers.proofs.Prelude.{◌≡◌, refl, sym, ap, ◌∙◌, List, ◌++◌, map, ℕ, suc, arith, rules, length}
use denote.MutBor.{MutBor}
use Rattle.lists.specs.Tabulated.{tab, written}
use Rattle.model.specs.Alist.{column_from, alist_of}
use Rattle.model.specs.AlistClaims.{joined}
use Rattle.text.specs.Wrote.{Room}
use Rattle.text.proofs.Wrote.{then, room_here, room_next, front}
use Rattle.exporter.specs.Lines.{head_text, lists_text}
use Rattle.exporter.proofs.Work.{places_asked, side_columns, side_rows, text, room}
use Rattle.exporter.proofs.write_in.Goals as goal
use Rattle.exporter.proofs.write_in.Goals.{After-column_degrees, After-column_entries, After-row_entries}

-- ---- the degrees of the columns, d, and what the entries will be
module _ (c : After-column_degrees) where
  abbrev d : List ℕ
  d = c.column_degrees.new.degrees

  abbrev rows : List ℕ
  rows = c.args.rows.now

  abbrev checks : List (List ℕ)
  checks = c.args.code.now.checks

  abbrev of_columns : List ℕ
  of_columns = joined (tab c.args.code.now.bits (λ b. column_from 0 b checks))

  abbrev of_rows : List ℕ
  of_rows = joined (map (map suc) checks)

  begun : Room (length (alist_of c.args.code.now)) c.new-text.result
  begun = omega (arith, c.requires.room, c.new-text.ensures.start, ap (λ (b : MutBor (List ℕ)). length b.now) c.new-text.ensures.list)

  parts : (e : List ℕ) → e ≡ of_columns → (f : List ℕ) → f ≡ of_rows → Room (length (head_text d rows ++ (lists_text d e ++ lists_text rows f))) c.new-text.result
  parts e of_e f of_f = room c.requires.lists _ c.column_degrees.ensures e of_e f of_f c.new-text.result begun

pub write_head-requires-clause-room : goal.write_head-requires-clause-room
write_head-requires-clause-room c =
    let k = (goal.at.write_head-requires-clause-room c).After-column_degrees in
    room_here c.new-text.result (head_text (d k) (rows k)) (lists_text (d k) (of_columns k) ++ lists_text (rows k) (of_rows k)) (parts k _ refl _ refl)

pub column_entries-requires-clause-sum : goal.column_entries-requires-clause-sum
column_entries-requires-clause-sum c = (places_asked c.requires.lists _ c.column_degrees.ensures).0

pub column_entries-requires-clause-places : goal.column_entries-requires-clause-places
column_entries-requires-clause-places c = (places_asked c.requires.lists _ c.column_degrees.ensures).1

-- ---- the entries of the columns, e
pub write_lists-requires-clause-lists : goal.write_lists-requires-clause-lists
write_lists-requires-clause-lists c = side_columns c.requires.lists _ c.column_degrees.ensures _ c.column_entries.ensures

-- after the head, whatever the entries of the rows are
left : (c : After-column_entries) → let k = (goal.at.After-column_entries c).After-column_degrees in
    (f : List ℕ) → f ≡ of_rows k → Room (length (lists_text (d k) c.column_entries.new.entries ++ lists_text (rows k) f)) c.write_head.new.text
left c f of_f =
    let k = (goal.at.After-column_entries c).After-column_degrees in
    room_next (lists_text (d k) c.column_entries.new.entries ++ lists_text (rows k) f) c.write_head.ensures (parts k _ c.column_entries.ensures f of_f)

pub write_lists-requires-clause-room : goal.write_lists-requires-clause-room
write_lists-requires-clause-room c =
    let e = (goal.at.write_lists-requires-clause-room c).After-column_entries in
    let k = (goal.at.After-column_entries e).After-column_degrees in
    room_here c.write_head.new.text (lists_text (d k) c.column_entries.new.entries) (lists_text (rows k) (of_rows k)) (left e (of_rows k) refl)

-- ---- the entries of the rows, f
pub write_lists-requires-2-clause-lists : goal.write_lists-requires-2-clause-lists
write_lists-requires-2-clause-lists c = side_rows c.requires.lists _ c.column_degrees.ensures _ c.column_entries.ensures _ c.row_entries.ensures

pub write_lists-requires-2-clause-room : goal.write_lists-requires-2-clause-room
write_lists-requires-2-clause-room c =
    let e = (goal.at.After-row_entries (goal.at.write_lists-requires-2-clause-room c).After-row_entries).After-column_entries in
    room_next (lists_text c.args.rows.now c.row_entries.new.entries) c.write_lists.ensures (left e _ c.row_entries.ensures)

pub returns : goal.returns
returns c =
    let all = then c.write_head.ensures (then c.write_lists.ensures c.write_lists-2.ensures) in
    let back : _ ≡ c.write_lists-2.new.text.bytes.now = search rules in
    let begun = ap (λ (b : MutBor (List ℕ)). b.now) c.new-text.ensures.list in
    let whole = sym (text c.requires.lists _ c.column_degrees.ensures _ c.column_entries.ensures _ c.row_entries.ensures) in
    back ∙ front all c.new-text.ensures.start ∙ rw begun (ap (λ (t : List ℕ). written t c.args.text.now) whole)
