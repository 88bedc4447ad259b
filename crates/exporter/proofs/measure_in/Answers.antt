-- `exporter::measure_in` meets its contract: the pairs, the columns and the rows. Assumes nothing.
use Rattle.integers.proofs.Prelude.{refl}
use Rattle.exporter.proofs.Texts.{measured}
use Rattle.exporter.proofs.Work.{places_asked, side_columns, side_rows, text}
use Rattle.exporter.proofs.measure_in.Goals as goal

pub column_entries-requires-clause-sum : goal.column_entries-requires-clause-sum
column_entries-requires-clause-sum c = (places_asked c.requires _ c.column_degrees.ensures).0

pub column_entries-requires-clause-places : goal.column_entries-requires-clause-places
column_entries-requires-clause-places c = (places_asked c.requires _ c.column_degrees.ensures).1

pub side_size-first-requires : goal.side_size-first-requires
side_size-first-requires c = side_columns c.requires _ c.column_degrees.ensures _ c.column_entries.ensures

pub side_size-second-requires : goal.side_size-second-requires
side_size-second-requires c = side_rows c.requires _ c.column_degrees.ensures _ c.column_entries.ensures _ c.row_entries.ensures

pub returns : goal.returns
returns c =
    measured _ _ _ _ _ _ _ refl refl (text c.requires _ c.column_degrees.ensures _ c.column_entries.ensures _ c.row_entries.ensures)
    _ _ c.largest.ensures.0 c.largest-2.ensures.0
    _ _ _ _ _ _ c.digits.ensures.0 c.digits-2.ensures.0 c.digits-3.ensures.0 c.digits-4.ensures.0
    c.side_size-first.ensures.0 c.side_size-second.ensures.0
