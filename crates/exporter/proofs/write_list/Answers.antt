-- `exporter::write_list` meets its contract: the numbers, the zeros, and the line feed in the place of the last space. Assumes nothing.
use Rattle.integers.proofs.Prelude.{◌∙◌, ◌+◌, ◌-◌, ◌*◌, ◌≤◌, arith, length}
use lib.ListN.{replicate}
use Rattle.model.specs.Alist.{fill}
use Rattle.model.proofs.AlistForm.{length_fill}
use Rattle.text.specs.Wrote.{Room, Wrote}
use Rattle.text.proofs.Wrote.{then, room_after}
use Rattle.exporter.specs.Lines.{spaced}
use Rattle.exporter.proofs.Lines.{length_spaced, spaced_append, some_spaced, length_filled, ended}
use Rattle.exporter.proofs.write_list.Goals as goal
use Rattle.exporter.proofs.write_list.Goals.{Start, After-write_zeros}

room : (s : Start) → let a = s.args in Room (length (spaced a.list.now) + 2 * (a.most - length a.list.now)) a.text.now
room s =
    let a = s.args in
    omega (arith, s.requires.room, length_filled a.most a.list.now s.requires.some s.requires.short, length_spaced a.list.now)

pub write_numbers-requires : goal.write_numbers-requires
write_numbers-requires c = omega (arith, room (goal.at.write_numbers-requires c).Start)

pub write_zeros-requires : goal.write_zeros-requires
write_zeros-requires c = room_after _ c.write_numbers.ensures (room (goal.at.write_zeros-requires c).Start)

-- the list and its fill, each number with a space behind it
module _ (c : After-write_zeros) where
  filled : Wrote (spaced (fill c.args.most c.args.list.now)) c.args.text.now c.write_zeros.new.text
  filled = rw (spaced_append c.args.list.now (replicate (c.args.most - length c.args.list.now) 0)) (then c.write_numbers.ensures c.write_zeros.ensures)

  some : 1 ≤ length (fill c.args.most c.args.list.now)
  some = omega (arith, length_fill c.args.most c.args.list.now c.requires.short, c.requires.some)

pub replace_last-requires : goal.replace_last-requires
replace_last-requires c =
    let z = (goal.at.replace_last-requires c).After-write_zeros in
    omega (arith, (filled z).bytes.ends, some_spaced (fill c.args.most c.args.list.now) (some z))

pub returns : goal.returns
returns c =
    let z = (goal.at.returns c).After-write_zeros in
    record { bytes = ended (fill c.args.most c.args.list.now) (some z) (filled z).bytes c.replace_last.ensures.bytes; same = c.replace_last.ensures.same ∙ (filled z).same }
