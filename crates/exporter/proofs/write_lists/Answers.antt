-- `exporter::write_lists` meets its contract: the lines of the lists so far. Assumes nothing.
use Rattle.integers.proofs.Prelude.{refl, ap, ℕ, arith, length, take_all}
use Rattle.model.specs.Alist.{text_of}
use Rattle.text.proofs.Wrote.{nothing, then, room_after}
use Rattle.exporter.specs.Lines.{filled_text}
use Rattle.exporter.proofs.Lists.{Listed, listed}
use Rattle.exporter.proofs.write_lists.Goals as goal
use Rattle.exporter.proofs.write_lists.Goals.{After-from}

pub loop-degree-init : goal.loop-degree-init
unfolding text_of
loop-degree-init c = (refl, nothing c.args.text.now)

-- one more
here : (c : After-from) → Listed c.largest-most.result c.args.degrees.now c.args.entries.now c.loop-degree.degree-index c.loop-degree.first c.from.result
here c = listed _ _ _ c.requires.lists.long _ (omega arith) _ _ c.loop-degree.invariant.0 c.from.ensures

pub overflow_add-end : goal.overflow_add-end
overflow_add-end c = omega (arith, (here (goal.at.overflow_add-end c).After-from).inside)

pub offset_bounds-entries-first : goal.offset_bounds-entries-first
offset_bounds-entries-first c = omega (arith, (here (goal.at.offset_bounds-entries-first c).After-from).inside)

pub slice_bounds-write_list-end : goal.slice_bounds-write_list-end
slice_bounds-write_list-end c = omega (arith, (here (goal.at.slice_bounds-write_list-end c).After-from).inside)

pub write_list-requires-clause-short : goal.write_list-requires-clause-short
write_list-requires-clause-short c =
    let h = here (goal.at.write_list-requires-clause-short c).After-from in
    omega (arith, h.long, h.small, c.largest-most.ensures.0)

pub write_list-requires-clause-room : goal.write_list-requires-clause-room
write_list-requires-clause-room c =
    let h = here (goal.at.write_list-requires-clause-room c).After-from in
    let same = ap (λ (n : ℕ). length (filled_text n c.args.degrees.now c.args.entries.now)) c.largest-most.ensures.0 in
    room_after _ c.loop-degree.invariant.1 (omega (arith, h.room, same, c.requires.room))

pub loop-degree-preserved : goal.loop-degree-preserved
loop-degree-preserved c =
    let h = here (goal.at.loop-degree-preserved c).After-from in
    (h.ends, rw h.next (then c.loop-degree.invariant.1 c.write_list.ensures))

pub returns : goal.returns
returns c = rw (take_all c.loop-degree.degree-index c.args.degrees.now (omega arith), c.largest-most.ensures.0) at c.loop-degree.invariant.1
