-- `writer::write_indices` meets its contract: the indices so far are written. Assumes nothing.
use Rattle.integers.proofs.Prelude.{◌≡◌, ◌++◌, ◌+◌, arith, add-one, get_or, take, length-take-le}
use Rattle.model.specs.Records.{two, bytes_of}
use Rattle.text.proofs.Wrote.{nothing, then, room_after}
use Rattle.records.proofs.Written.{length_bytes, bytes_next}
use Rattle.records.proofs.writer.write_indices.Goals as goal

pub loop-index-init : goal.loop-index-init
unfolding bytes_of
loop-index-init c = nothing c.args.out.now

pub write_two_bytes-requires-clause-room : goal.write_two_bytes-requires-clause-room
write_two_bytes-requires-clause-room c =
    let indices = c.args.indices.now in
    let i = c.loop-index.index-index in
    room_after 2 c.loop-index.invariant (omega (arith, length_bytes (take i indices), length-take-le i indices (omega arith), c.requires))

pub loop-index-preserved : goal.loop-index-preserved
loop-index-preserved c =
    let indices = c.args.indices.now in
    let i = c.loop-index.index-index in
    let e : bytes_of (take (i + 1) indices) ≡ bytes_of (take i indices) ++ two (get_or indices i 0) = rw (add-one i) (bytes_next indices i (omega arith)) in
    rw (e, ← c.from.ensures) (then c.loop-index.invariant c.write_two_bytes.ensures)
