-- The header, and behind it the records of the rows so far.
use Rattle.integers.proofs.Prelude.{◌≡◌, ap, [], ◌≤◌, ◌<◌, arith, length, get_or}
use Rattle.model.specs.Limits.{most_degree}
use Rattle.model.specs.Code.{Code}
use Rattle.model.specs.Records.{header_of}
use Rattle.model.specs.Sound.{Sound}
use Rattle.model.proofs.Sound.{sound_at}
use Rattle.model.proofs.RecordClaims as claims
use Rattle.importer.specs.Rows.{Indexed, bits_at, checks_of, code_of_rows}
use Rattle.importer.proofs.Indices.{length_bits}
use Rattle.importer.proofs.Rows.{length_checks, walk_start, walk_known, walk_indexed, walk_check, walk_next}
use Rattle.importer.proofs.Writing.{begun, records_next, room_next, records_all}
use Rattle.importer.proofs.write_code.Goals as goal
use Rattle.importer.proofs.write_code.Goals.{Start, After-known-degree}

-- ---- the code
module _ (s : Start) where
  abbrev code : Code
  code = code_of_rows s.args.bits s.args.rows.now

  sound : Sound code
  sound = (claims.sound code).0 s.requires.sound

  count_is : length code.checks ≡ s.args.rows.now.count
  count_is = length_checks s.requires.sided

pub write_header-requires-clause-bits : goal.write_header-requires-clause-bits
write_header-requires-clause-bits c = omega (arith, (sound (goal.at.write_header-requires-clause-bits c).Start).bits_most)

pub write_header-requires-clause-room : goal.write_header-requires-clause-room
write_header-requires-clause-room c = omega (arith, c.requires.room)

pub loop-init : goal.loop-init
loop-init c =
    (walk_start c.requires.sided c.new-degrees.ensures c.new-lists.ensures, begun (checks_of c.args.rows.now) (rw c.from.ensures at c.write_header.ensures))

pub known-degree-requires : goal.known-degree-requires
known-degree-requires c = walk_known c.requires.sided c.loop.counter c.loop-test.true c.loop.invariant.0

-- ---- the row at hand
module _ (n : After-known-degree) where
  abbrev start : Start
  start = (goal.at.After-known-degree n).Start

  there : n.loop.counter < length (checks_of n.args.rows.now)
  there = omega (arith, count_is start, n.loop-test.true)

  here : get_or (checks_of n.args.rows.now) n.loop.counter [] ≡ bits_at n.loop.lists n.known-degree.result
  here = walk_check n.requires.sided n.loop.counter n.loop-test.true n.loop.invariant.0 n.known-degree.ensures

  indexed : Indexed n.loop.lists n.known-degree.result
  indexed = walk_indexed n.requires.sided n.loop.counter n.loop-test.true n.loop.invariant.0 n.known-degree.ensures

  short : n.known-degree.result ≤ most_degree
  short =
      omega (
        arith,
        ap length here,
        length_bits indexed,
        (sound_at (code start).bits (checks_of n.args.rows.now) (sound start).checks n.loop.counter there).most,
      )

pub write_row-requires : goal.write_row-requires
write_row-requires c =
    let k = (goal.at.write_row-requires c).After-known-degree in record {
      indexed = rw c.from-in-loop.ensures (indexed k);
      degree = omega (arith, short k, c.from-in-loop.ensures);
      room = room_next (code (start k)) c.args.rows.now.count c.loop.counter (count_is (start k)) (there k) (here k) c.requires.room c.loop.invariant.1
          (omega (arith, length_bits (indexed k), c.from-in-loop.ensures));
    }

pub loop-preserved : goal.loop-preserved
loop-preserved c =
    let k = (goal.at.loop-preserved c).After-known-degree in
    let told = (rw c.from-in-loop.ensures at c.write_row.ensures) in (
      walk_next c.requires.sided c.loop.counter c.loop-test.true c.loop.invariant.0 c.known-degree.ensures c.from-most.ensures c.pass.ensures,
      records_next (checks_of c.args.rows.now) c.loop.counter (there k) (here k) (header_of c.args.bits c.args.rows.now.count) c.loop.invariant.1 told,
    )

pub returns : goal.returns
returns c =
    let s = (goal.at.returns c).Start in
    records_all (code s) c.args.rows.now.count c.loop.counter (count_is s) (omega arith) c.loop.invariant.1
