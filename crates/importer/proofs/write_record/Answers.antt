-- What the writer wrote from the front is the list.
use Rattle.integers.proofs.Prelude.{ap, List, ℕ, arith, rules, length}
use denote.MutBor.{MutBor}
use Rattle.importer.proofs.Writing.{from_front}
use Rattle.importer.proofs.write_record.Goals as goal

pub write_row-requires-clause-room : goal.write_row-requires-clause-room
write_row-requires-clause-room c =
    omega (arith, c.requires.room, c.new-out.ensures.start, ap (λ (b : MutBor (List ℕ)). length b.now) c.new-out.ensures.list)

pub returns : goal.returns
returns c =
    from_front c.write_row.ensures c.new-out.ensures.start (ap (λ (b : MutBor (List ℕ)). b.now) c.new-out.ensures.list) (search rules)
