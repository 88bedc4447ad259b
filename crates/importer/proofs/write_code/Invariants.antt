-- The header, and behind it the records of the rows so far.
use Rattle.integers.proofs.Prelude.{◌++◌, take}
use Rattle.model.specs.Records.{header_of, check_records}
use Rattle.text.specs.Wrote.{Wrote}
use Rattle.importer.specs.Rows.{checks_of}
use Rattle.importer.proofs.Rows.{Walk}
use Rattle.importer.proofs.write_code.Given as goal

abbrev pub invariant-loop : goal.invariant-loop
invariant-loop l =
    Walk l.rows l.counter l.degrees l.lists
    × Wrote (header_of l.bits l.rows.count ++ check_records (take l.counter (checks_of l.rows))) l.fn.out l.out
