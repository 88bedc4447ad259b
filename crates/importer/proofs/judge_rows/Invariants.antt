-- The rows so far are sound, and those that are left decide.
use Rattle.importer.specs.Rows.{checks_of}
use Rattle.importer.proofs.Rows.{Walk}
use Rattle.importer.proofs.Judging.{Passed}
use Rattle.importer.proofs.judge_rows.Given as goal

abbrev pub invariant-loop : goal.invariant-loop
invariant-loop l = Walk l.rows l.counter l.degrees l.lists × Passed l.bits (checks_of l.rows) l.counter l.triples l.bytes
