use Rattle.integers.proofs.Prelude.{◌≡◌, ◌+◌, ◌-◌, ◌*◌, ◌≤◌}
use Rattle.lists.specs.Entries.{total}
use Rattle.model.specs.Code.{triple_count}
use Rattle.model.specs.Records.{checks_in, after_checks, judge_checks}
use Rattle.reader.proofs.code.judge_checks.Given as goal

abbrev pub invariant-loop : goal.invariant-loop
invariant-loop l =
    let left = l.checks - l.counter in
    (judge_checks l.bits left l.rest ≡ judge_checks l.bits l.checks l.s)
    × (l.triples + total triple_count (checks_in left l.rest) ≡ total triple_count (checks_in l.checks l.s))
    × (after_checks left l.rest ≡ after_checks l.checks l.s)
    × (l.triples ≤ 253 * l.counter)
