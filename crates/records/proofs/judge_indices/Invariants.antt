-- What is left to judge decides. Assumes nothing.
use Rattle.integers.proofs.Prelude.{◌≡◌, ◌-◌}
use Rattle.model.specs.Records.{judge_indices}
use Rattle.records.proofs.judge_indices.Given as goal

abbrev pub invariant-loop : goal.invariant-loop
invariant-loop l = judge_indices l.bits (l.degree - l.counter) l.low l.rest ≡ judge_indices l.bits l.degree 0 l.s
