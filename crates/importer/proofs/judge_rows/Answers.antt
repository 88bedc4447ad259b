-- The rows so far are sound, and those that are left decide.
use Rattle.integers.proofs.Prelude.{◌≡◌, [], ◌<◌, arith, length, get_or}
use Rattle.std.proofs.lemmas.Result.{err_from_is_err_and}
use Rattle.importer.specs.Rows.{Indexed, bits_at, checks_of}
use Rattle.importer.proofs.Rows.{length_checks, walk_start, walk_known, walk_indexed, walk_check, walk_next}
use Rattle.importer.proofs.Judging.{check_sizes, passed_start, passed_next, passed_not, passed_all}
use Rattle.importer.proofs.judge_rows.Goals as goal
use Rattle.importer.proofs.judge_rows.Goals.{After-known-degree}

pub loop-init : goal.loop-init
loop-init c = (walk_start c.requires.sided c.new-degrees.ensures c.new-lists.ensures, passed_start _ _)

pub known-degree-requires : goal.known-degree-requires
known-degree-requires c = walk_known c.requires.sided c.loop.counter c.loop-test.true c.loop.invariant.0

-- ---- the row at hand
module _ (c : After-known-degree) where
  there : c.loop.counter < length (checks_of c.args.rows.now)
  there = omega (arith, length_checks c.requires.sided, c.loop-test.true)

  here : get_or (checks_of c.args.rows.now) c.loop.counter [] ≡ bits_at c.loop.lists c.known-degree.result
  here = walk_check c.requires.sided c.loop.counter c.loop-test.true c.loop.invariant.0 c.known-degree.ensures

  indexed : Indexed c.loop.lists c.known-degree.result
  indexed = walk_indexed c.requires.sided c.loop.counter c.loop-test.true c.loop.invariant.0 c.known-degree.ensures

pub judge_row-requires : goal.judge_row-requires
judge_row-requires c = let k = indexed (goal.at.judge_row-requires c).After-known-degree in let e = c.from.ensures in rw e k

pub returns-in_err-row : goal.returns-in_err-row
returns-in_err-row c =
    let k = (goal.at.returns-in_err-row c).After-known-degree in
    let p = err_from_is_err_and c.from_residual.result c.from_residual.ensures.1 in
    let told = (rw c.from.ensures at c.in_err-row.ensures) in
    rw (p.1, p.2) (passed_not c.loop.invariant.1 (there k) (here k) told)

pub overflow_add-triples : goal.overflow_add-triples
overflow_add-triples c =
    omega (arith, check_sizes _ _ c.in_ok-row.ensures, c.loop.invariant.1.few_triples, c.loop-test.true, c.requires.few)

pub overflow_add-bytes : goal.overflow_add-bytes
overflow_add-bytes c =
    omega (arith, check_sizes _ _ c.in_ok-row.ensures, c.loop.invariant.1.few_bytes, c.loop-test.true, c.requires.few)

pub loop-preserved : goal.loop-preserved
loop-preserved c =
    let k = (goal.at.loop-preserved c).After-known-degree in
    let told = (rw c.from.ensures at c.in_ok-row.ensures) in (
      walk_next c.requires.sided c.loop.counter c.loop-test.true c.loop.invariant.0 c.known-degree.ensures c.from-most.ensures c.pass.ensures,
      passed_next c.loop.invariant.1 (there k) (here k) told,
    )

pub returns : goal.returns
returns c = passed_all c.loop.invariant.1 (omega (arith, length_checks c.requires.sided))
