-- `sides::row_entries` meets its contract: the rows so far. Assumes nothing.
use Rattle.integers.proofs.Prelude.{◌∷◌, arith, length}
use Rattle.reader.proofs.Done.{Done, one_done, all_done, total_left}
use Rattle.text.specs.Appended.{Appended}
use Rattle.text.proofs.Appended.{long, then}
use Rattle.sides.proofs.Rows.{rows_of, rows_next, length_rows, whole}
use Rattle.sides.proofs.row_entries.Goals as goal
use Rattle.sides.proofs.row_entries.Goals.{In-Some}

-- the checks that are done, and the one at hand
taken : (c : In-Some)
    → Done c.args.code.now.checks (c.in-Some.check ∷ c.next.new.self) (λ done. Appended 0 (rows_of done) c.args.entries.now c.loop-check.entries c.loop-check.at)
taken c = rw c.in-Some.ensures.steps at c.loop-check.invariant

pub row-at-requires : goal.row-at-requires
row-at-requires c =
    let d = taken (goal.at.row-at-requires c).In-Some in
    omega (arith, d.known.ends, length_rows d.items, total_left d length, long d.known, c.requires)

pub loop-check-preserved : goal.loop-check-preserved
loop-check-preserved c =
    let d = taken (goal.at.loop-check-preserved c).In-Some in
    one_done d _ (rw (rows_next d.items c.in-Some.check) (then d.known c.row-at.ensures))

pub returns : goal.returns
returns c =
    whole (all_done (rw c.in-None.ensures.steps.0 at c.loop-check.invariant)) (omega (arith, length_rows c.args.code.now.checks, c.requires))
