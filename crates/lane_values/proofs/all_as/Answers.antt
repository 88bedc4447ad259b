-- `lane_values::all_as` meets its contract: where all so far are in as many triples as v, the variables below u are. Assumes nothing.
use Rattle.integers.proofs.Prelude.{◌≡◌, ◌≤◌, ◌<◌, arith, rules, eqb-true, eqb, length, get_or}
use Rattle.lists.proofs.Entries.{below_next}
use Rattle.lists.proofs.Tests.{and_left, and_right}
use Rattle.lane_values.proofs.all_as.Goals as goal
use Rattle.lane_values.proofs.all_as.Goals.{Start, At-loop-u, In-loop-u}

module _ (c : In-loop-u) where
  abbrev turn : At-loop-u
  turn = (goal.at.In-loop-u c).At-loop-u

  abbrev start : Start
  start = (goal.at.At-loop-u turn).Start

  inside : (turn.loop-u.u < length start.args.counts.now) × (start.args.v < length start.args.counts.now)
  inside = (omega arith, omega arith)

pub loop-u-preserved : goal.loop-u-preserved
loop-u-preserved c =
    let l = turn (goal.at.loop-u-preserved c).In-loop-u in
    let a = l.args in
    let counts = a.counts.now in
    let here = eqb (get_or counts l.loop-u.u 0) (get_or counts a.v 0) in (
      omega arith,
      omega arith,
      λ e.
          below_next (λ k. a.from ≤ k → get_or counts k 0 ≡ get_or counts a.v 0) l.loop-u.u (l.loop-u.invariant.2 (and_left l.loop-u.same here e))
          (λ _. eqb-true (get_or counts l.loop-u.u 0) (get_or counts a.v 0) (and_right l.loop-u.same here e)),
    )

pub returns : goal.returns
returns c = λ e k h m. c.loop-u.invariant.2 e k (omega arith) h

pub loop-u-init : goal.loop-u-init
loop-u-init c = (omega arith, omega arith, λ e k h l. absurd (omega arith))

pub offset_bounds-counts-u : goal.offset_bounds-counts-u
offset_bounds-counts-u c = let h = (inside c).0 in search rules

pub bounds-counts-u : goal.bounds-counts-u
bounds-counts-u c = (inside (goal.at.bounds-counts-u c).In-loop-u).0

pub offset_bounds-counts-v : goal.offset_bounds-counts-v
offset_bounds-counts-v c = let h = (inside (goal.at.offset_bounds-counts-v c).In-loop-u).1 in search rules

pub bounds-counts-v : goal.bounds-counts-v
bounds-counts-v c = (inside (goal.at.bounds-counts-v c).In-loop-u).1
