-- The degrees that are left decide.
use Rattle.integers.proofs.Prelude.{◌≡◌, refl, sym, ◌∙◌, List, ℕ, ◌<◌, arith, add-one, lt-ltb, le-ltb, ltb, length, get_or, take}
use Rattle.integers.proofs.Prelude.{length-take-le, get_or-take}
use Rattle.lists.proofs.Entries.{every_next, every_stop, every_end}
use Rattle.numbers.specs.Walked.{none}
use Rattle.numbers.proofs.Walk.{next_at, small_part}
use Rattle.importer.proofs.all_named.Goals as goal
use Rattle.importer.proofs.all_named.Goals.{After-known-degree}

pub loop-init : goal.loop-init
loop-init c = (refl, c.again-degrees_left.ensures)

pub known-degree-requires : goal.known-degree-requires
known-degree-requires c = rw c.loop.invariant.1 (small_part c.loop.counter 1 c.args.count c.args.degrees.now (omega arith) c.requires)

-- the degree at hand
module _ (c : After-known-degree) where
  abbrev first : List ℕ
  first = take c.args.count c.args.degrees.now

  abbrev i : ℕ
  i = c.loop.counter

  value : get_or first i none ≡ c.known-degree.result
  value = get_or-take c.args.count c.args.degrees.now i none c.loop-test.true ∙ sym (next_at c.args.degrees.now i c.loop.invariant.1 c.known-degree.ensures).0

  there : i < length first
  there = omega (arith, c.loop-test.true, length-take-le c.args.count c.args.degrees.now c.requires.long)

pub returns-then-degree-eq0 : goal.returns-then-degree-eq0
returns-then-degree-eq0 c =
    let k = (goal.at.returns-then-degree-eq0 c).After-known-degree in
    let bare = le-ltb 0 (get_or (first k) (i k) none) (omega (arith, value k, c.if-degree-eq0.true)) in
    sym (c.loop.invariant.0 ∙ every_stop (ltb 0) (first k) (i k) none (there k) bare)

pub loop-preserved : goal.loop-preserved
loop-preserved c =
    let k = (goal.at.loop-preserved c).After-known-degree in
    let passes = lt-ltb 0 (get_or (first k) (i k) none) (omega (arith, value k, c.if-degree-eq0.false)) in
    rw (add-one (i k)) (
      c.loop.invariant.0 ∙ every_next (ltb 0) (first k) (i k) none (there k) passes,
      (next_at c.args.degrees.now (i k) c.loop.invariant.1 c.known-degree.ensures).1,
    )

pub returns : goal.returns
returns c =
    let ds = c.args.degrees.now in
    sym (c.loop.invariant.0 ∙ every_end (ltb 0) (take c.args.count ds) c.loop.counter (omega (arith, length-take-le c.args.count ds c.requires.long)))
