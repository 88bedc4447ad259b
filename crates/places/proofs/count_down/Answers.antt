-- So many numbers of the block are counted.
use Rattle.integers.proofs.Prelude.{◌≡◌, refl, sym, List, ℕ, ◌+◌, ◌-◌, ◌*◌, ◌≤◌, ◌<◌, arith, leb-true, length, get_or, take, set, take_all}
use mathlib.Core.Logic.{⊎_elim}
use Rattle.lists.specs.Entries.{sum}
use Rattle.places.specs.Counters.{in_columns, More}
use Rattle.places.proofs.Counters.{sum_set, sum_at, more_none}
use Rattle.places.proofs.Counting.{Stands, stands_first, in_list, list_goes_on, list_ends, Down, down_turn}
use Rattle.places.proofs.count_down.Goals as goal
use Rattle.places.proofs.count_down.Goals.{Start, At-loop-value, After-from-value, Then-value-top, else-i-most, else-top-value, then-i-most, then-top-value+then-value-top+else-counters-place-eq0}

pub loop-value-init : goal.loop-value-init
loop-value-init c = (more_none _ _ (λ p h. refl), c.requires.2, stands_first _ _ _ (omega arith), omega arith)

-- ---- the number at hand
module _ (x : After-from-value) where
  abbrev turn : At-loop-value
  turn = (goal.at.After-from-value x).At-loop-value

  abbrev start : Start
  start = (goal.at.At-loop-value turn).Start

  down : Down start.args.window start.args.most start.args.first start.args.values.now start.args.counters.now turn.loop-value.counters
      turn.loop-value.column turn.loop-value.value-index x.from-value.result
  down =
      down_turn start.requires.0 x.loop-value-test.true x.from-value.ensures start.requires.1 turn.loop-value.invariant.2 turn.loop-value.invariant.0

  abbrev place : ℕ
  place = (x.from-value.result - start.args.window.top - 1) * start.args.window.width + turn.loop-value.column

  abbrev Next : List ℕ → ℕ → Type 0
  Next counters left =
      More (in_columns start.args.window start.args.most start.args.first (take (turn.loop-value.value-index + 1) start.args.values.now))
      counters start.args.counters.now
      × (left ≡ sum counters)

  counted : start.args.window.top < x.from-value.result → x.from-value.result ≤ start.args.window.top + start.args.window.height
      → 0 < get_or turn.loop-value.counters place 0
      → Next (set turn.loop-value.counters place (get_or turn.loop-value.counters place 0 - 1)) (turn.loop-value.left - 1)
  counted l r z = (
    down.counted l z,
    omega (arith, sum_set turn.loop-value.counters place (get_or turn.loop-value.counters place 0 - 1) (down.place_fits l r), turn.loop-value.invariant.1),
  )

-- in the window's rows
inside : (y : Then-value-top) → place (goal.at.Then-value-top y).After-from-value < length (turn (goal.at.Then-value-top y).After-from-value).loop-value.counters
inside y = (down (goal.at.Then-value-top y).After-from-value).place_fits y.if-top-value.true (leb-true _ _ y.if-value-top.true-raw)

pub returns-then-counters-place-eq0-clause-above : goal.returns-then-counters-place-eq0-clause-above
returns-then-counters-place-eq0-clause-above c =
    (down (goal.at.returns-then-counters-place-eq0-clause-above c).After-from-value).none_left c.if-top-value.true (leb-true _ _ c.if-value-top.true-raw) c.if-counters-place-eq0.true

pub overflow_sub-left : goal.overflow_sub-left
overflow_sub-left c =
    omega (arith, sum_at (turn (goal.at.overflow_sub-left c).After-from-value).loop-value.counters (place (goal.at.overflow_sub-left c).After-from-value), (turn (goal.at.overflow_sub-left c).After-from-value).loop-value.invariant.1, c.if-counters-place-eq0)

pub loop-value-preserved : goal.loop-value-preserved
loop-value-preserved c =
    let l = (turn (goal.at.loop-value-preserved c).After-from-value).loop-value in
    let a = (start (goal.at.loop-value-preserved c).After-from-value).args in
    let some = (start (goal.at.loop-value-preserved c).After-from-value).requires.1.some in
    let n : Next (goal.at.loop-value-preserved c).After-from-value c.if-top-value.counters c.if-top-value.left
    = elim c.if-top-value.branch [
      | then-top-value+then-value-top+else-counters-place-eq0 w ↦ rw (w.counters-is, w.left-is) (counted (goal.at.loop-value-preserved c).After-from-value w.if-top-value.true w.if-value-top.true (omega (arith, w.if-counters-place-eq0)))
      | else-top-value w ↦ let out = (down (goal.at.loop-value-preserved c).After-from-value).passed (⊎_elim (λ v l r. omega arith) (λ v l r. omega arith) w.else-top-value.branch-raw) in
          rw (w.counters-is, w.left-is) (out, l.invariant.1)
    ] in
    let g : Stands a.first (l.value-index + 1) a.most 1 c.if-i-most.column c.if-i-most.i
    = elim c.if-i-most.branch [ then-i-most w ↦ rw (w.column-is, w.i-is) (list_ends l.invariant.2 some w.if-i-most.true) | else-i-most w ↦ rw (w.column-is, w.i-is) (list_goes_on l.invariant.2 some w.if-i-most.false) ] in
    (n.0, n.1, g, omega arith)

pub returns-clause-more : goal.returns-clause-more
returns-clause-more c =
    let l = c.loop-value in
    let a = c.args in
    let e : take l.value-index a.values.now ≡ a.values.now = take_all l.value-index a.values.now c.loop-value-test.false in
    (rw (← e) l.invariant.0, l.invariant.1)

pub overflow_mul-place : goal.overflow_mul-place
overflow_mul-place c = omega (arith, inside c)

pub overflow_add-place : goal.overflow_add-place
overflow_add-place c = omega (arith, inside c)

pub offset_bounds-counters-place : goal.offset_bounds-counters-place
offset_bounds-counters-place c = omega (arith, inside c)

pub shape_of-counters-then-counters-place-eq0 : goal.shape_of-counters-then-counters-place-eq0
shape_of-counters-then-counters-place-eq0 c = sym c.loop-value.invariant.0.long

pub offset_bounds-counters-place-then-value-top : goal.offset_bounds-counters-place-then-value-top
offset_bounds-counters-place-then-value-top c = omega (arith, inside (goal.at.offset_bounds-counters-place-then-value-top c).Then-value-top)

pub overflow_sub-counters : goal.overflow_sub-counters
overflow_sub-counters c = omega (arith, c.if-counters-place-eq0)

pub bounds-counters-place-then-value-top-2 : goal.bounds-counters-place-then-value-top-2
bounds-counters-place-then-value-top-2 c = inside (goal.at.bounds-counters-place-then-value-top-2 c).Then-value-top

pub overflow_add-i : goal.overflow_add-i
overflow_add-i c = omega (arith, in_list (turn (goal.at.overflow_add-i c).After-from-value).loop-value.invariant.2 (start (goal.at.overflow_add-i c).After-from-value).requires.1)

pub overflow_add-column : goal.overflow_add-column
overflow_add-column c = omega (arith, (down (goal.at.overflow_add-column c).After-from-value).column_fits)

pub shape_of-counters : goal.shape_of-counters
shape_of-counters c = sym c.loop-value.invariant.0.long
