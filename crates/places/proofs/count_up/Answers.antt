-- So many numbers of the block are counted.
use Rattle.integers.proofs.Prelude.{◌≡◌, refl, List, ℕ, ◌+◌, ◌-◌, ◌≤◌, ◌<◌, arith, leb-true, length, get_or, take, set, take_all}
use mathlib.Core.Logic.{⊎_elim}
use Rattle.lists.specs.Entries.{sum}
use Rattle.places.specs.Counters.{in_rows, More}
use Rattle.places.proofs.Counters.{sum_set, more_none}
use Rattle.places.proofs.Counting.{Stands, row_start, stands_first, in_list, list_goes_on, list_ends, Up, up_turn}
use Rattle.places.proofs.count_up.Goals as goal
use Rattle.places.proofs.count_up.Goals.{Start, At-loop-value, After-from-value, else-i-most, else-left-value, then-i-most, then-left-value+then-value-left}

pub overflow_mul-row : goal.overflow_mul-row
overflow_mul-row c =
    let a = c.args in
    omega (arith, row_start a.window (length a.counters.now) a.most a.first (length a.values.now) c.requires.0 c.requires.1)

pub loop-value-init : goal.loop-value-init
loop-value-init c = (more_none _ _ (λ p h. refl), omega arith, omega arith, stands_first _ _ _ refl, omega arith)

-- ---- the number at hand
module _ (x : After-from-value) where
  abbrev turn : At-loop-value
  turn = (goal.at.After-from-value x).At-loop-value

  abbrev start : Start
  start = (goal.at.At-loop-value turn).Start

  up : Up start.args.window start.args.most start.args.first start.args.values.now start.args.counters.now turn.loop-value.counters
      turn.loop-value.row turn.loop-value.value-index x.from-value.result
  up =
      up_turn start.requires.0 x.loop-value-test.true x.from-value.ensures start.requires.1 start.requires.2 turn.loop-value.invariant.3 turn.loop-value.invariant.0

  abbrev place : ℕ
  place = turn.loop-value.row + (x.from-value.result - start.args.window.left - 1)

  abbrev Next : List ℕ → ℕ → Type 0
  Next counters n =
      More (in_rows start.args.window start.args.most start.args.first (take (turn.loop-value.value-index + 1) start.args.values.now))
      start.args.counters.now counters
      × (sum counters ≡ sum start.args.counters.now + n) × (n ≤ turn.loop-value.value-index + 1)

  counted : start.args.window.left < x.from-value.result → x.from-value.result ≤ start.args.window.left + start.args.window.width
      → Next (set turn.loop-value.counters place (get_or turn.loop-value.counters place 0 + 1)) (turn.loop-value.«open» + 1)
  counted l r = (
    up.counted l r,
    omega (arith, sum_set turn.loop-value.counters place (get_or turn.loop-value.counters place 0 + 1) (omega (arith, up.row_fits)), turn.loop-value.invariant.1),
    omega (arith, turn.loop-value.invariant.2),
  )

pub loop-value-preserved : goal.loop-value-preserved
loop-value-preserved c =
    let l = (turn (goal.at.loop-value-preserved c).After-from-value).loop-value in
    let a = (start (goal.at.loop-value-preserved c).After-from-value).args in
    let some = (start (goal.at.loop-value-preserved c).After-from-value).requires.1.some in
    let n : Next (goal.at.loop-value-preserved c).After-from-value c.if-left-value.counters c.if-left-value.«open»
    = elim c.if-left-value.branch [
      | then-left-value+then-value-left w ↦ rw (w.counters-is, w.open-is) (counted (goal.at.loop-value-preserved c).After-from-value w.if-left-value.true w.if-value-left.true)
      | else-left-value w ↦ let out = (up (goal.at.loop-value-preserved c).After-from-value).passed (⊎_elim (λ v l r. omega arith) (λ v l r. omega arith) w.else-left-value.branch-raw) in
          rw (w.counters-is, w.open-is) (out, l.invariant.1, omega (arith, l.invariant.2))
    ] in
    let g : Stands a.first (l.value-index + 1) a.most a.window.width c.if-i-most.row c.if-i-most.i
    = elim c.if-i-most.branch [ then-i-most w ↦ rw (w.row-is, w.i-is) (list_ends l.invariant.3 some w.if-i-most.true) | else-i-most w ↦ rw (w.row-is, w.i-is) (list_goes_on l.invariant.3 some w.if-i-most.false) ] in
    (n.0, n.1, n.2, g, omega arith)

pub returns : goal.returns
returns c =
    let l = c.loop-value in
    let a = c.args in
    let e : take l.value-index a.values.now ≡ a.values.now = take_all l.value-index a.values.now c.loop-value-test.false in
    record { more = rw (← e) l.invariant.0; counted = l.invariant.1; bound = omega arith }

pub overflow_add-counters : goal.overflow_add-counters
overflow_add-counters c = omega (arith, leb-true, (up (goal.at.overflow_add-counters c).After-from-value).row_fits)

pub offset_bounds-counters-row : goal.offset_bounds-counters-row
offset_bounds-counters-row c = omega (arith, leb-true, (up (goal.at.offset_bounds-counters-row c).After-from-value).row_fits)

pub overflow_add-counters-then-value-left : goal.overflow_add-counters-then-value-left
overflow_add-counters-then-value-left c = omega (arith, (up (goal.at.overflow_add-counters-then-value-left c).After-from-value).fits c.if-left-value.true (leb-true _ _ c.if-value-left.true-raw))

pub bounds-counters-row-then-value-left : goal.bounds-counters-row-then-value-left
bounds-counters-row-then-value-left c = omega (arith, leb-true, (up (goal.at.bounds-counters-row-then-value-left c).After-from-value).row_fits)

pub overflow_add-i : goal.overflow_add-i
overflow_add-i c = omega (arith, in_list (turn (goal.at.overflow_add-i c).After-from-value).loop-value.invariant.3 (start (goal.at.overflow_add-i c).After-from-value).requires.1)

pub overflow_add-row : goal.overflow_add-row
overflow_add-row c = omega (arith, (up (goal.at.overflow_add-row c).After-from-value).row_fits)

pub shape_of-counters : goal.shape_of-counters
shape_of-counters c = c.loop-value.invariant.0.long

pub bounds-counters-row : goal.bounds-counters-row
bounds-counters-row c = omega (arith, leb-true, (up (goal.at.bounds-counters-row c).After-from-value).row_fits)
