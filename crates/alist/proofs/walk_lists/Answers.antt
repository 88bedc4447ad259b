-- The lists that are left decide.
use Rattle.integers.proofs.Prelude.{◌≡◌, ◌∙◌, ◌-◌, ◌*◌, arith, add-one}
use Rattle.numbers.specs.Sides.{degrees_in, lists_in}
use Rattle.numbers.proofs.Walk.{next_at, none_at}
use Rattle.alist.proofs.Filled.{lists_none, lists_not, lists_more, lists_behind, lists_end}
use Rattle.alist.proofs.Reading.{some_then, none_then}
use Rattle.alist.proofs.walk_lists.Goals as goal

pub loop-init : goal.loop-init
loop-init c =
    let s = c.args.side.now in
    let n : s.count - 0 ≡ s.count = omega arith in
    let z : 0 * s.most ≡ 0 = omega arith in
    (rw (n, z), c.new-degrees.ensures, rw z c.new-lists.ensures)

pub returns-in_err-degree : goal.returns-in_err-degree
returns-in_err-degree c =
    let s = c.args.side.now in
    let v = c.loop.invariant in
    let i = c.loop.counter in
    c.from_residual.ensures
    ∙ rw (v.0, lists_none s.count s.most i (degrees_in s) (lists_in s) c.loop-test.true (omega arith) (none_at (degrees_in s) i v.1 c.in_err-degree.ensures.missing))

pub returns-in_err-lists : goal.returns-in_err-lists
returns-in_err-lists c =
    let s = c.args.side.now in
    let v = c.loop.invariant in
    let i = c.loop.counter in
    let x = next_at (degrees_in s) i v.1 c.in_ok-degree.ensures.found in
    c.from_residual-in_err-lists.ensures
    ∙ rw (v.0, lists_not s.count s.most i (degrees_in s) (lists_in s) c.loop-test.true x.0 v.2 (none_then _ _ c.in_err-lists.ensures))

pub loop-preserved : goal.loop-preserved
loop-preserved c =
    let s = c.args.side.now in
    let v = c.loop.invariant in
    let i = c.loop.counter in
    let x = next_at (degrees_in s) i v.1 c.in_ok-degree.ensures.found in
    let list = some_then _ _ _ c.in_ok-lists.ensures in (
      v.0 ∙ lists_more s.count s.most i (degrees_in s) (lists_in s) c.loop-test.true x.0 v.2 list.0,
      rw (add-one i) x.1,
      list.1 ∙ lists_behind s.count s.most i (degrees_in s) (lists_in s) c.loop-test.true x.0 v.2,
    )

pub returns : goal.returns
returns c =
    let s = c.args.side.now in
    let v = c.loop.invariant in
    let e : c.loop.counter ≡ s.count = omega arith in
    rw (v.0, lists_end s.count s.most c.loop.counter _ _ (omega arith), v.2, e)
