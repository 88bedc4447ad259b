-- `renewal::renew_rest` meets its contract: what remains at t comes to the same as what remained at first. Assumes nothing.
use Rattle.integers.proofs.Prelude.{◌≡◌, refl, sym, ap, ◌∙◌, ℕ, ◌+◌, ◌≤◌, arith, rules}
use Rattle.renewal.specs.InPlace.{renewed_from}
use Rattle.renewal.proofs.Renewal.{four_renewed, all_done}
use Rattle.renewal.proofs.renew_rest.Goals as goal
use Rattle.renewal.proofs.renew_rest.Goals.{Start, At-loop-t, In-loop-t}

abbrev start : At-loop-t → Start
start l = (goal.at.At-loop-t l).Start

-- four triples more are there
room : (c : In-loop-t) → c.loop-t.t + 4 ≤ (start (goal.at.In-loop-t c).At-loop-t).args.count
room c = omega (arith, c.loop-t.invariant.0, c.loop-t-test.true)

pub loop-t-preserved : goal.loop-t-preserved
loop-t-preserved c =
    let a = (start (goal.at.loop-t-preserved c).At-loop-t).args in
    let h = room (goal.at.loop-t-preserved c).In-loop-t in
    let r = four_renewed a.count a.triples.now a.values.now c.loop-t.t c.loop-t.rows c.renew_four-four.new.rows c.renew_four-four.result.old c.renew_four-four.result.new 0 0 _ _ c.loop-t.invariant.0 (omega (arith, h)) c.loop-t.invariant.1
    c.renew_four-four.ensures.old_loaded c.renew_four-four.ensures.new_renewed c.renew_four-four.ensures.rows_after refl refl in
    ((omega arith, omega (arith, c.loop-t.invariant.0, h)), r.left, r.rows ∙ c.loop-t.invariant.2)

pub returns : goal.returns
returns c =
    let a = (start (goal.at.returns c).At-loop-t).args in
    let e : a.count ≡ c.loop-t.t = omega (arith, c.loop-t.invariant.0, c.loop-t-test.false) in
    sym (all_done a.count a.triples.now a.values.now c.loop-t.rows c.loop-t.invariant.1.long)
    ∙ ap (λ (t : ℕ). renewed_from a.count a.triples.now a.values.now t c.loop-t.rows) e ∙ c.loop-t.invariant.2

pub loop-t-init : goal.loop-t-init
loop-t-init c = (c.requires.aligned.0, c.requires.aligned.1, refl)

pub thirds-c-requires : goal.thirds-c-requires
thirds-c-requires c = let s = start (goal.at.thirds-c-requires c).At-loop-t in record { in_lists = (omega (arith, s.requires.sized, room c), omega (arith, s.requires.sized, room c)); valued = s.requires.valued; known = s.requires.known }

pub renew_four-four-requires : goal.renew_four-four-requires
renew_four-four-requires c = record { in_lists = search (rules, room (goal.at.renew_four-four-requires c).In-loop-t, c.loop-t.invariant.1.long); valued = (start (goal.at.renew_four-four-requires c).At-loop-t).requires.valued; small = c.loop-t.invariant.1.small; thirds = c.thirds-c.ensures }

pub overflow_add-t : goal.overflow_add-t
overflow_add-t c = omega (arith, (start (goal.at.overflow_add-t c).At-loop-t).requires.sized, room (goal.at.overflow_add-t c).In-loop-t)

pub loop-t-smaller : goal.loop-t-smaller
loop-t-smaller c = omega (arith, room (goal.at.loop-t-smaller c).In-loop-t)

pub shape_of-rows : goal.shape_of-rows
shape_of-rows c = c.loop-t.invariant.1.long ∙ (start (goal.at.shape_of-rows c).At-loop-t).requires.sized.2
