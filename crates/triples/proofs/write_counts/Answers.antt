use Rattle.integers.proofs.Prelude.{sym, ◌∙◌, ◌≤◌, arith, length, length-take-le}
use Rattle.model.specs.Code.{variables}
use Rattle.model.specs.Splitting.{system_of}
use Rattle.triples.proofs.Counting.{none_counted, may_count, one_counted, all_counted}
use Rattle.triples.proofs.write_counts.Goals as goal
use Rattle.triples.proofs.write_counts.Goals.{Start}

room : (c : Start) → variables c.args.code.now ≤ length c.args.counts.now
unfolding system_of
room c = c.requires.room

pub slice_bounds-fill-end : goal.slice_bounds-fill-end
slice_bounds-fill-end c = omega (arith, c.variables.ensures.value, room (goal.at.slice_bounds-fill-end c).Start)

pub slice_bounds-fill-end-2 : goal.slice_bounds-fill-end-2
slice_bounds-fill-end-2 c =
    sym (length-take-le c.variables.result c.args.counts.now (omega (arith, c.variables.ensures.value, room (goal.at.slice_bounds-fill-end-2 c).Start)))

pub loop-v-init : goal.loop-v-init
loop-v-init c =
    none_counted _ c.variables.ensures.sound _ c.requires.members _ (room (goal.at.loop-v-init c).Start) _ _ c.variables.ensures.value (c.fill.ensures.after (λ x e. e))

pub count-requires : goal.count-requires
count-requires c =
    may_count _ c.variables.ensures.sound _ c.requires.members _ (room (goal.at.count-requires c).Start) _ c.loop-v-test.true _ c.loop-v.invariant

pub loop-v-preserved : goal.loop-v-preserved
loop-v-preserved c =
    c.count.ensures
    ∙ one_counted _ c.variables.ensures.sound _ c.requires.members _ (room (goal.at.loop-v-preserved c).Start) _ c.loop-v-test.true _ c.loop-v.invariant

pub returns : goal.returns
returns c =
    all_counted _ c.variables.ensures.sound _ c.requires.members _ (room (goal.at.returns c).Start) _ _ (omega (arith, c.loop-v-test.false)) (omega (arith, c.loop-v.auto)) c.loop-v.invariant
