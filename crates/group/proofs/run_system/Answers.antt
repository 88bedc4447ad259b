use Rattle.integers.proofs.Prelude.{ap}
use Rattle.model.specs.Splitting.{system_of}
use Rattle.model.specs.Calls.{Lists, lists_of}
use Rattle.lanes.specs.declared.Plan.{Plan}
use Rattle.group.proofs.Runs.{plan_few, Begun, begun, room_of, held, all_marks, work_fits, given, ran}
use Rattle.group.proofs.run_system.Goals as goal
use Rattle.group.proofs.run_system.Goals.{Start, After-begin_frames}

pub write_system-requires : goal.write_system-requires
unfolding system_of
write_system-requires c = let r = c.requires.accepted.1.room in record { room = (r.members, r.counts) }

abbrev lists : Start → Lists
lists c = let a = c.args in lists_of a.triples.now a.counts.now a.sums.now a.values.now a.rows.now c.requires.accepted.0

started : (c : After-begin_frames)
    → Begun c.args.code.now c.args.settings c.args.frames c.plan_for-p.result c.args.costs.now c.write_system.new.triples c.write_system.new.counts c.begin_frames.new.stages
started c =
    begun _ _ _ _ (lists (goal.at.After-begin_frames c).Start) _ c.requires.accepted.1 _ c.plan_for-p.ensures.plan _
    (ap (λ (q : Plan). q.bits) c.plan_for-p.ensures.plan) _ c.write_system.ensures.triples_after _ c.write_system.ensures.counts_after _ _ c.requires.stages
    c.begin_frames.ensures.stages c.begin_frames.ensures.small

pub size-size-requires : goal.size-size-requires
size-size-requires c = plan_few _ c.requires.accepted.1.sound _ _ c.plan_for-p.ensures.plan

pub run-requires : goal.run-requires
run-requires c =
    let b = started (goal.at.run-requires c).After-begin_frames in
    let a = c.requires.accepted.1 in
    record {
      fits = (work_fits b c.args.work.now c.size-size.result c.size-size.ensures a.room.work, given b);
      marks = (all_marks _ _ a.frames _ _ b.stages_are, held _ _ _ _ (lists (goal.at.run-requires c).Start) _ a _ c.plan_for-p.ensures.plan);
    }

pub returns : goal.returns
returns c =
    let b = started (goal.at.returns c).After-begin_frames in
    let a = c.requires.accepted.1 in
    record {
      split = (c.write_system.ensures.triples_after, c.write_system.ensures.counts_after);
      ran = ran b _ c.args.sums.now c.args.values.now c.args.rows.now _ _ _ (room_of _ _ _ _ (lists (goal.at.returns c).Start) _ a _ c.plan_for-p.ensures.plan) c.run.ensures.marks.1
          c.run.ensures.ends;
    }
