use Rattle.group.proofs.Runs.{plan_few}
use Rattle.group.proofs.lacks_room.Goals as goal

pub size-requires : goal.size-requires
size-requires c = plan_few _ c.plan_for.ensures.sound _ _ c.plan_for.ensures.plan
