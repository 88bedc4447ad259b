use Rattle.integers.proofs.Prelude.{◌≡◌, sym, ap, false, ℕ, suc, ◌+◌, ◌-◌, ◌*◌, ◌≤◌, arith, add-one, length, take, drop}
use Rattle.lists.specs.Tabulated.{part}
use Rattle.lists.specs.Entries.{some}
use Rattle.lists.proofs.Tabulated.{over_next}
use Rattle.lists.proofs.Entries.{below_next}
use Rattle.lists.proofs.Parts.{part_end}
use Rattle.model.specs.Calls.{forbidden}
use Rattle.model.specs.DecoderClaims.{Small}
use Rattle.group.proofs.Runs.{started}
use Rattle.group.proofs.begin_frames.Goals as goal
use Rattle.group.proofs.begin_frames.Goals.{In-loop-f}

-- ---- the frame at hand
module _ (i : In-loop-f) where
  costs_end : suc i.loop-f.f * i.args.bits ≤ length i.args.costs.now
  costs_end = omega (arith, part_end i.args.bits i.args.frames i.loop-f.f i.loop-f-test.true, i.requires.0)

  -- what is lent of the costs
  lent : take (i.loop-f.f * i.args.bits + i.args.bits - i.loop-f.f * i.args.bits) (drop (i.loop-f.f * i.args.bits) i.args.costs.now)
      ≡ part i.args.bits i.loop-f.f i.args.costs.now
  lent =
      let size : i.loop-f.f * i.args.bits + i.args.bits - i.loop-f.f * i.args.bits ≡ i.args.bits = omega arith in
      ap (λ (n : ℕ). take n (drop (i.loop-f.f * i.args.bits) i.args.costs.now)) size

pub loop-f-preserved : goal.loop-f-preserved
loop-f-preserved c =
    let i = (goal.at.loop-f-preserved c).In-loop-f in
    let f = c.loop-f.f in
    let a = c.args in (
      rw (c.loop-f.invariant.0, add-one f) (over_next f (started a.bits a.costs.now) a.stages.now c.stage_of.result (omega (arith, c.loop-f-test.true, c.requires.1)) (sym (rw (lent i) at c.stage_of.ensures.value))),
      below_next (λ g. some forbidden (part a.bits g a.costs.now) ≡ false → Small (part a.bits g a.costs.now)) f c.loop-f.invariant.1 (rw (lent i) at c.stage_of.ensures.small),
    )
