-- What changes of the frames of a group: their stages and the lists. Assumes nothing.
use Rattle.integers.proofs.Prelude.{◌≡◌, refl, ap, ◌∙◌, List, ℕ, ℤ}
use Rattle.model.specs.Run.{Ended}
use Rattle.model.specs.Group.{Frame}
use Rattle.lane_renewal.specs.declared.Walk.{Walk}
use Rattle.group_step.specs.declared.Stage.{Stage}
use Rattle.group_step.specs.declared.Frames.{Frames}
use Rattle.group_step.specs.Frames.{part_state, ended_in, frame_now}
use Rattle.group_step.specs.Lent.{part_in, end_in, frame_in, Kept}

pub record Parts : Type 0 where
  pub stages : List Stage
  pub sums : List ℤ
  pub values : List ℤ
  pub rows : List ℤ

abbrev pub parts_of : Frames → Parts
parts_of x = record { stages = x.stages; sums = x.sums.now; values = x.values.now; rows = x.rows.now }

pub kept_same : (x : Frames) → Kept x x
kept_same x = record { walk = refl; count = refl; sums = refl; values = refl; rows = refl }

pub kept_then : {x y z : Frames} → Kept x y → Kept y z → Kept x z
kept_then a b = record { walk = b.walk ∙ a.walk; count = b.count ∙ a.count; sums = b.sums ∙ a.sums; values = b.values ∙ a.values; rows = b.rows ∙ a.rows }

-- what they hold, by the plan that they had at first
module _ {x₀ x : Frames} (k : Kept x₀ x) where
  pub end_by : (f : ℕ) → end_in x f ≡ ended_in x₀.walk.plan x.stages x.sums.now x.values.now x.rows.now f
  end_by f = ap (λ (w : Walk). ended_in w.plan x.stages x.sums.now x.values.now x.rows.now f) k.walk

  pub frame_by : (i j : ℕ) (w : List ℤ) (f : ℕ) → frame_in i j w x f ≡ frame_now x₀.walk.plan i j w x.stages x.sums.now x.values.now x.rows.now f
  frame_by i j w f = ap (λ (v : Walk). frame_now v.plan i j w x.stages x.sums.now x.values.now x.rows.now f) k.walk

  pub part_by : (f : ℕ) → part_in x f ≡ part_state x₀.walk.plan x.sums.now x.values.now x.rows.now f
  part_by f = ap (λ (w : Walk). part_state w.plan x.sums.now x.values.now x.rows.now f) k.walk
