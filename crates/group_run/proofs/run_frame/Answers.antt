-- `group_run::run_frame` meets its contract: the parts that are lent hold the system, and come back. Assumes nothing.
use Rattle.integers.proofs.Prelude.{◌≡◌, refl, ap, ◌∙◌, List, ℕ, suc, ◌+◌, ◌-◌, ◌*◌, ◌≤◌, ◌<◌, arith, rules, ℤ, length, length-set, take, drop}
use Rattle.lists.specs.Tabulated.{part}
use Rattle.lists.proofs.Parts.{length_part, part_end}
use Rattle.group_step.proofs.Settled.{still}
use Rattle.group_run.proofs.Alone.{stops, ended_alone}
use Rattle.group_run.proofs.run_frame.Goals as goal
use Rattle.group_run.proofs.run_frame.Goals.{Start}

module _ (s : Start) where
  inside : s.args.f < length s.args.frames.now.stages
  inside = omega (arith, s.args.frames.now.marked.long, s.args.frames.now.few, s.requires.inside.0)

  -- from where on, and up to where a part is lent
  size_is : (size : ℕ) → (s.args.f * size + size) - s.args.f * size ≡ size
  size_is size = omega arith

  abbrev lent : ℕ → List ℤ → List ℤ
  lent size l = take ((s.args.f * size + size) - s.args.f * size) (drop (s.args.f * size) l)

  lent_is : (size : ℕ) (l : List ℤ) → lent size l ≡ part size s.args.f l
  lent_is size l = ap (λ (m : ℕ). take m (drop (s.args.f * size) l)) (size_is size)

  lent_long : (size : ℕ) (l : List ℤ) → suc s.args.f * size ≤ length l → length (lent size l) ≡ size
  lent_long size l h = ap length (lent_is size l) ∙ length_part size s.args.f l h

pub returns-clause-ended : goal.returns-clause-ended
returns-clause-ended c g k =
    let s = (goal.at.returns-clause-ended c).Start in
    let x = c.args.frames.now in
    let p = x.walk.plan in
    let f = c.args.f in
    let n = p.variables in
    let m = 4 * p.triples in
    let S : suc f * n ≤ length x.sums.now = omega (arith, part_end n x.count f c.requires.inside.0, x.held.sums_long) in
    let V : suc f * n ≤ length x.values.now = omega (arith, part_end n x.count f c.requires.inside.0, x.held.values_long) in
    let R : suc f * m ≤ length x.rows.now = omega (arith, part_end m x.count f c.requires.inside.0, x.held.rows_long) in
    ended_alone p f x.stages x.sums.now x.values.now x.rows.now (inside s) S V R
    _ _ _ c.go_on-ending.new.sums c.go_on-ending.new.values c.go_on-ending.new.rows (size_is s n) (size_is s m)
    (c.go_on-ending.auto.sums ∙ lent_long s n x.sums.now S) (c.go_on-ending.auto.values ∙ lent_long s n x.values.now V)
    (c.go_on-ending.auto.rows ∙ lent_long s m x.rows.now R) _
    (rw (length_part n f x.values.now V) at (rw (size_is s p.bits, size_is s n, size_is s m) at (c.go_on-ending.ensures k))) g

pub returns-clause-stops : goal.returns-clause-stops
returns-clause-stops c g = stops c.args.frames.now.stages c.args.f _ refl (inside (goal.at.returns-clause-stops c).Start) g

pub invariant_of-frames-clause-marked : goal.invariant_of-frames-clause-marked
invariant_of-frames-clause-marked c =
    let x = c.args.frames.now in
    record { long = length-set x.stages c.args.f _ ∙ x.marked.long; below = λ g r. x.marked.below g (still x.stages c.args.f _ (inside (goal.at.invariant_of-frames-clause-marked c).Start) refl g r) }
