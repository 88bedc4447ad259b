-- `lane_step::advance` meets its contract: the values, then the rows. Assumes nothing.
use Rattle.integers.proofs.Prelude.{◌≡◌, ◌∙◌, true, cond, ℕ, suc, ◌-◌, ◌≤◌, ◌<◌, arith, dec_lt}
use mathlib.Core.Logic.{◌⊎◌, inl, inr}
use Rattle.lanes.specs.declared.Plan.{Plan}
use Rattle.lanes.specs.Lanes.{in_lane, lane_weighed}
use Rattle.lane_values.specs.Valued.{LaneValued}
use Rattle.lane_triples.specs.Walk.{Tripled, Walked, Halves}
use Rattle.lane_renewal.proofs.Tripling.{tripled}
use Rattle.lane_step.specs.Step.{runs, some_run, Small}
use Rattle.lane_step.proofs.Running.{first_runs, last_runs, halves}
use Rattle.lane_step.proofs.Step.{due, small_second, weighed_second, summed_second, goes_on, stops, small_left, weighed_left}
use Rattle.lane_step.proofs.advance.Goals as goal
use Rattle.lane_step.proofs.advance.Goals.{After-write_values, After-renew}

pub write_values-requires-clause-within : goal.write_values-requires-clause-within
write_values-requires-clause-within c = λ l h. let m = c.requires.small l h in (m.first, m.second, m.weighed)

-- ---- the values are written
module _ (m : After-write_values) where
  abbrev p : Plan
  p = m.args.walk.now.plan

  valued : (l : ℕ) → l < p.lanes → LaneValued p m.args.walk.now.counts.now m.args.settings.ratio m.args.i m.args.work.now m.write_values.new.work l
  valued l h = rw m.requires.ratio at (m.write_values.ensures.valued l h)

  half : Halves p (cond (some_run m.args.running.now 0) 0 4) (cond (some_run m.args.running.now 4) 8 4)
  half = halves p m.args.running.now m.requires.fits.0.lanes m.requires.below m.requires.one_runs.0 m.requires.one_runs.1

pub renew-requires-clause-fits : goal.renew-requires-clause-fits
renew-requires-clause-fits c =
    rw (c.first_lane.ensures, c.end_of_lanes.ensures) (c.write_values.ensures.fits, omega arith, half (goal.at.renew-requires-clause-fits c).After-write_values)

pub renew-requires-clause-due : goal.renew-requires-clause-due
renew-requires-clause-due c =
    let m = (goal.at.renew-requires-clause-due c).After-write_values in
    rw (c.first_lane.ensures, c.end_of_lanes.ensures)
    (λ l from to. let h : l < (p m).lanes = omega (arith, (half m).room) in due c.args.settings c.requires.fits.1 (valued m l h) (c.requires.small l h).rows)

-- ---- the rows are renewed
module _ (c : After-renew) where
  abbrev m : After-write_values
  m = (goal.at.After-renew c).After-write_values

  abbrev from : ℕ
  from = cond (some_run c.args.running.now 0) 0 4

  abbrev to : ℕ
  to = cond (some_run c.args.running.now 4) 8 4

  triples : Tripled (p m) c.args.walk.now.triples.now c.args.walk.now.counts.now
  triples = tripled c.args.walk.now.tripled

  module _ (l : ℕ) (h : l < (p m).lanes) where
    walked : from ≤ l → l < to → Walked (p m) c.args.walk.now.triples.now c.args.walk.now.counts.now (1 - c.args.i) c.write_values.new.work l (p m).triples c.renew.new.work
    walked = rw (c.first_lane.ensures, c.end_of_lanes.ensures) at (c.renew.ensures.walked l)

    left : (l < from) ⊎ (to ≤ l) → (j : ℕ) → in_lane (p m).lanes c.renew.new.work l j ≡ in_lane (p m).lanes c.write_values.new.work l j
    left o j = rw (c.first_lane.ensures, c.end_of_lanes.ensures) at (c.renew.ensures.beside l j h) o

    -- a lane is among those that are renewed, or it is left out
    either : (A : Type 0) → (from ≤ l → l < to → A) → ((l < from) ⊎ (to ≤ l) → A) → A
    either A x y = by (dec_lt l from) (dec_lt l to)
      where
        by : Dec (l < from) → Dec (l < to) → A
        by (yes a) _ = y (inl a)
        by (no a) (yes b) = x (omega arith) b
        by (no a) (no b) = y (inr (omega arith))

    abbrev v : LaneValued (p m) c.args.walk.now.counts.now c.args.settings.ratio c.args.i c.args.work.now c.write_values.new.work l
    v = valued m l h

    small_next : (n : ℕ) → Small (p m) c.args.walk.now.counts.now n c.args.work.now l → Small (p m) c.args.walk.now.counts.now (suc n) c.renew.new.work l
    small_next n =
        either (Small (p m) c.args.walk.now.counts.now n c.args.work.now l → Small (p m) c.args.walk.now.counts.now (suc n) c.renew.new.work l)
        (λ a b. small_second c.args.settings c.requires.fits.1 v triples (walked a b) n)
        (λ o. small_left c.args.settings c.requires.fits.1 v c.renew.new.work (left o) n)

    weighed_next : (x : ℕ) → lane_weighed (p m) c.renew.new.work l x ≡ lane_weighed (p m) c.args.work.now l x
    weighed_next x =
        either (lane_weighed (p m) c.renew.new.work l x ≡ lane_weighed (p m) c.args.work.now l x)
        (λ a b. weighed_second c.args.settings c.requires.fits.1 v triples (walked a b) x)
        (λ o. weighed_left c.args.settings c.requires.fits.1 v c.renew.new.work (left o) x)

  -- a frame that runs is among them
  module _ (f : ℕ) (r : runs c.args.running.now f ≡ true) where
    after_first : from ≤ f
    after_first = first_runs (p m) c.args.running.now c.requires.fits.0.lanes c.requires.below f r

    before_last : f < to
    before_last = last_runs (p m) c.args.running.now c.requires.fits.0.lanes c.requires.below f r

    renewed : Walked (p m) c.args.walk.now.triples.now c.args.walk.now.counts.now (1 - c.args.i) c.write_values.new.work f (p m).triples c.renew.new.work
    renewed = walked f (c.requires.below f r) after_first before_last

pub returns : goal.returns
returns c =
    let r = (goal.at.returns c).After-renew in
    let o = c.args.settings in
    record {
      fits = c.renew.ensures.fits;
      small = λ l n h. small_next r l h n;
      weighed = λ l x h. weighed_next r l h x;
      iterated = λ f s k costs weighed summed.
          let h = c.requires.below f s in
          let settles = rw (c.first_lane.ensures, c.end_of_lanes.ensures, c.from.ensures) at (c.renew.ensures.settles f) in (
            goes_on o c.requires.fits.1 (v r f h) (triples r) (renewed r f s) k costs weighed summed,
            settles (after_first r f s) (before_last r f s) s ∙ stops o c.requires.fits.1 (v r f h) (triples r) (renewed r f s) k costs weighed summed,
          );
      summed = λ f s. summed_second o c.requires.fits.1 (v r f (c.requires.below f s)) (triples r) (renewed r f s);
    }
