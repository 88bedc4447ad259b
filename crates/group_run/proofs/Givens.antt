-- What follows from what a group runs with. Assumes nothing.
use Rattle.integers.proofs.Prelude.{◌≡◌, sym, ap, ◌∙◌, Bool, true, ◌&&◌, List, ℕ, suc, ◌*◌, ◌≤◌, ◌<◌, arith, leb, leb-true, ℤ, length, get_or}
use Rattle.lists.specs.Tabulated.{part}
use Rattle.lists.specs.Entries.{every}
use Rattle.lists.proofs.Tabulated.{length_tab, get_or_tab}
use Rattle.lists.proofs.Entries.{every_at}
use Rattle.lists.proofs.Parts.{length_part, part_end}
use Rattle.lists.proofs.Tests.{and_left, and_right}
use Rattle.model.specs.declared.Settings.{Settings}
use Rattle.model.specs.Iteration.{occurrences}
use Rattle.model.specs.Bounds.{Lent}
use Rattle.renewal.specs.InPlace.{without_blank}
use Rattle.renewal.proofs.Renewal.{none_known}
use Rattle.lanes.specs.declared.Plan.{Plan}
use Rattle.lanes.specs.Lanes.{most_narrow}
use Rattle.lane_values.specs.Valued.{Counted}
use Rattle.lane_triples.specs.Walk.{Tripled, Narrow}
use Rattle.group_step.specs.declared.Stage.{Stage}
use Rattle.group_step.specs.Frames.{going, Held}
use Rattle.group_run.specs.Given.{Given}

-- fewer frames run
pub given_still : {p : Plan} {F : ℕ} {o : Settings} {ts counts : List ℕ} {costs : List ℤ} {stages : List Stage} (still : List Stage)
    → ((f : ℕ) → going still f ≡ true → going stages f ≡ true) → Given p F o ts counts costs stages → Given p F o ts counts costs still
given_still still h g = record {
  frames = g.frames;
  lanes = g.lanes;
  triples = g.triples;
  variables = g.variables;
  bits = g.bits;
  members = g.members;
  below = g.below;
  counted = g.counted;
  auxiliaries = g.auxiliaries;
  costs_long = g.costs_long;
  limit = g.limit;
  ready = λ f l r. g.ready f l (h f r);
}

module _ {p : Plan} {F : ℕ} {o : Settings} {ts counts : List ℕ} {costs : List ℤ} {stages : List Stage} (given : Given p F o ts counts costs stages) where
  -- ---- the counts
  count_is : (v : ℕ) → v < p.variables → get_or counts v 0 ≡ occurrences ts p.triples v
  count_is v h = ap (λ (l : List ℕ). get_or l v 0) given.counted ∙ get_or_tab p.variables (occurrences ts p.triples) v 0 h

  counts_long : length counts ≡ p.variables
  counts_long = ap length given.counted ∙ length_tab p.variables (occurrences ts p.triples)

  -- by a frame that runs
  pub counted : (f : ℕ) → f < F → going stages f ≡ true → Counted p counts
  counted f h r =
      let ready = given.ready f h r in
      record {
        long = counts_long;
        some = λ v l. rw (count_is v l) (ready.some v l);
        few = λ v l. rw (count_is v l) (ready.few v l);
        auxiliaries = λ v b l. count_is v l ∙ given.auxiliaries v b l;
      }

  pub tripled : Tripled p ts counts
  tripled = record {
    long = sym given.members;
    named = given.below;
    counted = given.counted;
    auxiliaries = λ v b l. omega (arith, count_is v l, given.auxiliaries v b l);
  }

  -- where both tests pass all is narrow
  pub narrow : (s t : Bool) → s ≡ without_blank ts p.triples → t ≡ every (λ c. leb c most_narrow) counts → (s && t) ≡ true → Narrow p ts counts
  narrow s t e f h = record {
    blank_none = λ u l. none_known ts p.triples s given.members e (and_left s t h) u (omega (arith, given.members));
    counts_few = λ v l. leb-true (get_or counts v 0) most_narrow
        (every_at (λ c. leb c most_narrow) counts v 0 (sym f ∙ and_right s t h) (omega (arith, counts_long)));
  }

  -- ---- the parts of frame f
  module _ (f : ℕ) (h : f < F) where
    pub costs_end : suc f * p.bits ≤ length costs
    costs_end = omega (arith, part_end p.bits F f h, given.costs_long)

    module _ {S c s : List ℤ} (held : Held p F S c s) where
      pub sums_end : suc f * p.variables ≤ length S
      sums_end = omega (arith, part_end p.variables F f h, held.sums_long)

      pub values_end : suc f * p.variables ≤ length c
      values_end = omega (arith, part_end p.variables F f h, held.values_long)

      pub rows_end : suc f * (4 * p.triples) ≤ length s
      rows_end = omega (arith, part_end (4 * p.triples) F f h, held.rows_long)

      -- are lists that a run can work in
      pub lent : going stages f ≡ true
          → Lent o ts counts (part p.bits f costs) p.triples (part p.variables f S) (part p.variables f c) (part (4 * p.triples) f s)
      lent r =
          let long = length_part p.variables f c values_end in
          record {
            members = given.members;
            sums = length_part p.variables f S sums_end ∙ sym long;
            rows = sym (length_part (4 * p.triples) f s rows_end);
            below = rw long given.below;
            counted = rw long given.counted;
            ready = rw long (given.ready f h r);
          }
