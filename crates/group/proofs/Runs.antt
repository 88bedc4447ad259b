-- What a group runs with, and how its frames ended. Assumes nothing.
use Rattle.integers.proofs.Prelude.{◌≡◌, refl, sym, ap, subst, ◌∙◌, Bool, true, false, not, cond, List, ◌++◌, ℕ, zero, suc, ◌+◌, ◌*◌, ◌≤◌, ◌<◌, arith, dec_lt}
use Rattle.integers.proofs.Prelude.{leb-true, leb, not-true, ℤ, length, get_or, take, drop, length-take-le, drop_at}
use mathlib.Core.Logic.{◌⊎◌, inl, inr}
use Rattle.std.proofs.Math.ListN.{get_or-map}
use Rattle.std.proofs.lemmas.Bool.{false≢true}
use lib.ListN.{replicate, length-replicate}
use Rattle.lists.specs.Tabulated.{over, written, part}
use Rattle.lists.specs.Entries.{some}
use Rattle.lists.proofs.Tabulated.{length_over, over_in, over_out}
use Rattle.lists.proofs.Parts.{length_part, part_end, part_front, part_take}
use Rattle.quotient.specs.Quotient.{quotient}
use Rattle.model.specs.declared.Settings.{Settings}
use Rattle.model.specs.Limits.{most_frames, most_triples, most_variables}
use Rattle.model.specs.Code.{Code, triples, variables}
use Rattle.model.specs.Splitting.{system_of}
use Rattle.model.specs.Iteration.{State, counts_of}
use Rattle.model.specs.Run.{Ended, run}
use Rattle.model.specs.Calls.{out_of_range, forbidden, Lists}
use Rattle.model.specs.DecoderClaims.{Small}
use Rattle.model.specs.Sound.{Sound}
use Rattle.model.specs.Group.{lanes, work_size}
use Rattle.model.proofs.Causes.{not_out_of_range}
use Rattle.model.proofs.Sound.{variables_most}
use Rattle.triples.proofs.Lent.{triples_long, system_lent, members_lent, auxiliaries_lent, ready_lent, counts_lent, counts_long}
use Rattle.lanes.specs.declared.Plan.{Plan}
use Rattle.lanes.specs.Lanes.{lane_size, Fits}
use Rattle.group_step.specs.declared.Stage.{Stage}
use Rattle.group_step.specs.declared.Stage.TheVariants.{Idle, Running}
use Rattle.group_step.specs.Frames.{is_running, iterations, stop_of, going, part_state, ended_in, Held, Marks}
use Rattle.lane_step.specs.Step.{system_for}
use Rattle.group_run.specs.Given.{Given}
use Rattle.group.specs.Ends.{plan_of, stage_for, AcceptedGroup, end_given, Ran}

-- ---- the lanes
pub lanes_enough : (F : ℕ) → F ≤ most_frames → F ≤ lanes F
lanes_enough F h = by (leb F 4) refl
  where
    by : (t : Bool) → leb F 4 ≡ t → F ≤ cond t 4 8
    by true e = leb-true F 4 e
    by false e = h

pub lanes_kinds : (F : ℕ) → (lanes F ≡ 4) ⊎ (lanes F ≡ 8)
lanes_kinds F = by (leb F 4)
  where
    by : (t : Bool) → let n : ℕ = cond t 4 8 in (n ≡ 4) ⊎ (n ≡ 8)
    by true = inl refl
    by false = inr refl

pub plan_few : (k : Code) → Sound k → (F : ℕ) (p : Plan) → p ≡ plan_of k F
    → (p.lanes ≤ 8) × (p.triples ≤ most_triples) × (p.variables ≤ most_variables) × (p.bits ≤ p.variables)
plan_few k s F p e = rw e (by (leb F 4), s.triples_most, omega (arith, variables_most k s, s.bits_most, s.triples_most), omega arith)
  where
    by : (t : Bool) → let n : ℕ = cond t 4 8 in n ≤ 8
    by true = omega arith
    by false = omega arith

-- ---- the stages
idle_at : (n i : ℕ) → get_or (replicate n Idle) i Idle ≡ Idle
idle_at zero i = refl
idle_at (suc n) zero = refl
idle_at (suc n) (suc i) = idle_at n i

-- a frame that has not run has done no iteration
none_done : (costs : List ℤ) → (iterations (stage_for costs) ≡ 0) × (stop_of (stage_for costs) ≡ 0)
none_done costs = by (some forbidden costs)
  where
    by : (t : Bool) → (iterations (cond t Idle Running) ≡ 0) × (stop_of (cond t Idle Running) ≡ 0)
    by true = (refl, refl)
    by false = (refl, refl)

goes_unless_false : (costs : List ℤ) → is_running (stage_for costs) ≡ not (some forbidden costs)
goes_unless_false costs = by (some forbidden costs)
  where
    by : (t : Bool) → is_running (cond t Idle Running) ≡ not t
    by true = refl
    by false = refl

-- of F frames of n bits
abbrev pub started : ℕ → List ℤ → ℕ → Stage
started n costs f = stage_for (part n f costs)

module _ (n F : ℕ) (few : F ≤ most_frames) (costs : List ℤ) (stages : List Stage) (are : stages ≡ over F (started n costs) (replicate most_frames Idle)) where
  pub stage_at : (f : ℕ) → f < F → get_or stages f Idle ≡ started n costs f
  stage_at f h = ap (λ (m : List Stage). get_or m f Idle) are ∙ over_in F (started n costs) (replicate most_frames Idle) f Idle h

  going_at : (f : ℕ) → going stages f ≡ is_running (get_or stages f Idle)
  going_at f = get_or-map is_running stages f Idle

  going_below : (f : ℕ) → going stages f ≡ true → f < F
  going_below f h = by (dec_lt f F)
    where
      by : Dec (f < F) → f < F
      by (yes l) = l
      by (no l) =
          let none : get_or stages f Idle ≡ Idle
          = ap (λ (m : List Stage). get_or m f Idle) are ∙ over_out F (started n costs) (replicate most_frames Idle) f Idle (omega arith) ∙ idle_at most_frames f in
          absurd (false≢true (sym (going_at f ∙ ap is_running none) ∙ h))

  pub goes_are : (f : ℕ) → f < F → going stages f ≡ not (some forbidden (part n f costs))
  goes_are f h = going_at f ∙ ap is_running (stage_at f h) ∙ goes_unless_false (part n f costs)

  pub all_marks : Marks F stages
  all_marks = record {
    long = ap length are ∙ length_over F (started n costs) (replicate most_frames Idle) (omega (arith, few, length-replicate {A = Stage} most_frames Idle)) ∙ length-replicate {A = Stage} most_frames Idle;
    below = going_below;
  }

-- ---- an accepted code with the plan p for F frames, the lists that its system was written to, and the marks
pub record Begun (k : Code) (o : Settings) (F : ℕ) (p : Plan) (costs : List ℤ) (ts cs : List ℕ) (stages : List Stage) : Type 0 where
  pub sound : Sound k
  pub tame : out_of_range o ≡ false
  pub few : F ≤ most_frames
  pub plan : p ≡ plan_of k F
  pub agree : length costs ≡ F * p.bits
  pub ts₀ : List ℕ
  pub triples : ts ≡ written (system_of k).members ts₀
  pub cs₀ : List ℕ
  pub counts : cs ≡ written (counts_of (system_of k)) cs₀
  pub stages_are : stages ≡ over F (started p.bits costs) (replicate most_frames Idle)
  pub small : (f : ℕ) → f < F → some forbidden (part p.bits f costs) ≡ false → Small (part p.bits f costs)

module _ {k : Code} {o : Settings} {F : ℕ} {p : Plan} {costs : List ℤ} {ts cs : List ℕ} {stages : List Stage} (b : Begun k o F p costs ts cs stages) where
  bits_is : p.bits ≡ k.bits
  bits_is = ap (λ (q : Plan). q.bits) b.plan

  triples_is : p.triples ≡ triples k
  triples_is = ap (λ (q : Plan). q.triples) b.plan

  variables_is : p.variables ≡ variables k
  variables_is = ap (λ (q : Plan). q.variables) b.plan

  lanes_is : p.lanes ≡ lanes F
  lanes_is = ap (λ (q : Plan). q.lanes) b.plan

  -- the lists that are lent
  abbrev lent : List ℕ
  lent = take (3 * p.triples) ts

  pub lent_long : length lent ≡ 3 * p.triples
  lent_long = triples_long k b.sound p.triples p.variables triples_is variables_is ts b.ts₀ b.triples

  pub counts_lent_long : length (take p.variables cs) ≡ p.variables
  counts_lent_long = counts_long k b.sound p.triples p.variables triples_is variables_is ts b.ts₀ b.triples cs b.cs₀ b.counts

  module _ (work : List ℤ) (size : ℕ) (size_is : size ≡ p.lanes * lane_size p) (room : work_size k F ≤ length work) where
    pub work_room : size ≤ length work
    work_room =
        let each : lane_size (plan_of k F) ≡ 4 * triples k + 3 * variables k + 3 * k.bits = omega arith in
        rw (size_is, b.plan, each) room

    pub work_fits : Fits p (take size work)
    work_fits = record {
      lanes = rw lanes_is (lanes_kinds F);
      triples = omega (arith, triples_is, b.sound.triples_most);
      variables = omega (arith, variables_is, variables_most k b.sound, b.sound.bits_most, b.sound.triples_most);
      bits = omega (arith, bits_is, variables_is);
      long = length-take-le size work work_room ∙ size_is;
    }

  -- ---- what it runs with
  own_long : (f : ℕ) → f < F → length (part p.bits f costs) ≡ k.bits
  own_long f h = length_part p.bits f costs (omega (arith, part_end p.bits F f h, b.agree)) ∙ bits_is

  ran_small : (f : ℕ) → f < F → going stages f ≡ true → Small (part p.bits f costs)
  ran_small f h r = b.small f h (not-true (some forbidden (part p.bits f costs)) (sym (goes_are p.bits F b.few costs stages b.stages_are f h) ∙ r))

  pub given : Given p F o lent (take p.variables cs) costs stages
  given = record {
    frames = b.few;
    lanes = rw lanes_is (lanes_enough F b.few);
    triples = omega (arith, triples_is, b.sound.triples_most);
    variables = omega (arith, variables_is, variables_most k b.sound, b.sound.bits_most, b.sound.triples_most);
    bits = omega (arith, bits_is, variables_is);
    members = sym lent_long;
    below = members_lent k b.sound p.triples p.variables triples_is variables_is ts b.ts₀ b.triples;
    counted = counts_lent k b.sound p.triples p.variables triples_is variables_is ts b.ts₀ b.triples cs b.cs₀ b.counts;
    auxiliaries = λ v h. auxiliaries_lent k b.sound p.triples p.variables triples_is variables_is ts b.ts₀ b.triples v (omega (arith, bits_is));
    costs_long = b.agree;
    limit = ((not_out_of_range o).0 b.tame).limit;
    ready = λ f h r.
        ready_lent k b.sound p.triples p.variables triples_is variables_is ts b.ts₀ b.triples o b.tame (part p.bits f costs) (own_long f h)
        (ran_small f h r);
  }

  -- ---- how they ended, in the front of longer lists
  module _ (stages' : List Stage) (S c s S' c' s' : List ℤ)
      (room : (F * p.variables ≤ length S) × (F * p.variables ≤ length c) × (F * (4 * p.triples) ≤ length s)) (held : Held p F S' c' s')
      (ended : (f : ℕ) → f < F → (c₁ : Code) → ended_in p stages' S' c' s' f
      ≡ cond (going stages f) (run quotient (system_for c₁ p lent) o (part p.bits f costs))
      (ended_in p stages (take (F * p.variables) S) (take (F * p.variables) c) (take (F * (4 * p.triples)) s) f)) where
    abbrev n : ℕ
    n = F * p.variables

    abbrev m : ℕ
    m = F * (4 * p.triples)

    -- what is lent of the lists has the frames' parts,
    parts : (f : ℕ) → f < F → part_state p (take n S) (take n c) (take m s) f ≡ part_state p S c s f
    parts f h = λ i. record {
      sums = part_take p.variables F f S room.0 h i;
      values = part_take p.variables F f c room.1 h i;
      rows = part_take (4 * p.triples) F f s room.2 h i;
    }

    -- and so has what comes back
    back : (f : ℕ) → f < F → part_state p (S' ++ drop n S) (c' ++ drop n c) (s' ++ drop m s) f ≡ part_state p S' c' s' f
    back f h = λ i. record {
      sums = part_front p.variables F f S' (drop n S) (omega (arith, held.sums_long)) h i;
      values = part_front p.variables F f c' (drop n c) (omega (arith, held.values_long)) h i;
      rows = part_front (4 * p.triples) F f s' (drop m s) (omega (arith, held.rows_long)) h i;
    }

    -- a frame that did not run has done no iteration
    idle : (f : ℕ) → f < F → ended_in p stages (take n S) (take n c) (take m s) f ≡ record { k = 0; settled = 0; last = part_state p S c s f }
    idle f h =
        let at = stage_at p.bits F b.few costs stages b.stages_are f h in
        let none = none_done (part p.bits f costs) in
        λ i. record { k = (ap iterations at ∙ none.0) i; settled = (ap stop_of at ∙ none.1) i; last = parts f h i }

    cond_not : (t : Bool) (x y : Ended) → cond (not t) x y ≡ cond t y x
    cond_not true x y = refl
    cond_not false x y = refl

    frame_ended : (f : ℕ) → f < F → ended_in p stages' (S' ++ drop n S) (c' ++ drop n c) (s' ++ drop m s) f ≡ end_given k o (part p.bits f costs) (part_state p S c s f)
    frame_ended f h =
        ap (λ (a : State). record { k = iterations (get_or stages' f Idle); settled = stop_of (get_or stages' f Idle); last = a }) (back f h)
        ∙ ended f h k
        ∙ rw (
          goes_are p.bits F b.few costs stages b.stages_are f h,
          system_lent k b.sound p.triples p.variables triples_is variables_is ts b.ts₀ b.triples,
          idle f h,
        )
        (cond_not (some forbidden (part p.bits f costs)) (run quotient (system_of k) o (part p.bits f costs)) (record { k = 0; settled = 0; last = part_state p S c s f }))

    pub ran : Ran k o F costs stages' S c s (S' ++ drop n S) (c' ++ drop n c) (s' ++ drop m s)
    ran = record {
      ended = subst (λ (q : Plan). (f : ℕ) → f < F → ended_in q stages' (S' ++ drop n S) (c' ++ drop n c) (s' ++ drop m s) f ≡ end_given k o (part q.bits f costs) (part_state q S c s f)) b.plan frame_ended;
      small = subst (λ (j : ℕ). (f : ℕ) → f < F → some forbidden (part j f costs) ≡ false → Small (part j f costs)) bits_is b.small;
      sums = rw (← variables_is) (drop_at S' (drop n S) n held.sums_long);
      values = rw (← variables_is) (drop_at c' (drop n c) n held.values_long);
      rows = rw (← triples_is) (drop_at s' (drop m s) m held.rows_long);
    }

-- ---- a group that no cause refuses is begun
pub begun : (k : Code) (o : Settings) (F : ℕ) (costs : List ℤ) (l : Lists) (work : List ℤ) → AcceptedGroup k o F costs l work
    → (p : Plan) → p ≡ plan_of k F → (n : ℕ) → n ≡ k.bits
    → (ts : List ℕ) → ts ≡ written (system_of k).members l.triples → (cs : List ℕ) → cs ≡ written (counts_of (system_of k)) l.counts
    → (old stages : List Stage) → old ≡ replicate most_frames Idle → stages ≡ over F (started n costs) old
    → ((f : ℕ) → f < F → some forbidden (part n f costs) ≡ false → Small (part n f costs)) → Begun k o F p costs ts cs stages
begun k o F costs l work a p plan n n_is ts split cs counted old stages idle are small =
    let e : n ≡ p.bits = n_is ∙ sym (ap (λ (q : Plan). q.bits) plan) in
    record {
      sound = a.sound;
      tame = a.settings;
      few = a.frames;
      plan = plan;
      agree = a.lengths ∙ ap (λ (j : ℕ). F * j) (sym n_is ∙ e);
      ts₀ = l.triples;
      triples = split;
      cs₀ = l.counts;
      counts = counted;
      stages_are = are ∙ ap (over F (started n costs)) idle ∙ ap (λ (j : ℕ). over F (started j costs) (replicate most_frames Idle)) e;
      small = subst (λ (j : ℕ). (f : ℕ) → f < F → some forbidden (part j f costs) ≡ false → Small (part j f costs)) e small;
    }

-- the parts of the lists that are lent, in the sizes that the code has
module _ (k : Code) (o : Settings) (F : ℕ) (costs : List ℤ) (l : Lists) (work : List ℤ) (a : AcceptedGroup k o F costs l work) (p : Plan) (plan : p ≡ plan_of k F) where
  pub room_of : (F * p.variables ≤ length l.sums) × (F * p.variables ≤ length l.values) × (F * (4 * p.triples) ≤ length l.rows)
  room_of =
      let v : p.variables ≡ variables k = ap (λ (q : Plan). q.variables) plan in
      let t : p.triples ≡ triples k = ap (λ (q : Plan). q.triples) plan in
      (rw v a.room.sums, rw v a.room.values, rw t a.room.rows)

  pub held : Held p F (take (F * p.variables) l.sums) (take (F * p.variables) l.values) (take (F * (4 * p.triples)) l.rows)
  held = record {
    sums_long = length-take-le (F * p.variables) l.sums room_of.0;
    values_long = length-take-le (F * p.variables) l.values room_of.1;
    rows_long = length-take-le (F * (4 * p.triples)) l.rows room_of.2;
  }
