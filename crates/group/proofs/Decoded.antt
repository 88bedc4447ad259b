-- The whole answer from its parts. Assumes nothing.
use Rattle.integers.proofs.Prelude.{◌≡◌, refl, sym, ap, subst, ◌∙◌, Bool, true, false, cond, List, ◌++◌, append-nil, ℕ, suc, ◌*◌, ◌≤◌, ◌<◌, arith, ltb-true, ne_eqb, ltb}
use Rattle.integers.proofs.Prelude.{ℤ, length, get_or, length-take, drop_of_length-le}
use lib.ListN.{replicate}
use Rattle.lists.specs.Tabulated.{tab, written, part, blocks}
use Rattle.lists.specs.Entries.{some}
use Rattle.lists.proofs.Tabulated.{tab_same}
use Rattle.lists.proofs.Parts.{blocks_same, written_blocks}
use Rattle.quotient.specs.Quotient.{quotient}
use Rattle.model.specs.declared.Settings.{Settings}
use Rattle.model.specs.Limits.{most_frames}
use Rattle.model.specs.Causes.{first_of}
use Rattle.model.specs.Code.{Code, triples, variables}
use Rattle.model.specs.Records.{code_of, judge, records_of}
use Rattle.model.specs.Splitting.{system_of}
use Rattle.model.specs.Iteration.{counts_of}
use Rattle.model.specs.Run.{Ended, run}
use Rattle.model.specs.Calls.{forbidden, Lists, Answer, Decoded, decoded_by}
use Rattle.model.specs.DecoderClaims.{Small}
use Rattle.model.specs.Sound.{Sound}
use Rattle.model.proofs.RecordClaims.{record_claims}
use Rattle.model.specs.Group.{HasGroupRoom, frame_lists, group_causes, group_cause, alone, frame_decoded, frame_of, Grouped, group_decoded, group}
use Rattle.model.specs.GroupClaims.{GroupFits}
use Rattle.model.specs.GroupPromises.{GroupCall}
use Rattle.model.proofs.Courses.{last_long, steps_range}
use Rattle.model.proofs.Causes as Causes
use Rattle.model.proofs.Causes.{stays}
use Rattle.model.proofs.Groups.{passes, group_is, frame_cause, own_lists}
use Rattle.model.proofs.GroupPromises.{group_call}
use Rattle.group_step.specs.declared.Stage.{Stage}
use Rattle.group_step.specs.declared.Stage.TheVariants.{Idle}
use Rattle.group_step.specs.Frames.{iterations, stop_of, part_state, ended_in}
use Rattle.group.specs.Ends.{plan_of, AcceptedGroup, end_given, Ran, answer_of, word_left}

-- a list that is written to one that is not longer
whole : {A : Type 0} (new old : List A) → length old ≤ length new → written new old ≡ new
whole {A = A} new old h = ap (λ (r : List A). new ++ r) (drop_of_length-le old h) ∙ append-nil new

part_short : {A : Type 0} (size f : ℕ) (l : List A) → length (part size f l) ≤ size
part_short size f l = simp length-take (omega arith)

-- ---- one frame: what the definition says of it, from how it ended
module _ (k : Code) (o : Settings) (costs : List ℤ) (l : Lists) where
  abbrev ended : Ended
  ended = end_given k o costs (record { sums = l.sums; values = l.values; rows = l.rows })

  record FrameEnd : Type 0 where
    sums : (frame_decoded k o costs l).lists.sums ≡ ended.last.sums
    values : (frame_decoded k o costs l).lists.values ≡ ended.last.values
    rows : (frame_decoded k o costs l).lists.rows ≡ ended.last.rows
    answer : (frame_decoded k o costs l).answer ≡ answer_of k ended.k ended.settled ended.last.values
    word : (frame_decoded k o costs l).lists.word ≡ word_left k ended.k ended.last.values l.word

  module _ (ran : some forbidden costs ≡ false → 1 ≤ (run quotient (system_of k) o costs).k) (sums_short : length l.sums ≤ variables k)
      (values_short : length l.values ≤ variables k) (rows_short : length l.rows ≤ 4 * triples k) where
    frame_end : FrameEnd
    unfolding frame_decoded decoded_by system_of
    frame_end = by (some forbidden costs) refl
      where
        by : (t : Bool) → some forbidden costs ≡ t → FrameEnd
        by true e = record { sums = rw e; values = rw e; rows = rw e; answer = rw e; word = rw e }
        by false e =
            let r = run quotient (system_of k) o costs in
            let long = last_long (system_of k) o costs in
            let some_steps = ne_eqb r.k 0 (λ z. absurd (omega (arith, ran e))) in
            record {
              sums = rw e (whole r.last.sums l.sums (omega (arith, long.sums)));
              values = rw e (whole r.last.values l.values (omega (arith, long.values)));
              rows = rw e (whole r.last.rows l.rows (omega (arith, long.rows)));
              answer = rw (e, some_steps);
              word = rw (e, some_steps);
            }

-- ---- all frames of a group: what it was told, where its frames ended in the stages so, with the lists m
pub record Parts (k : Code) (o : Settings) (F : ℕ) (costs : List ℤ) (l : Lists) (stages : List Stage) (m : Lists) (answers : List Answer) : Type 0 where
  pub ran : Ran k o F costs stages l.sums l.values l.rows m.sums m.values m.rows
  pub told : answers ≡ tab most_frames (λ f. cond (ltb f F) (answer_of k (iterations (get_or stages f Idle)) (stop_of (get_or stages f Idle)) (part (variables k) f m.values)) (alone 0))
  pub triples : m.triples ≡ written (system_of k).members l.triples
  pub counts : m.counts ≡ written (counts_of (system_of k)) l.counts
  pub words : m.word ≡ written (blocks F (λ f. word_left k (iterations (get_or stages f Idle)) (part (variables k) f m.values) (part k.bits f l.word))) l.word

module _ (b : List ℕ) (o : Settings) (F : ℕ) (costs : List ℤ) (l : Lists) (work : List ℤ) (fits : GroupFits b o F costs l work) where
  abbrev k : Code
  k = code_of b

  accepted : group_cause b o F costs l work ≡ 0
  accepted = (passes b o F costs l work).1 fits

  each : (f : ℕ) → f < F → FrameEnd k o (part k.bits f costs) (frame_lists k l f)
  each f h =
      frame_end k o (part k.bits f costs) (frame_lists k l f)
      (λ e. (steps_range b o (part k.bits f costs) (frame_lists k l f) (frame_cause b o F costs l work accepted f h ∙ rw e)).0)
      (part_short (variables k) f l.sums) (part_short (variables k) f l.values) (part_short (4 * triples k) f l.rows)

  module _ (stages : List Stage) (m : Lists) (answers : List Answer) (p : Parts k o F costs l stages m answers) where
    abbrev frame : ℕ → Decoded
    frame = frame_of k o costs l

    -- frame f's part of a list, which P picks
    by_end : {A : Type 0} (P : Ended → A) (f : ℕ) → f < F → {x : A}
        → x ≡ P (end_given k o (part k.bits f costs) (part_state (plan_of k F) l.sums l.values l.rows f))
        → P (ended_in (plan_of k F) stages m.sums m.values m.rows f) ≡ x
    by_end P f h e = ap P (p.ran.ended f h) ∙ sym e

    sums_are : m.sums ≡ written (blocks F (λ f. (frame f).lists.sums)) l.sums
    sums_are =
        written_blocks (variables k) F (λ f. (frame f).lists.sums) l.sums (λ f h. (own_lists b o F costs l work accepted f h).sums) m.sums
        (λ f h. by_end (λ x. x.last.sums) f h (each f h).sums) p.ran.sums

    values_are : m.values ≡ written (blocks F (λ f. (frame f).lists.values)) l.values
    values_are =
        written_blocks (variables k) F (λ f. (frame f).lists.values) l.values (λ f h. (own_lists b o F costs l work accepted f h).values) m.values
        (λ f h. by_end (λ x. x.last.values) f h (each f h).values) p.ran.values

    rows_are : m.rows ≡ written (blocks F (λ f. (frame f).lists.rows)) l.rows
    rows_are =
        written_blocks (4 * triples k) F (λ f. (frame f).lists.rows) l.rows (λ f h. (own_lists b o F costs l work accepted f h).rows) m.rows
        (λ f h. by_end (λ x. x.last.rows) f h (each f h).rows) p.ran.rows

    word_is : m.word ≡ written (blocks F (λ f. (frame f).lists.word)) l.word
    word_is =
        p.words
        ∙ ap (λ (x : List ℕ). written x l.word)
        (blocks_same F _ (λ f. (frame f).lists.word) (λ f h. by_end (λ x. word_left k x.k x.last.values (part k.bits f l.word)) f h (each f h).word))

    answers_are : answers ≡ tab most_frames (λ f. cond (ltb f F) (frame f).answer (alone 0))
    answers_are = p.told ∙ tab_same most_frames _ (λ f. cond (ltb f F) (frame f).answer (alone 0)) (λ f _. by f (ltb f F) refl)
      where
        by : (f : ℕ) (t : Bool) → ltb f F ≡ t
            → cond t (answer_of k (iterations (get_or stages f Idle)) (stop_of (get_or stages f Idle)) (part (variables k) f m.values)) (alone 0) ≡ cond t (frame f).answer (alone 0)
        by f true e = by_end (λ x. answer_of k x.k x.settled x.last.values) f (ltb-true f F e) (each f (ltb-true f F e)).answer
        by f false e = refl

    whole_answer : record { number = 0; answers = answers; lists = m } ≡ group_decoded k o F costs l
    unfolding group_decoded
    whole_answer = λ i. record {
      number = 0;
      answers = answers_are i;
      lists = record { triples = p.triples i; counts = p.counts i; sums = sums_are i; values = values_are i; rows = rows_are i; word = word_is i };
    }

-- of a sound code, which is that of its records
pub decoded : (k : Code) → Sound k → (o : Settings) (F : ℕ) (costs : List ℤ) (l : Lists) (work : List ℤ) → AcceptedGroup k o F costs l work
    → (stages : List Stage) (m : Lists) (answers : List Answer) → Parts k o F costs l stages m answers
    → record { number = 0; answers = answers; lists = m } ≡ group_decoded k o F costs l
decoded k s o F costs l work a stages m answers =
    subst (λ (j : Code). Parts j o F costs l stages m answers → record { number = 0; answers = answers; lists = m } ≡ group_decoded j o F costs l) back
    (whole_answer b o F costs l work fits stages m answers)
  where
    b : List ℕ
    b = records_of k

    back : code_of b ≡ k
    back = record_claims.code_back k

    fits : GroupFits b o F costs l work
    fits = record {
      code = (record_claims.accepted k).1 s;
      settings = (Causes.not_out_of_range o).0 a.settings;
      frames = (a.least, a.frames);
      lengths = a.lengths ∙ ap (λ (j : Code). F * j.bits) (sym back);
      room = subst (λ (j : Code). HasGroupRoom j F l work) (sym back) a.room;
    }

-- ---- the entry, by the causes in their order
module _ (b : List ℕ) (o : Settings) (F : ℕ) (costs : List ℤ) (l : Lists) (work : List ℤ) where
  -- what is told of a refused group
  abbrev pub refusal : ℕ → Grouped
  refusal c = record { number = c; answers = replicate most_frames (alone 0); lists = l }

  refused_by : (c : ℕ) → group_cause b o F costs l work ≡ c → (c ≡ 0 → ⊥) → (g : Grouped) → g ≡ refusal c → GroupCall b o F costs l work g work
  unfolding group
  refused_by c e h g is =
      group_call b o F costs l work g work (λ z. absurd (h (sym e ∙ z))) (is ∙ rw e (sym (stays c (group_decoded (code_of b) o F costs l) (refusal c) h))) refl (λ _ _. refl)

  pub unsound : (c : ℕ) → c ≡ judge b → 1 ≤ c → GroupCall b o F costs l work (refusal c) work
  unfolding group_cause
  unsound c e h = refused_by c (rw (← e) (Causes.refused c (group_causes (code_of b) o F costs l work) (λ z. absurd (omega (arith, h, z))))) (λ z. absurd (omega (arith, h, z))) (refusal c) refl

  module _ (judged : 0 ≡ judge b) (k : Code) (is : k ≡ code_of b) where
    cause_is : group_cause b o F costs l work ≡ first_of (group_causes k o F costs l work)
    unfolding group_cause
    cause_is = rw (← judged, ← is)

    pub refused : (c : ℕ) → c ≡ first_of (group_causes k o F costs l work) → 1 ≤ c → GroupCall b o F costs l work (refusal c) work
    refused c e h = refused_by c (cause_is ∙ sym e) (λ z. absurd (omega (arith, h, z))) (refusal c) refl

    pub accepted_is : 0 ≡ first_of (group_causes k o F costs l work) → ((f : ℕ) → f < F → some forbidden (part k.bits f costs) ≡ false → Small (part k.bits f costs))
        → (g : Grouped) → g ≡ group_decoded k o F costs l → (after : List ℤ) → length after ≡ length work → GroupCall b o F costs l work g after
    unfolding group_decoded
    accepted_is e small g told after long =
        group_call b o F costs l work g after (λ _. rw is at small) ((rw is at told) ∙ sym (group_is b o F costs l work (cause_is ∙ sym e))) long
        (λ c z. (let none : suc c ≡ 0 = sym z ∙ ap (λ (x : Grouped). x.number) told in absurd (omega arith)))
