-- Document 02, L7: which groups are accepted, and that each frame is a call of the decoder by itself. Assumes nothing.
use Rattle.integers.proofs.Prelude.{◌≡◌, refl, sym, ap, subst, ◌∙◌, Bool, true, false, cond, List, [], ◌∷◌, ℕ, zero, suc, ◌*◌, ◌≤◌, ◌<◌, arith}
use Rattle.integers.proofs.Prelude.{dec_lt, ltb-false, lt-ltb, le-ltb, eqb-true, eq-eqb, not-false, ltb, ℤ, length, get_or, get_or-eq_default}
use mathlib.Core.Logic.{◌↔◌}
use lib.ListN.{replicate}
use Rattle.lists.specs.Tabulated.{tab, written, part}
use Rattle.lists.specs.Entries.{some}
use Rattle.lists.proofs.Tabulated.{length_tab, get_or_tab, length_written}
use Rattle.lists.proofs.Parts.{length_part, part_end, part_written, behind_written}
use Rattle.quotient.specs.Quotient.{quotient}
use Rattle.model.specs.declared.Settings.{Settings}
use Rattle.model.specs.Limits.{most_frames}
use Rattle.model.specs.Causes.{◌if◌, first_of, outside, accepted}
use Rattle.model.specs.Code.{Code, triples, variables}
use Rattle.model.specs.Records.{code_of, judge}
use Rattle.model.specs.Splitting.{system_of}
use Rattle.model.specs.Run.{run}
use Rattle.model.specs.Words.{word_of, outcome}
use Rattle.model.specs.Calls.{out_of_range, unequal, forbidden, Lists, Answer, Decoded, lacks_room, decoded_by, decoder_cause_up_to, decoder_up_to, decoder_cause, decoder}
use Rattle.model.specs.Group.{frame_lists, work_size, HasGroupRoom, no_group_room, group_causes, group_cause, alone, frame_decoded, frame_of, Grouped, group_decoded, group, frame_in}
use Rattle.model.specs.GroupClaims.{FrameIs, GroupIsSingles, GroupFits, GroupRefuses}
use Rattle.model.proofs.Causes.{clear, unless, or_false, within, inside, not_out_of_range}
use Rattle.model.proofs.WordClaims.{outcome_claims}
use Rattle.model.proofs.WholeCalls.{room}
use Rattle.model.proofs.Courses.{last_long}

-- ---- the room
pub has_room : (k : Code) (F : ℕ) (l : Lists) (work : List ℤ) → (no_group_room k F l work ≡ false) ↔ HasGroupRoom k F l work
has_room k F l work = (
  λ h.
      let a = or_false _ _ h in
      let b = or_false _ _ a.1 in
      let c = or_false _ _ b.1 in
      let d = or_false _ _ c.1 in
      let e = or_false _ _ d.1 in
      let f = or_false _ _ e.1 in
      record {
        members = ltb-false (length l.triples) (3 * triples k) a.0;
        counts = ltb-false (length l.counts) (variables k) b.0;
        sums = ltb-false (length l.sums) (F * variables k) c.0;
        values = ltb-false (length l.values) (F * variables k) d.0;
        rows = ltb-false (length l.rows) (F * (4 * triples k)) e.0;
        word = ltb-false (length l.word) (F * k.bits) f.0;
        work = ltb-false (length work) (work_size k F) f.1;
      },
  λ r.
      rw (
        le-ltb (length l.triples) (3 * triples k) r.members,
        le-ltb (length l.counts) (variables k) r.counts,
        le-ltb (length l.sums) (F * variables k) r.sums,
        le-ltb (length l.values) (F * variables k) r.values,
        le-ltb (length l.rows) (F * (4 * triples k)) r.rows,
        le-ltb (length l.word) (F * k.bits) r.word,
        le-ltb (length work) (work_size k F) r.work,
      ),
)

-- ---- one frame: its lists are as long as they were
pub record FrameLong (k : Code) (l : Lists) : Type 0 where
  pub sums : length l.sums ≡ variables k
  pub values : length l.values ≡ variables k
  pub rows : length l.rows ≡ 4 * triples k
  pub word : length l.word ≡ k.bits

fills : {A : Type 0} (n : ℕ) (new old : List A) → length new ≡ n → length old ≡ n → length (written new old) ≡ n
fills n new old e f = length_written new old (omega arith) ∙ f

ran_long : (k : Code) (o : Settings) (costs : List ℤ) (l : Lists) → FrameLong k l → FrameLong k (decoded_by k (run quotient (system_of k) o costs) l).lists
unfolding decoded_by system_of
ran_long k o costs l s =
    let long = last_long (system_of k) o costs in
    let e = (run quotient (system_of k) o costs).last in
    record {
      sums = fills (variables k) e.sums l.sums long.sums s.sums;
      values = fills (variables k) e.values l.values long.values s.values;
      rows = fills (4 * triples k) e.rows l.rows long.rows s.rows;
      word = by (outcome k e.values).number e.values;
    }
  where
    by : (c : ℕ) (z : List ℤ) → length (accepted c (written (word_of k z) l.word) l.word) ≡ k.bits
    by zero z = fills k.bits (word_of k z) l.word (outcome_claims k z).word.long s.word
    by (suc c) z = s.word

frame_long : (k : Code) (o : Settings) (costs : List ℤ) (l : Lists) → FrameLong k l → FrameLong k (frame_decoded k o costs l).lists
unfolding frame_decoded
frame_long k o costs l s = by (some forbidden costs)
  where
    by : (t : Bool) → FrameLong k (cond t (record { answer = alone 13; lists = l }) (decoded_by k (run quotient (system_of k) o costs) l)).lists
    by true = s
    by false = ran_long k o costs l s

-- all that a call gave, from what a group has of the frame, with the triples and the counts
all_of : (k : Code) (f : ℕ) (g : Grouped) (d : Decoded) → FrameIs k f g d → g.lists.triples ≡ d.lists.triples → g.lists.counts ≡ d.lists.counts → frame_in k g f ≡ d
all_of k f g d x ts cs = λ i. record {
  answer = x.answer i;
  lists = record { triples = ts i; counts = cs i; sums = x.sums i; values = x.values i; rows = x.rows i; word = x.word i };
}

-- ---- the causes
module _ (b : List ℕ) (o : Settings) (F : ℕ) (costs : List ℤ) (l : Lists) (work : List ℤ) where
  abbrev k : Code
  k = code_of b

  pub passes : (group_cause b o F costs l work ≡ 0) ↔ GroupFits b o F costs l work
  unfolding group_cause
  passes = (
    λ h.
        let c = clear (judge b ∷ group_causes k o F costs l work) h in
        record {
          code = c.0;
          settings = (not_out_of_range o).0 (unless 10 (out_of_range o) c.1.0);
          frames = within 1 most_frames F (unless 20 (outside 1 most_frames F) c.1.1.0);
          lengths = eqb-true (length costs) (F * k.bits) (not-false _ (unless 11 (unequal costs (F * k.bits)) c.1.1.1.0));
          room = (has_room k F l work).0 (unless 9 (no_group_room k F l work) c.1.1.1.1.0);
        },
    λ f.
        rw (
          f.code,
          (not_out_of_range o).1 f.settings,
          inside 1 most_frames F f.frames.0 f.frames.1,
          eq-eqb (length costs) (F * k.bits) f.lengths,
          (has_room k F l work).1 f.room,
        ),
  )

  pub number_is : (group b o F costs l work).number ≡ group_cause b o F costs l work
  unfolding group group_decoded
  number_is = by (group_cause b o F costs l work)
    where
      by : (c : ℕ) → (accepted c (group_decoded k o F costs l) (record { number = c; answers = replicate most_frames (alone 0); lists = l })).number ≡ c
      by zero = refl
      by (suc c) = refl

  pub group_is : group_cause b o F costs l work ≡ 0 → group b o F costs l work ≡ group_decoded k o F costs l
  unfolding group
  group_is h = rw h

  pub group_kept : (c : ℕ) → (group b o F costs l work).number ≡ suc c
      → group b o F costs l work ≡ record { number = suc c; answers = replicate most_frames (alone 0); lists = l }
  unfolding group
  group_kept c h = rw (sym number_is ∙ h)

  pub group_refuses : GroupRefuses b o F costs l work (group b o F costs l work)
  unfolding group_cause
  group_refuses =
      let within_8 : (1 ≤ F) × (F ≤ most_frames) → outside 1 most_frames F ≡ false = λ f. inside 1 most_frames F f.0 f.1 in
      record {
        exactly = (λ h. passes.0 (sym number_is ∙ h), λ f. number_is ∙ passes.1 f);
        settings = λ j s. number_is ∙ rw (j, s);
        frames = λ j s f. number_is ∙ rw (j, (not_out_of_range o).1 s, f);
        lengths = λ j s f e. number_is ∙ rw (j, (not_out_of_range o).1 s, within_8 f, e);
        room = λ j s f e r. number_is ∙ rw (j, (not_out_of_range o).1 s, within_8 f, eq-eqb (length costs) (F * k.bits) e, r);
      }

  -- ---- an accepted group
  module _ (h : group_cause b o F costs l work ≡ 0) where
    abbrev own : ℕ → List ℤ
    own f = part k.bits f costs

    fits : GroupFits b o F costs l work
    fits = passes.0 h

    abbrev space : HasGroupRoom k F l work
    space = fits.room

    pub own_long : (f : ℕ) → f < F → length (own f) ≡ k.bits
    own_long f m = length_part k.bits f costs (omega (arith, part_end k.bits F f m, fits.lengths))

    lent : (f : ℕ) → f < F → FrameLong k (frame_lists k l f)
    lent f m = record {
      sums = length_part (variables k) f l.sums (omega (arith, part_end (variables k) F f m, space.sums));
      values = length_part (variables k) f l.values (omega (arith, part_end (variables k) F f m, space.values));
      rows = length_part (4 * triples k) f l.rows (omega (arith, part_end (4 * triples k) F f m, space.rows));
      word = length_part k.bits f l.word (omega (arith, part_end k.bits F f m, space.word));
    }

    -- in a call by itself a frame has room,
    pub frame_room : (f : ℕ) → f < F → lacks_room k (frame_lists k l f) ≡ false
    frame_room f m =
        let long = lent f m in
        room k (triples k) (variables k) k.bits (frame_lists k l f) refl refl refl (record {
          triples = space.members;
          counts = space.counts;
          sums = omega (arith, long.sums);
          values = omega (arith, long.values);
          rows = omega (arith, long.rows);
          word = omega (arith, long.word);
        })

    -- so that it can be refused by 13 only
    pub frame_cause : (f : ℕ) → f < F → decoder_cause b o (own f) (frame_lists k l f) ≡ 13 if some forbidden (own f)
    unfolding decoder_cause_up_to
    frame_cause f m =
        rw (fits.code, (not_out_of_range o).1 fits.settings, eq-eqb (length (own f)) k.bits (own_long f m), frame_room f m) (by (some forbidden (own f)))
      where
        by : (t : Bool) → first_of (13 if t ∷ 0 ∷ []) ≡ 13 if t
        by true = refl
        by false = refl

    pub frame_is : (f : ℕ) → f < F → decoder b o (own f) (frame_lists k l f) ≡ frame_of k o costs l f
    unfolding decoder_up_to frame_decoded
    frame_is f m = rw (frame_cause f m) (by (some forbidden (own f)) (decoded_by k (run quotient (system_of k) o (own f)) (frame_lists k l f)) (frame_lists k l f))
      where
        by : (t : Bool) (d : Decoded) (m : Lists)
            → accepted (13 if t) d (record { answer = alone (13 if t); lists = m }) ≡ cond t (record { answer = alone 13; lists = m }) d
        by true d m = refl
        by false d m = refl

    pub own_lists : (f : ℕ) → f < F → FrameLong k (frame_of k o costs l f).lists
    own_lists f m = frame_long k o (own f) (frame_lists k l f) (lent f m)

    -- what the group has of a frame
    abbrev made : Grouped
    made = group_decoded k o F costs l

    abbrev told : ℕ → Answer
    told f = cond (ltb f F) (frame_of k o costs l f).answer (alone 0)

    in_group : (f : ℕ) → f < F → FrameIs k f made (frame_of k o costs l f)
    unfolding group_decoded
    in_group f m =
        let each = frame_of k o costs l in
        record {
          answer = get_or_tab most_frames told f (alone 0) (omega (arith, fits.frames.1)) ∙ rw (lt-ltb f F m);
          sums = part_written (variables k) F (λ f. (each f).lists.sums) l.sums (λ f m. (own_lists f m).sums) f m;
          values = part_written (variables k) F (λ f. (each f).lists.values) l.values (λ f m. (own_lists f m).values) f m;
          rows = part_written (4 * triples k) F (λ f. (each f).lists.rows) l.rows (λ f m. (own_lists f m).rows) f m;
          word = part_written k.bits F (λ f. (each f).lists.word) l.word (λ f m. (own_lists f m).word) f m;
        }

    -- past the frames nothing is told
    past : (f : ℕ) → F ≤ f → Dec (f < most_frames) → get_or made.answers f (alone 0) ≡ alone 0
    unfolding group_decoded
    past f m (yes n) = get_or_tab most_frames told f (alone 0) n ∙ rw (le-ltb f F m)
    past f m (no n) = get_or-eq_default (tab most_frames told) (alone 0) {n = f} (omega (arith, length_tab most_frames told))

    refused_is : (f : ℕ) → some forbidden (own f) ≡ true → frame_of k o costs l f ≡ record { answer = alone 13; lists = frame_lists k l f }
    unfolding frame_decoded
    refused_is f e = rw e

    ran_is : (f : ℕ) → some forbidden (own f) ≡ false → frame_of k o costs l f ≡ decoded_by k (run quotient (system_of k) o (own f)) (frame_lists k l f)
    unfolding frame_decoded
    ran_is f e = rw e

    -- a frame that ran has the group's triples and counts
    ran_members : (f : ℕ) → some forbidden (own f) ≡ false → made.lists.triples ≡ (frame_of k o costs l f).lists.triples
    unfolding group_decoded decoded_by
    ran_members f e = sym (ap (λ (d : Decoded). d.lists.triples) (ran_is f e))

    ran_counts : (f : ℕ) → some forbidden (own f) ≡ false → made.lists.counts ≡ (frame_of k o costs l f).lists.counts
    unfolding group_decoded decoded_by
    ran_counts f e = sym (ap (λ (d : Decoded). d.lists.counts) (ran_is f e))

    frames_are : GroupIsSingles b o F costs l made
    unfolding group_decoded
    frames_are =
        let each = frame_of k o costs l in
        record {
          single = λ f m. subst (FrameIs k f made) (sym (frame_is f m)) (in_group f m);
          whole = λ f m e. all_of k f made (frame_of k o costs l f) (in_group f m) (ran_members f e) (ran_counts f e) ∙ sym (frame_is f m);
          false_cost = λ f m e. subst (FrameIs k f made) (refused_is f e) (in_group f m);
          members = refl;
          counts = refl;
          eight = length_tab most_frames told;
          none = λ f m. past f m (dec_lt f most_frames);
          sums_behind = behind_written (variables k) F (λ f. (each f).lists.sums) l.sums (λ f m. (own_lists f m).sums);
          values_behind = behind_written (variables k) F (λ f. (each f).lists.values) l.values (λ f m. (own_lists f m).values);
          rows_behind = behind_written (4 * triples k) F (λ f. (each f).lists.rows) l.rows (λ f m. (own_lists f m).rows);
          word_behind = behind_written k.bits F (λ f. (each f).lists.word) l.word (λ f m. (own_lists f m).word);
        }

    pub group_is_singles : GroupIsSingles b o F costs l (group b o F costs l work)
    group_is_singles = subst (GroupIsSingles b o F costs l) (sym (group_is h)) frames_are
