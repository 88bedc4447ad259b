-- What the decoder of a group promises follows from the equation with its definition. Assumes nothing.
use Rattle.integers.proofs.Prelude.{◌≡◌, refl, sym, ap, ◌∙◌, Bool, false, List, [], ◌∷◌, ◌++◌, append-nil, ℕ, suc, ◌*◌, ◌<◌, ℤ, length}
use Rattle.lists.specs.Tabulated.{part, blocks}
use Rattle.lists.specs.Entries.{some}
use Rattle.lists.proofs.Parts.{length_blocks, part_blocks}
use Rattle.model.specs.declared.Settings.{Settings}
use Rattle.model.specs.Limits.{most_frames}
use Rattle.model.specs.Causes.{outside}
use Rattle.model.specs.Code.{Code}
use Rattle.model.specs.Records.{code_of}
use Rattle.model.specs.Splitting.{system_of}
use Rattle.model.specs.Points.{Codeword}
use Rattle.model.specs.Reflection.{reflect}
use Rattle.model.specs.Calls.{out_of_range, unequal, forbidden, Lists, decoder_cause, decoder}
use Rattle.model.specs.Order.{one_to_nine}
use Rattle.model.specs.DecoderClaims.{Small, ReflectedCalls}
use Rattle.model.specs.Group.{frame_lists, HasGroupRoom, no_group_room, group_causes, group_cause, Grouped, group, frame_in}
use Rattle.model.specs.GroupPromises.{FrameCall, GroupCall}
use Rattle.model.proofs.Causes.{unless}
use Rattle.model.proofs.Order.{listed, whole, follow, after_records}
use Rattle.model.proofs.Composition.{length_reflect}
use Rattle.model.proofs.ComposedCalls.{reflect_allowed}
use Rattle.model.proofs.Promises.{decoder_call}
use Rattle.model.proofs.GroupSteps.{steps_are_runs}
use Rattle.model.proofs.Groups.{number_is, passes, group_kept, group_refuses, own_long, frame_room, frame_cause, group_is_singles}

module _ (b : List ℕ) (o : Settings) (F : ℕ) (costs : List ℤ) (l : Lists) (work : List ℤ) where
  abbrev k : Code
  k = code_of b

  -- the costs of frame f; those without a false one are 16-bit numbers that have a negative
  abbrev own : ℕ → List ℤ
  own f = part k.bits f costs

  abbrev AllSmall : Type 0
  AllSmall = (f : ℕ) → f < F → some forbidden (own f) ≡ false → Small (own f)

  accepted : (g : Grouped) → g ≡ group b o F costs l work → g.number ≡ 0 → group_cause b o F costs l work ≡ 0
  accepted g meets h = sym (number_is b o F costs l work) ∙ ap (λ (x : Grouped). x.number) (sym meets) ∙ h

  -- ---- a frame of an accepted group
  module _ (h : group_cause b o F costs l work ≡ 0) (small : AllSmall) (f : ℕ) (m : f < F) where
    ran_small : decoder_cause b o (own f) (frame_lists k l f) ≡ 0 → Small (own f)
    ran_small z = small f m (unless 12 (some forbidden (own f)) (sym (frame_cause b o F costs l work h f m) ∙ z))

    frame_call : FrameCall b o costs l f (group b o F costs l work)
    frame_call =
        let d = decoder b o (own f) (frame_lists k l f) in
        let singles = group_is_singles b o F costs l work h in
        record {
          decoded = d;
          call = decoder_call b o (own f) (frame_lists k l f) d ran_small refl;
          same = singles.single f m;
          whole = singles.whole f m;
        }

    -- and frame e of a second one, with the costs that w reflects
    frame_reflected : some forbidden (own f) ≡ false → (w : List ℕ) → Codeword k w
        → (E : ℕ) (others : List ℤ) (lists : Lists) (lent : List ℤ) → group_cause b o E others lists lent ≡ 0
        → (e : ℕ) → e < E → part k.bits e others ≡ reflect w (own f)
        → ReflectedCalls b o (own f) w (frame_lists k lists e) (frame_in k (group b o F costs l work) f) (frame_in k (group b o E others lists lent) e)
    frame_reflected none w c E others lists lent again e n is =
        let d = frame_in k (group b o F costs l work) f in
        let first : d ≡ decoder b o (own f) (frame_lists k l f) = (group_is_singles b o F costs l work h).whole f m none in
        let ran : decoder_cause b o (own f) (frame_lists k l f) ≡ 0 = frame_cause b o F costs l work h f m ∙ rw none in
        let none_again : some forbidden (part k.bits e others) ≡ false = rw is (reflect_allowed w (own f) (small f m none)) in
        let second = (group_is_singles b o E others lists lent again).whole e n none_again in
        (decoder_call b o (own f) (frame_lists k l f) d ran_small first).reflected ran w c (frame_lists k lists e) (frame_room b o E others lists lent again e n)
        (frame_in k (group b o E others lists lent) e) (second ∙ ap (λ (x : List ℤ). decoder b o x (frame_lists k lists e)) is)

  -- ---- all frames reflected, each by a word of its own
  module _ (h : group_cause b o F costs l work ≡ 0) (w : ℕ → List ℕ) where
    turned : ℕ → List ℤ
    turned f = reflect (w f) (own f)

    turned_long : (f : ℕ) → f < F → length (turned f) ≡ k.bits
    unfolding turned
    turned_long f m = length_reflect (w f) (own f) ∙ own_long b o F costs l work h f m

    turned_part : (f : ℕ) → f < F → part k.bits f (blocks F turned) ≡ turned f
    turned_part f m = ap (part k.bits f) (sym (append-nil (blocks F turned))) ∙ part_blocks k.bits F f turned [] turned_long m

    turned_accepted : (lists : Lists) (lent : List ℤ) → HasGroupRoom k F lists lent → group_cause b o F (blocks F turned) lists lent ≡ 0
    turned_accepted lists lent room =
        let fits = (passes b o F costs l work).0 h in
        (passes b o F (blocks F turned) lists lent).1 (record {
          code = fits.code;
          settings = fits.settings;
          frames = fits.frames;
          lengths = length_blocks k.bits F turned turned_long;
          room = room;
        })

  -- ---- the call
  pub group_call : (g : Grouped) (work_after : List ℤ) → (group_cause b o F costs l work ≡ 0 → AllSmall) → g ≡ group b o F costs l work
      → length work_after ≡ length work → ((c : ℕ) → g.number ≡ suc c → work_after ≡ work) → GroupCall b o F costs l work g work_after
  unfolding group_cause turned
  group_call g work_after small meets long kept =
      let T = one_to_nine ++ (10 ∷ 11 ∷ 12 ∷ 21 ∷ []) in
      let causes : List (ℕ × Bool)
      = (11, out_of_range o) ∷ (21, outside 1 most_frames F) ∷ (12, unequal costs (F * k.bits)) ∷ (10, no_group_room k F l work) ∷ [] in
      let took = accepted g meets in
      record {
        equation = meets;
        order = after_records (10 ∷ 11 ∷ 12 ∷ 21 ∷ []) b (group_causes k o F costs l work) _ (listed T causes refl)
            (ap (λ (x : Grouped). x.number) meets ∙ number_is b o F costs l work);
        follows = follow (whole b ++ causes) refl;
        refuses = rw meets (group_refuses b o F costs l work);
        refused = λ c h. (meets ∙ group_kept b o F costs l work c (ap (λ (x : Grouped). x.number) (sym meets) ∙ h), kept c h);
        work_length = long;
        singles = λ h. rw meets (group_is_singles b o F costs l work (took h));
        single_calls = λ h f m. rw meets (frame_call (took h) (small (took h)) f m);
        steps = λ f. steps_are_runs (system_of k) o (own f);
        reflected = λ h E others lists lent second again z f e m n none w c is.
            let cause : group_cause b o E others lists lent ≡ 0
            = sym (number_is b o E others lists lent) ∙ ap (λ (x : Grouped). x.number) (sym again) ∙ z in
            rw (meets, again) (frame_reflected (took h) (small (took h)) f m none w c E others lists lent cause e n is);
        reflected_each = λ h w codewords lists lent room second again.
            let cause = turned_accepted (took h) w lists lent room in (
              ap (λ (x : Grouped). x.number) again ∙ number_is b o F (blocks F (turned (took h) w)) lists lent ∙ cause,
              λ f m none.
                  rw (meets, again) (frame_reflected (took h) (small (took h)) f m none (w f) (codewords f m) F (blocks F (turned (took h) w)) lists lent cause f m
                  (turned_part (took h) w f m)),
            );
      }
