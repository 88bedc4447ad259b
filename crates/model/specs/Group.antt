-- Document 02, L7: "Eight frames in one walk." Definitions only, with the call; the statements about them are in GroupClaims.
use Rattle.std.specs.Prelude.{Bool, true, cond, ◌&&◌, ◌||◌, List, [], ◌∷◌, map, ℕ, zero, suc, ◌+◌, ◌-◌, ◌*◌, ◌≤◌, leb, ltb, eqb, ℤ, length, get_or, replicate}
use Rattle.lists.specs.Tabulated.{tab, written, part, blocks}
use Rattle.lists.specs.Entries.{some}
use Rattle.quotient.specs.Quotient.{quotient}
use Rattle.model.specs.declared.Settings.{Settings}
use Rattle.model.specs.declared.GroupAnswer.{GroupAnswer}
use Rattle.model.specs.Limits.{most_frames}
use Rattle.model.specs.Causes.{◌if◌, first_of, short, outside, accepted}
use Rattle.model.specs.Code.{Code, triples, variables}
use Rattle.model.specs.Records.{code_of, judge}
use Rattle.model.specs.Splitting.{System, system_of}
use Rattle.model.specs.Iteration.{State, iterate, counts_of}
use Rattle.model.specs.Run.{stop, start, Ended, run_from, run}
use Rattle.model.specs.Calls.{out_of_range, unequal, forbidden, Lists, Answer, run_told, Decoded, decoded_by}

-- ---- the lists
-- "In each list kept per frame the frames stand one behind the other": those of frame f by itself; triples and counts are the group's
abbrev pub frame_lists : Code → Lists → ℕ → Lists
frame_lists k l f = record {
  triples = l.triples;
  counts = l.counts;
  sums = part (variables k) f l.sums;
  values = part (variables k) f l.values;
  rows = part (4 * triples k) f l.rows;
  word = part k.bits f l.word;
}

-- a list of work, which the documents do not name: frames stand there side by side, in fours, so that F of them have one or two fours,
abbrev pub lanes : ℕ → ℕ
lanes F = cond (leb F 4) 4 8

-- and each has four entries for a triple, three for a variable and three for a bit
abbrev pub work_size : Code → ℕ → ℕ
work_size k F = lanes F * (4 * triples k + 3 * variables k + 3 * k.bits)

-- "with room for all": for F frames
pub record HasGroupRoom (k : Code) (F : ℕ) (l : Lists) (lent : List ℤ) : Type 0 where
  pub members : 3 * triples k ≤ length l.triples
  pub counts : variables k ≤ length l.counts
  pub sums : F * variables k ≤ length l.sums
  pub values : F * variables k ≤ length l.values
  pub rows : F * (4 * triples k) ≤ length l.rows
  pub word : F * k.bits ≤ length l.word
  pub work : work_size k F ≤ length lent

-- 10: 3T, V, F × V, F × V, F × 4T and F × n entries, and those of the list of work
abbrev pub no_group_room : Code → ℕ → Lists → List ℤ → Bool
no_group_room k F l work =
    short (3 * triples k) l.triples || (short (variables k) l.counts || (short (F * variables k) l.sums
    || (short (F * variables k) l.values || (short (F * (4 * triples k)) l.rows || (short (F * k.bits) l.word
    || short (work_size k F) work)))))

-- ---- the causes
-- "the other causes [than 13] refuse the group, 10 included, also where a cost is false. Refused: 21 where the given number of frames is 0 or above 8, between
-- 11 and 12": of settings that are out of range or not, of the costs of F frames of n bits, and of lists that are too short or not
abbrev pub group_input_causes : Bool → ℕ → List ℤ → ℕ → Bool → List ℕ
group_input_causes out F costs n too_short = 11 if out ∷ 21 if outside 1 most_frames F ∷ 12 if unequal costs (F * n) ∷ 10 if too_short ∷ []

abbrev pub group_causes : Code → Settings → ℕ → List ℤ → Lists → List ℤ → List ℕ
group_causes k o F costs l work = group_input_causes (out_of_range o) F costs k.bits (no_group_room k F l work)

-- why a group is refused, 0 where it is not
unfoldable pub group_cause : List ℕ → Settings → ℕ → List ℤ → Lists → List ℤ → ℕ
group_cause b o F costs l work = first_of (judge b ∷ group_causes (code_of b) o F costs l work)

-- ---- one frame
-- an answer with this number, where "result fields that a row does not name are 0"
abbrev pub alone : ℕ → Answer
alone c = record { number = c; place = 0; k = 0; settled = 0 }

-- "13 belongs to its frame only, whose lists are kept"; any other frame has "a run by itself"
unfoldable pub frame_decoded : Code → Settings → List ℤ → Lists → Decoded
frame_decoded k o costs l =
    cond (some forbidden costs) (record { answer = alone 13; lists = l }) (decoded_by k (run quotient (system_of k) o costs) l)

-- frame f of a group
abbrev pub frame_of : Code → Settings → List ℤ → Lists → ℕ → Decoded
frame_of k o costs l f = frame_decoded k o (part k.bits f costs) (frame_lists k l f)

-- ---- the group
-- its number, eight answers, of which the frames have the first, and the lists
pub record Grouped : Type 0 where
  pub number : ℕ
  pub answers : List Answer
  pub lists : Lists

-- an accepted group: "Each frame's answer, word and c, s and S lists are those of a run by itself …, while triples and counts are filled for the group"
unfoldable pub group_decoded : Code → Settings → ℕ → List ℤ → Lists → Grouped
group_decoded k o F costs l =
    let frame = frame_of k o costs l in
    record {
      number = 0;
      answers = tab most_frames (λ f. cond (ltb f F) (frame f).answer (alone 0));
      lists = record {
        triples = written (system_of k).members l.triples;
        counts = written (counts_of (system_of k)) l.counts;
        sums = written (blocks F (λ f. (frame f).lists.sums)) l.sums;
        values = written (blocks F (λ f. (frame f).lists.values)) l.values;
        rows = written (blocks F (λ f. (frame f).lists.rows)) l.rows;
        word = written (blocks F (λ f. (frame f).lists.word)) l.word;
      };
    }

-- a call; "Each new number … is returned alone and leaves all lists as they were" (L1)
unfoldable pub group : List ℕ → Settings → ℕ → List ℤ → Lists → List ℤ → Grouped
group b o F costs l work =
    let c = group_cause b o F costs l work in
    accepted c (group_decoded (code_of b) o F costs l) (record { number = c; answers = replicate most_frames (alone 0); lists = l })

-- what a group that gave g has of frame f
abbrev pub frame_in : Code → Grouped → ℕ → Decoded
frame_in k g f = record { answer = get_or g.answers f (alone 0); lists = frame_lists k g.lists f }

-- what is told of a group, with the lists as they are then
abbrev pub group_told : GroupAnswer → Lists → Grouped
group_told r l = record { number = r.number; answers = map run_told r.frames; lists = l }

-- ---- the group step
-- "one group step goes through the code for all frames together and takes every running frame one iteration on": what frame f holds then, where a f is what it
-- held
abbrev pub stepped : System → Settings → (ℕ → List ℤ) → (ℕ → Bool) → (ℕ → State) → ℕ → State
stepped g o costs running a f = cond (running f) (iterate quotient g o (costs f) (a f)) (a f)

-- a frame between two steps: whether it runs, and how far it is, which is how it ended where it does not run
pub record Frame : Type 0 where
  pub running : Bool
  pub sofar : Ended

abbrev pub begun : System → Frame
begun g = record { running = true; sofar = record { k = 0; settled = 0; last = start g } }

module _ (g : System) (o : Settings) (costs : List ℤ) where
  -- after a step: a frame that runs has one iteration more, and runs on unless that stops it or is iteration K
  unfoldable pub onward : Frame → Frame
  onward x =
      let a = x.sofar.last in
      let b = iterate quotient g o costs a in
      let k = suc x.sofar.k in
      cond x.running (record { running = eqb (stop g o a b) 0 && ltb k o.limit; sofar = record { k = k; settled = stop g o a b; last = b } }) x

  -- after so many of them
  unfoldable pub steps : ℕ → Frame → Frame
  steps zero x = x
  steps (suc j) x = steps j (onward x)

  -- how it ends: as it is where it has stopped, otherwise by the rest of its run
  abbrev pub end_of : Frame → Ended
  end_of x = cond x.running (run_from quotient g o costs (o.limit - x.sofar.k) x.sofar.k x.sofar.last) x.sofar
