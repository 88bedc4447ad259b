-- Document 02, L7: what holds of a group of frames, and of its steps. Statements only; the proofs are in proofs/Groups.antt and GroupSteps.antt.
use Rattle.std.specs.Prelude.{◌≡◌, true, false, ◌↔◌, List, ℕ, ◌-◌, ◌*◌, ◌≤◌, ◌<◌, ℤ, length, get_or, drop}
use Rattle.lists.specs.Tabulated.{written, part}
use Rattle.lists.specs.Entries.{some}
use Rattle.quotient.specs.Quotient.{quotient}
use Rattle.model.specs.declared.Settings.{Settings}
use Rattle.model.specs.Limits.{most_frames}
use Rattle.model.specs.Causes.{outside}
use Rattle.model.specs.Code.{Code, triples, variables}
use Rattle.model.specs.Records.{code_of, judge}
use Rattle.model.specs.Splitting.{System, system_of}
use Rattle.model.specs.Iteration.{counts_of}
use Rattle.model.specs.Run.{run_from, run}
use Rattle.model.specs.Calls.{InRange, out_of_range, unequal, forbidden, Lists, Decoded, decoder}
use Rattle.model.specs.Group.{frame_lists, HasGroupRoom, no_group_room, alone, Grouped, frame_in, stepped, Frame, begun, onward, steps, end_of}

-- ---- an accepted group
-- "Each frame's answer, word and c, s and S lists are those of a run by itself": of frame f in a group that gave g, where a call by itself gave d
pub record FrameIs (k : Code) (f : ℕ) (g : Grouped) (d : Decoded) : Type 0 where
  pub answer : get_or g.answers f (alone 0) ≡ d.answer
  pub sums : part (variables k) f g.lists.sums ≡ d.lists.sums
  pub values : part (variables k) f g.lists.values ≡ d.lists.values
  pub rows : part (4 * triples k) f g.lists.rows ≡ d.lists.rows
  pub word : part k.bits f g.lists.word ≡ d.lists.word

-- a group of F frames, with lists that were l, that gave g
pub record GroupIsSingles (b : List ℕ) (o : Settings) (F : ℕ) (costs : List ℤ) (l : Lists) (g : Grouped) : Type 0 where
  -- each frame is a call of the decoder with its costs and its parts of the lists; "a frame that stops or has a false cost leaves the others' results
  -- untouched", since that call has no other frame
  pub single : (f : ℕ) → f < F → FrameIs (code_of b) f g (decoder b o (part (code_of b).bits f costs) (frame_lists (code_of b) l f))
  -- where no cost is false, triples and counts are that call's too
  pub whole : (f : ℕ) → f < F → some forbidden (part (code_of b).bits f costs) ≡ false
      → frame_in (code_of b) g f ≡ decoder b o (part (code_of b).bits f costs) (frame_lists (code_of b) l f)
  -- "13 belongs to its frame only, whose lists are kept"
  pub false_cost : (f : ℕ) → f < F → some forbidden (part (code_of b).bits f costs) ≡ true
      → FrameIs (code_of b) f g (record { answer = alone 13; lists = frame_lists (code_of b) l f })
  -- "while triples and counts are filled for the group", whatever the costs are
  pub members : g.lists.triples ≡ written (system_of (code_of b)).members l.triples
  pub counts : g.lists.counts ≡ written (counts_of (system_of (code_of b))) l.counts
  -- there are eight answers; past the group's frames nothing is told, and what lies behind the frames stays
  pub eight : length g.answers ≡ most_frames
  pub none : (f : ℕ) → F ≤ f → get_or g.answers f (alone 0) ≡ alone 0
  pub sums_behind : drop (F * variables (code_of b)) g.lists.sums ≡ drop (F * variables (code_of b)) l.sums
  pub values_behind : drop (F * variables (code_of b)) g.lists.values ≡ drop (F * variables (code_of b)) l.values
  pub rows_behind : drop (F * (4 * triples (code_of b))) g.lists.rows ≡ drop (F * (4 * triples (code_of b))) l.rows
  pub word_behind : drop (F * (code_of b).bits) g.lists.word ≡ drop (F * (code_of b).bits) l.word

-- ---- which groups are accepted
-- the room is that of F frames, and a cost may be false
pub record GroupFits (b : List ℕ) (o : Settings) (F : ℕ) (costs : List ℤ) (l : Lists) (work : List ℤ) : Type 0 where
  pub code : judge b ≡ 0
  pub settings : InRange o
  pub frames : (1 ≤ F) × (F ≤ most_frames)
  pub lengths : length costs ≡ F * (code_of b).bits
  pub room : HasGroupRoom (code_of b) F l work

-- a group that gave g
pub record GroupRefuses (b : List ℕ) (o : Settings) (F : ℕ) (costs : List ℤ) (l : Lists) (work : List ℤ) (g : Grouped) : Type 0 where
  pub exactly : (g.number ≡ 0) ↔ GroupFits b o F costs l work
  -- "21 where the given number of frames is 0 or above 8, between 11 and 12"
  pub settings : judge b ≡ 0 → out_of_range o ≡ true → g.number ≡ 11
  pub frames : judge b ≡ 0 → InRange o → outside 1 most_frames F ≡ true → g.number ≡ 21
  pub lengths : judge b ≡ 0 → InRange o → (1 ≤ F) × (F ≤ most_frames) → unequal costs (F * (code_of b).bits) ≡ true → g.number ≡ 12
  -- "10 included, also where a cost is false"
  pub room : judge b ≡ 0 → InRange o → (1 ≤ F) × (F ≤ most_frames) → length costs ≡ F * (code_of b).bits → no_group_room (code_of b) F l work ≡ true → g.number ≡ 10

-- ---- group steps, of one frame
-- where it runs it has an iteration to come
abbrev pub Going : Settings → Frame → Type 0
Going o x = x.running ≡ true → x.sofar.k < o.limit

pub record StepsAreRuns (g : System) (o : Settings) (costs : List ℤ) : Type 0 where
  -- "takes every running frame one iteration on", and no step changes a frame that has stopped
  pub step : (x : Frame) → (onward g o costs x).sofar.last ≡ stepped g o (λ _. costs) (λ _. x.running) (λ _. x.sofar.last) 0
  pub still : (j : ℕ) (x : Frame) → x.running ≡ false → steps g o costs j x ≡ x
  -- what remains is the whole: from the start it is the run, and a step does not change how a frame ends
  pub begins : end_of g o costs (begun g) ≡ run quotient g o costs
  pub going : (x : Frame) → Going o (onward g o costs x)
  pub keeps : (x : Frame) → Going o x → end_of g o costs (onward g o costs x) ≡ end_of g o costs x
  -- so a frame that runs has stopped, as the rest of its run ends, after as many steps as there are iterations to come;
  pub rest : (x : Frame) → x.running ≡ true → x.sofar.k < o.limit → steps g o costs (o.limit - x.sofar.k) x ≡ record {
    running = false;
    sofar = run_from quotient g o costs (o.limit - x.sofar.k) x.sofar.k x.sofar.last;
  }
  -- and K steps from the start are the run
  pub ended : 1 ≤ o.limit → steps g o costs o.limit (begun g) ≡ record { running = false; sofar = run quotient g o costs }
