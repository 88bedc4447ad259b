-- The call that the frame program makes for a sound frame, and its line. Assumes nothing.
use Rattle.integers.proofs.Prelude.{◌≡◌, refl, sym, ap, ◌∙◌, Bool, true, false, List, ◌++◌, append-nil, ℕ, ◌*◌, ◌≤◌, arith, le-ltb, eqb-true, eq-eqb, eqb, ℤ}
use Rattle.integers.proofs.Prelude.{length, take}
use lib.Seq.{drop-nil}
use Rattle.lists.specs.Entries.{some}
use Rattle.lists.proofs.Tabulated.{length_tab, take_written}
use Rattle.quotient.specs.Quotient.{quotient}
use Rattle.model.specs.declared.Settings.{Settings}
use Rattle.model.specs.Code.{Code, triples, variables}
use Rattle.model.specs.Records.{code_of}
use Rattle.model.specs.Splitting.{system_of}
use Rattle.model.specs.Iteration.{at}
use Rattle.model.specs.Run.{Ended, run}
use Rattle.model.specs.Words.{bit_of, word_of, outcome}
use Rattle.model.specs.Calls.{out_of_range, forbidden, Lists, Answer, lacks_room, decoder_cause_up_to, decoder_cause, decoded_by}
use Rattle.program.specs.Frames.{line, no_lists, frame_line}
use Rattle.program.specs.FrameClaims.{HeldCode, Room, HeldFrame}
use Rattle.model.proofs.Accepted as Accepted
use Rattle.model.proofs.Sound.{variables_most}
use Rattle.model.proofs.DecoderCalls.{ran_is}

-- ---- the lists
enough : (k : Code) (l : Lists) → Room l → k.bits ≤ 512 → triples k ≤ 1024 → variables k ≤ 1536 → lacks_room k l ≡ false
enough k l r n t v =
    rw (
      le-ltb (length l.triples) (3 * triples k) (omega (arith, r.triples)),
      le-ltb (length l.counts) (variables k) (omega (arith, r.counts)),
      le-ltb (length l.sums) (variables k) (omega (arith, r.sums)),
      le-ltb (length l.values) (variables k) (omega (arith, r.values)),
      le-ltb (length l.rows) (4 * triples k) (omega (arith, r.rows)),
      le-ltb (length l.word) k.bits (omega (arith, r.word)),
    )

-- ---- the line: the word list is read where the number is 0 only
line_of : (a : Answer) (v w : List ℕ) → (a.number ≡ 0 → v ≡ w) → line a v ≡ line a w
unfolding line
line_of a v w h = by (eqb a.number 0) refl
  where
    by : (t : Bool) → eqb a.number 0 ≡ t → line a v ≡ line a w
    by true e = ap (line a) (h (eqb-true a.number 0 e))
    by false e = rw e

word_long : (k : Code) (c : List ℤ) → length (word_of k c) ≡ k.bits
unfolding word_of
word_long k c = length_tab k.bits (λ v. bit_of (at c v))

line_left : (k : Code) (e : Ended) (l : Lists) → line (decoded_by k e l).answer (take k.bits (decoded_by k e l).lists.word) ≡ line (decoded_by k e no_lists).answer (decoded_by k e no_lists).lists.word
unfolding decoded_by
line_left k e l =
    let w = word_of k e.last.values in
    line_of (decoded_by k e l).answer _ _ (λ (z : (outcome k e.last.values).number ≡ 0). rw z (take_written w l.word k.bits (word_long k e.last.values) ∙ sym (ap (λ (r : List ℕ). w ++ r) (drop-nil (length w)) ∙ append-nil w)))

-- ---- the call
module _ (b : List ℕ) (o : Settings) (costs : List ℤ) (l : Lists) (held : HeldCode b)
    (within : out_of_range o ≡ false) (fits : length costs ≡ (code_of b).bits) (allowed : some forbidden costs ≡ false) (room : Room l) where
  no_cause : decoder_cause b o costs l ≡ 0
  unfolding decoder_cause_up_to
  no_cause =
      let most = variables_most (code_of b) (Accepted.accepted b held.sound) in
      rw (held.sound, within, eq-eqb (length costs) (code_of b).bits fits, allowed, enough (code_of b) l room held.bits held.triples (omega (arith, most)))

  pub held_frame : HeldFrame b o costs l
  unfolding frame_line
  held_frame =
      let e = run quotient (system_of (code_of b)) o costs in
      record {
        accepted = no_cause;
        prints = rw (ran_is b o costs l no_cause) (line_left (code_of b) e l);
      }
