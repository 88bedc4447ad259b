-- What is written for a frame, and whether the program goes on. Assumes nothing.
use Rattle.integers.proofs.Prelude.{◌≡◌, refl, ap, ◌∙◌, true, false, List, [], ℕ, ◌≤◌, eq-eqb, ne_eqb, eqb, ℤ, length, take}
use Rattle.lists.specs.Entries.{some}
use Rattle.model.specs.declared.Settings as Model
use denote.Enum.Bare.{sameb}
use Rattle.model.specs.contracts.Cause.{the_type}
use Rattle.model.specs.declared.Cause.{Cause}
use Rattle.model.specs.declared.Cause.TheVariants.{Cut, Mark, Size, Degree, Index, Order, Triples, Uncovered, Trailing}
use Rattle.model.specs.declared.Cause.TheVariants.{Setting, Lengths, Cost, Sample, Entry, Text, Places, Long, Frames}
use Rattle.model.specs.declared.Cause.TheVariants as variants
use Rattle.model.specs.Causes.{number}
use Rattle.model.specs.Code.{Code}
use Rattle.model.specs.Records.{bit_count, code_of}
use Rattle.model.specs.Calls.{out_of_range, forbidden, Lists, Answer, decoder}
use Rattle.program.specs.Frames.{costs_of, judge_frame, refusal, line, frame_line}
use Rattle.program.specs.FrameClaims.{HeldCode, Room, frame_text, goes_further}
use Rattle.model.proofs.Accepted.{bytes_sound}
use Rattle.program.proofs.FrameLines.{held_frame}

-- ---- the call of the decoder
pub answered : (b : List ℕ) (o : Model.Settings) (costs : List ℤ) (before after : Lists) (a : Answer)
    → HeldCode b → out_of_range o ≡ false → length costs ≡ (code_of b).bits → some forbidden costs ≡ false → Room before
    → record { answer = a; lists = after } ≡ decoder b o costs before → line a (take (length costs) after.word) ≡ frame_line (code_of b) o costs
answered b o costs before after a held within fits allowed room e =
    rw fits (ap (λ d. line d.answer (take (code_of b).bits d.lists.word)) e ∙ (held_frame b o costs before held within fits allowed room).prints)

-- ---- what is written, and whether the program goes on
module _ (k : Code) (o : Model.Settings) (b : List ℕ) where
  pub none : length b ≡ 0 → ([] ≡ frame_text k o b) × (false ≡ goes_further k.bits b)
  none h = let e = eq-eqb (length b) 0 h in (rw e, rw e)

  module _ (h : length b ≡ 0 → ⊥) (c : ℕ) (e : c ≡ judge_frame k.bits b) where
    pub frame_refused : (c ≡ 0 → ⊥) → (refusal c ≡ frame_text k o b) × (eqb c 13 ≡ goes_further k.bits b)
    frame_refused z = let x = ne_eqb (length b) 0 h in let y = ne_eqb c 0 z in (rw (x, ← e, y), rw (x, ← e, y))

    pub frame_sound : c ≡ 0 → (frame_line k o (costs_of k.bits b) ≡ frame_text k o b) × (true ≡ goes_further k.bits b)
    frame_sound z = let x = ne_eqb (length b) 0 h in let y = eq-eqb c 0 z in (rw (x, ← e, y), rw (x, ← e, y))

pub bits_of : (b : List ℕ) → (code_of b).bits ≡ bit_count b
unfolding code_of
bits_of b = refl

pub code_long : (b : List ℕ) → HeldCode b → 6 ≤ length b
code_long b h = (bytes_sound b h.sound).header.room

-- the cause of a false cost is the one with the number 13
pub cost_alone : (c : Cause) → sameb the_type c Cost ≡ eqb (number c) 13
cost_alone Cut = refl
cost_alone Mark = refl
cost_alone Size = refl
cost_alone Degree = refl
cost_alone Index = refl
cost_alone Order = refl
cost_alone Triples = refl
cost_alone Uncovered = refl
cost_alone Trailing = refl
cost_alone variants.Room = refl
cost_alone Setting = refl
cost_alone Lengths = refl
cost_alone Cost = refl
cost_alone Sample = refl
cost_alone Entry = refl
cost_alone Text = refl
cost_alone Places = refl
cost_alone Long = refl
cost_alone Frames = refl
