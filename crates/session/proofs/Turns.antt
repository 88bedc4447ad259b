-- The turns of the program's loop write what document 01 says. Assumes nothing.
use Rattle.integers.proofs.Prelude.{◌≡◌, refl, sym, ap, ◌∙◌, Bool, true, false, List, [], ◌++◌, append_assoc, append-nil, ℕ, ◌+◌, ◌≤◌, ◌<◌, arith, ltb-true}
use Rattle.integers.proofs.Prelude.{ltb-false, ltb, length, take, drop, length-take, length-drop}
use Rattle.program.specs.Frames.{frames}
use Rattle.program.proofs.FrameBytes.{opened_degree}
use Rattle.program.proofs.FrameProgram.{lines_as_before}
use Rattle.session.specs.declared.State.{State}
use Rattle.session.specs.declared.Part.{Part}
use Rattle.session.specs.declared.Part.TheVariants.{Header, Check, Indices, Settings, Frame, Over}
use Rattle.session.specs.Session.{start, is_over, to_write, Due, Kept, Turns, Program}
use Rattle.session.specs.Session.Turns.{none, turn}

pub start_kept : Kept start []
start_kept = record { long = refl; fits = omega arith; due = (refl, refl) }

-- nothing is asked for exactly where the program is over
asks : (p : Part) (st : State) (b : List ℕ) → Due p st b → is_over p ≡ false → 0 < st.want
asks Header st b d e = omega (arith, d.1)
asks Check st b d e = omega (arith, d)
asks Indices st b d e = let o = opened_degree _ _ _ d.opened in omega (arith, d.want, o.0)
asks Settings st b d e = omega (arith, d.1)
asks Frame st b d e = omega (arith, d.want)
asks Over st b d e = let z : ◌≡◌ {A = ℕ} 0 1 = cc in absurd (omega arith)

record AfterTurns (s : List ℕ) (n : ℕ) (st : State) (b rest out : List ℕ) : Type 0 where
  pub kept : Kept st b
  pub all : out ++ to_write st b rest ≡ frames s
  pub count : is_over st.part ≡ false → n + length rest ≤ length s

done : (p : Part) (st : State) (b : List ℕ) → Due p st b → is_over p ≡ true → st.want ≡ 0
done Header st b d e = let z : ◌≡◌ {A = ℕ} 0 1 = cc in absurd (omega arith)
done Check st b d e = let z : ◌≡◌ {A = ℕ} 0 1 = cc in absurd (omega arith)
done Indices st b d e = let z : ◌≡◌ {A = ℕ} 0 1 = cc in absurd (omega arith)
done Settings st b d e = let z : ◌≡◌ {A = ℕ} 0 1 = cc in absurd (omega arith)
done Frame st b d e = let z : ◌≡◌ {A = ℕ} 0 1 = cc in absurd (omega arith)
done Over st b d e = d

-- a state that asks for bytes is not over
not_over : (st : State) (b : List ℕ) → Kept st b → 0 < st.want → is_over st.part ≡ false
not_over st b h w = by (is_over st.part) refl
  where
    by : (t : Bool) → is_over st.part ≡ t → t ≡ false
    by true e = absurd (omega (arith, done st.part st b h.due e))
    by false e = refl

is_over_lem : (st : State) (b : List ℕ) → Kept st b → st.want ≡ 0 → is_over st.part ≡ true
is_over_lem st b h w = by (is_over st.part) refl
  where
    by : (t : Bool) → is_over st.part ≡ t → t ≡ true
    by true e = refl
    by false e = absurd (omega (arith, asks st.part st b h.due e))

not_cut : (l w : ℕ) (p : Bool) → p ≡ false → (l < w → p ≡ true) → w ≤ l
not_cut l w p z h = by (ltb l w) refl
  where
    by : (t : Bool) → ltb l w ≡ t → w ≤ l
    by true e = let y : ◌≡◌ {A = ℕ} 0 1 = cc (h (ltb-true l w e)) in absurd (omega arith)
    by false e = ltb-false l w e

module _ (s : List ℕ) where
  after_turns : {n : ℕ} {st : State} {b rest out : List ℕ} → Turns s n st b rest out → AfterTurns s n st b rest out
  after_turns none = record { kept = start_kept; all = refl; count = λ _. omega arith }
  after_turns (turn {n} {st} {b} {rest} {out} t asked buffer kept e {after} {wrote} step) =
      let g = after_turns t in
      let came = take st.want rest in
      let more = to_write after (take after.at buffer) (drop st.want rest) in
      let whole : is_over after.part ≡ false → st.want ≤ length came = λ z. not_cut (length came) st.want (is_over after.part) z step.ends in
      record {
        kept = step.holds;
        all = append_assoc out wrote more ∙ ap (λ (l : List ℕ). out ++ l) (sym (step.writes rest e) ∙ ap (λ (k : List ℕ). to_write st k rest) kept) ∙ g.all;
        count = λ z. omega (arith, g.count (not_over st b g.kept asked), whole z, length-take st.want rest, length-drop st.want rest);
      }

  pub program : Program s
  program = record {
    writes = λ {n} {st} {b} {rest} {out} t w. (let g = after_turns t in sym (append-nil out) ∙ rw (is_over_lem st b g.kept w) at g.all);
    ends = λ t w. (let g = after_turns t in omega (arith, g.count (not_over _ _ g.kept w)));
    as_before = lines_as_before s;
  }
