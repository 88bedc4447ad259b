-- `session::frame` meets its contract: the code and the settings are those that were kept. Assumes nothing.
use Rattle.integers.proofs.Prelude.{◌≡◌, sym, ap, ◌∙◌, List, ℕ, ◌+◌, ◌-◌, arith, rules, length, take, drop, length-take-le}
use Rattle.model.specs.Records.{code_of}
use Rattle.program.specs.Frames.{settings_of}
use Rattle.program.specs.FrameClaims.{frame_text, goes_further}
use Rattle.session.proofs.Answers.{behind, set, held, within, goes_on, stops}
use Rattle.session.proofs.frame.Goals as goal
use Rattle.session.proofs.frame.Goals.{Start, After-bytes-1, After-settings-settings, After-frame_line-line}

long : (c : After-bytes-1) → length c.args.buffer.now ≡ 10260
long c = search rules

pub overflow_sub-size : goal.overflow_sub-size
overflow_sub-size c = behind _ (long c) _ _ c.requires.0 c.requires.1

pub settings-settings-requires : goal.settings-settings-requires
settings-settings-requires c = omega (arith, (set _ (long (goal.at.settings-settings-requires c).After-bytes-1) _ _ c.requires.0 c.requires.1).twelve)

pub slice_bounds-frame_line-end : goal.slice_bounds-frame_line-end
slice_bounds-frame_line-end c = sym (length-take-le _ _ (omega (arith, c.requires.0.kept.fits)))

pub frame_line-line-requires : goal.frame_line-line-requires
frame_line-line-requires c =
    record { code = held _ (long (goal.at.frame_line-line-requires c).After-bytes-1) _ _ c.requires.0 c.requires.1; settings = rw c.settings-settings.ensures (within _ (long (goal.at.frame_line-line-requires c).After-bytes-1) _ _ c.requires.0 c.requires.1) }

-- ---- what is written
module _ (c : After-frame_line-line) where
  abbrev made : After-bytes-1
  made = (goal.at.After-frame_line-line c).After-bytes-1

  abbrev s : Start
  s = (goal.at.After-bytes-1 made).Start

  abbrev settings : After-settings-settings
  settings = (goal.at.After-frame_line-line c).After-settings-settings

  came : s.args.state.at + s.args.came - s.args.state.at ≡ s.args.came
  came = omega arith

  abbrev at : ℕ
  at = s.args.state.at

  abbrev buffer : List ℕ
  buffer = s.args.buffer.now

  abbrev code : List ℕ
  code = take (at - 12) buffer

  abbrev bytes : List ℕ
  bytes = take s.args.came (drop at buffer)

  text : take c.frame_line-line.result.written c.frame_line-line.new.out
      ≡ frame_text (code_of code) (settings_of (take (at - (at - 12)) (drop (at - 12) buffer))) bytes
  text =
      c.frame_line-line.ensures.text
      ∙ ap (λ o. frame_text (code_of code) o (take (at + s.args.came - at) (drop at buffer))) settings.settings-settings.ensures
      ∙ ap (λ (k : ℕ). frame_text (code_of code) (settings_of (take (at - (at - 12)) (drop (at - 12) buffer))) (take k (drop at buffer))) came

  on : c.frame_line-line.result.on ≡ goes_further (code_of code).bits bytes
  on = c.frame_line-line.ensures.on ∙ rw came

pub returns-then-line : goal.returns-then-line
returns-then-line c =
    goes_on _ (long (made (goal.at.returns-then-line c).After-frame_line-line)) _ _ (s (goal.at.returns-then-line c).After-frame_line-line).requires.0 (s (goal.at.returns-then-line c).After-frame_line-line).requires.1 _ _ (text (goal.at.returns-then-line c).After-frame_line-line) c.frame_line-line.ensures.within (sym c.if-line.true ∙ on (goal.at.returns-then-line c).After-frame_line-line)

pub returns-else-line : goal.returns-else-line
returns-else-line c =
    stops _ (long (made (goal.at.returns-else-line c).After-frame_line-line)) _ _ (s (goal.at.returns-else-line c).After-frame_line-line).requires.0 (s (goal.at.returns-else-line c).After-frame_line-line).requires.1 _ _ (text (goal.at.returns-else-line c).After-frame_line-line) c.frame_line-line.ensures.within c.over.ensures (sym c.if-line.false ∙ on (goal.at.returns-else-line c).After-frame_line-line)
