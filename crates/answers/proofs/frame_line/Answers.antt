-- `answers::frame_line` meets its contract: nothing, a refusal, or the frame's line. Assumes nothing.
use Rattle.integers.proofs.Prelude.{◌≡◌, refl, sym, ap, ◌∙◌, ℕ, ℤ, List, rules, arith, length, take}
use Rattle.text.proofs.Appended.{lent}
use Rattle.lists.specs.Tabulated.{written}
use Rattle.model.specs.Causes.{accepted}
use Rattle.model.specs.Records.{code_of}
use Rattle.model.proofs.Told.{determined}
use Rattle.program.specs.Frames.{costs_of, judge_whole, judge_frame, frame_line}
use Rattle.program.proofs.Frames as Frames
use Rattle.program.proofs.Frames.{length_costs, costs_left}
use Rattle.answers.proofs.Answers.{frame_refused, frame_sound, bits_of, code_long, cost_alone}
use Rattle.answers.proofs.frame_line.Goals as goal
use Rattle.answers.proofs.frame_line.Goals.{After-two_bytes-bits, In_default}

bits : (c : After-two_bytes-bits) → c.two_bytes-bits.result ≡ (code_of c.args.code.now).bits
bits c = c.two_bytes-bits.ensures.0 ∙ sym (bits_of _)

pub two_bytes-bits-requires : goal.two_bytes-bits-requires
two_bytes-bits-requires c = omega (arith, code_long _ c.requires.code)

pub read_frame-requires-clause-bits : goal.read_frame-requires-clause-bits
read_frame-requires-clause-bits c = omega (arith, bits (goal.at.read_frame-requires-clause-bits c).After-two_bytes-bits, c.requires.code.bits)

pub read_frame-requires-clause-room : goal.read_frame-requires-clause-room
read_frame-requires-clause-room c =
    let long : length c.args.held.now.costs ≡ 512 = search rules in
    omega (arith, long, bits (goal.at.read_frame-requires-clause-room c).After-two_bytes-bits, c.requires.code.bits)

-- what was judged of the frame
judged : (k n m : ℕ) (b : List ℕ) → n ≡ m → k ≡ judge_frame n b → k ≡ judge_frame m b
judged k n m b same e = e ∙ ap (λ n. judge_frame n b) same

pub returns-in-Err-clause-text : goal.returns-in-Err-clause-text
returns-in-Err-clause-text c =
    let a = c.args in
    let j = judged _ _ _ a.bytes.now (bits (goal.at.returns-in-Err-clause-text c).After-two_bytes-bits) c.in-Err.ensures.number in
    let x = frame_refused (code_of a.code.now) a.settings a.bytes.now (λ z. grind (arith, c.is_empty.ensures, c.if-is_empty.false, z)) _ j (λ z. omega (arith, z, (determined.refuses c.in-Err.cause).0)) in
    lent c.refusal-written.ensures ∙ rw c.number.ensures x.0

pub returns-in-Err-clause-on : goal.returns-in-Err-clause-on
returns-in-Err-clause-on c =
    let a = c.args in
    let j = judged _ _ _ a.bytes.now (bits (goal.at.returns-in-Err-clause-on c).After-two_bytes-bits) c.in-Err.ensures.number in
    let x = frame_refused (code_of a.code.now) a.settings a.bytes.now (λ z. grind (arith, c.is_empty.ensures, c.if-is_empty.false, z)) _ j (λ z. omega (arith, z, (determined.refuses c.in-Err.cause).0)) in
    c.eq.ensures ∙ (cost_alone c.in-Err.cause ∙ x.1)

pub answer-written-requires-clause-bits : goal.answer-written-requires-clause-bits
answer-written-requires-clause-bits c = bits (goal.at.answer-written-requires-clause-bits c).After-two_bytes-bits

-- the costs of a sound frame
module _ (n m : ℕ) (b : List ℕ) (old costs : List ℤ) (same : n ≡ m) (left : costs ≡ accepted (judge_whole n b) (written (costs_of n b) old) old) where
  costs_are : 0 ≡ judge_frame n b → take n costs ≡ costs_of m b
  costs_are z = costs_left n b old costs (sym z) left ∙ rw same refl

pub answer-written-requires-clause-costs : goal.answer-written-requires-clause-costs
answer-written-requires-clause-costs c =
    let same = bits (goal.at.answer-written-requires-clause-costs c).After-two_bytes-bits in
    let z = c.in_default.ensures.number in
    rw (costs_are _ _ _ _ _ same c.in_default.ensures.costs z) ((Frames.frame_sound _ c.args.bytes.now (sym (judged _ _ _ _ same z))).allowed)

pub returns-clause-text : goal.returns-clause-text
returns-clause-text c =
    let a = c.args in
    let same = bits (goal.at.returns-clause-text c).After-two_bytes-bits in
    let z = c.in_default.ensures.number in
    let x = frame_sound (code_of a.code.now) a.settings a.bytes.now (λ z. grind (arith, c.is_empty.ensures, c.if-is_empty.false, z)) _ (judged _ _ _ _ same z) refl in
    c.answer-written.ensures.line ∙ (ap (frame_line (code_of a.code.now) a.settings) (costs_are _ _ _ _ _ same c.in_default.ensures.costs z) ∙ x.0)

pub returns-clause-on : goal.returns-clause-on
returns-clause-on c =
    let a = c.args in
    let same = bits (goal.at.returns-clause-on c).After-two_bytes-bits in
    let x = frame_sound (code_of a.code.now) a.settings a.bytes.now (λ z. grind (arith, c.is_empty.ensures, c.if-is_empty.false, z)) _ (judged _ _ _ _ same c.in_default.ensures.number) refl in
    x.1
