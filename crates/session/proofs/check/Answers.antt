-- `session::check` meets its contract: a refusal, or a mark and a degree that are kept. Assumes nothing.
use Rattle.integers.proofs.Prelude.{◌≡◌, refl, sym, ◌∙◌, ℕ, List, ◌+◌, ◌-◌, arith, rules, length, take, drop, get_or-drop}
use Rattle.model.specs.Records.{bit_count}
use Rattle.program.specs.Frames.{judge_held_check}
use Rattle.session.proofs.Causes.{cut, cut_short}
use Rattle.session.proofs.Records.{check_few, opening_some, opening_refused, opening_kept}
use Rattle.session.proofs.check.Goals as goal
use Rattle.session.proofs.check.Goals.{After-bytes-1}

long : (c : After-bytes-1) → length c.args.buffer.now ≡ 10260
long c = search rules

judged : (n k t at came : ℕ) (buffer : List ℕ) → n ≡ judge_held_check k t (take (at + came - at) (drop at buffer)) → k ≡ bit_count buffer
    → n ≡ judge_held_check (bit_count buffer) t (take came (drop at buffer))
judged n k t at came buffer e bits = let size : at + came - at ≡ came = omega arith in e ∙ rw (bits, size)

pub judge_check-requires : goal.judge_check-requires
judge_check-requires c = check_few _ (long (goal.at.judge_check-requires c).After-bytes-1) _ _ c.requires.0 c.requires.1

pub unreachable-requires : goal.unreachable-requires
unreachable-requires c =
    opening_some _ (long (goal.at.unreachable-requires c).After-bytes-1) _ _ c.requires.0 c.requires.1
    (judged _ _ _ c.args.state.at c.args.came c.args.buffer.now c.in_default.ensures c.two_bytes-bits.ensures.0) refl

pub returns-then-ne : goal.returns-then-ne
returns-then-ne c =
    opening_refused _ (long (goal.at.returns-then-ne c).After-bytes-1) _ _ c.requires.0 c.requires.1
    (judged _ _ _ c.args.state.at c.args.came c.args.buffer.now c.in-Err.ensures c.two_bytes-bits.ensures.0) (cut_short _ _ c.ne.ensures _ c.then-ne.either) c.refuse.ensures

pub bounds-bytes-at : goal.bounds-bytes-at
bounds-bytes-at c = omega (arith, c.requires.0.kept.fits, c.requires.0.most, c.if-came-lt3.false)

pub returns : goal.returns
returns c =
    opening_kept _ (long (goal.at.returns c).After-bytes-1) _ _ c.requires.0 c.requires.1 _ _
    (sym (judged _ _ _ c.args.state.at c.args.came c.args.buffer.now c.in-Err.ensures c.two_bytes-bits.ensures.0) ∙ cut _ _ c.ne.ensures c.if-ne.false) c.if-came-lt3.false
    (c.from-degree.ensures ∙ sym (get_or-drop c.args.state.at c.args.buffer.now 2 0))
