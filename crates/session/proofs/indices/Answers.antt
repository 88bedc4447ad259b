-- `session::indices` meets its contract: a refusal, or a check that is kept. Assumes nothing.
use Rattle.integers.proofs.Prelude.{◌≡◌, sym, ◌∙◌, ℕ, List, arith, rules, length}
use Rattle.program.specs.Frames.{judge_held_check}
use Rattle.session.proofs.Causes.{refusing}
use Rattle.session.proofs.Records.{indices_few, indices_left, indices_room, indices_refused, check_whole, next_begun, indices_kept}
use Rattle.session.proofs.indices.Goals as goal
use Rattle.session.proofs.indices.Goals.{After-bytes-1}

long : (c : After-bytes-1) → length c.args.buffer.now ≡ 10260
long c = search rules

pub overflow_sub-from : goal.overflow_sub-from
overflow_sub-from c = (indices_room _ (long c) _ _ c.requires.0 c.requires.1).0

judged : (n m k t : ℕ) (s : List ℕ) → n ≡ judge_held_check m t s → m ≡ k → n ≡ judge_held_check k t s
judged n m k t s e same = e ∙ rw same

pub judge_check-requires : goal.judge_check-requires
judge_check-requires c = indices_few _ (long (goal.at.judge_check-requires c).After-bytes-1) _ _ c.requires.0 c.requires.1

pub returns-in-Err : goal.returns-in-Err
returns-in-Err c =
    indices_refused _ (long (goal.at.returns-in-Err c).After-bytes-1) _ _ c.requires.0 c.requires.1 (judged _ _ _ _ _ c.in-Err.ensures c.two_bytes-bits.ensures.0) (refusing c.in-Err.cause) c.refuse.ensures

pub overflow_sub-state : goal.overflow_sub-state
overflow_sub-state c = indices_left _ (long (goal.at.overflow_sub-state c).After-bytes-1) _ _ c.requires.0 c.requires.1

pub triple_count-requires : goal.triple_count-requires
triple_count-requires c =
    check_whole _ (long (goal.at.triple_count-requires c).After-bytes-1) _ _ c.requires.0 c.requires.1 (sym (judged _ _ _ _ _ c.in_default.ensures c.two_bytes-bits.ensures.0))

pub overflow_add-state : goal.overflow_add-state
overflow_add-state c =
    omega (arith, (next_begun _ (long (goal.at.overflow_add-state c).After-bytes-1) _ _ c.requires.0 c.requires.1 (sym (judged _ _ _ _ _ c.in_default.ensures c.two_bytes-bits.ensures.0))).few, c.triple_count.ensures)

pub keep-requires : goal.keep-requires
keep-requires c =
    let l = long (goal.at.keep-requires c).After-bytes-1 in
    let g = next_begun _ l _ _ c.requires.0 c.requires.1 (sym (judged _ _ _ _ _ c.in_default.ensures c.two_bytes-bits.ensures.0)) in
    (rw (← c.triple_count.ensures.0) at g, (indices_room _ l _ _ c.requires.0 c.requires.1).1)

pub returns : goal.returns
returns c =
    indices_kept _ (long (goal.at.returns c).After-bytes-1) _ _ c.requires.0 c.requires.1 (sym (judged _ _ _ _ _ c.in_default.ensures c.two_bytes-bits.ensures.0)) c.keep.ensures
