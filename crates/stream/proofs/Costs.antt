-- The costs of a frame record, one by one. Assumes nothing.
use Rattle.integers.proofs.Prelude.{◌≡◌, refl, sym, ap, ◌∙◌, not, List, [], ◌∷◌, ℕ, zero, suc, ◌+◌, ◌*◌, ◌≤◌, ◌<◌, arith, ltb-false, eqb, ℤ, pos, negsuc, ◌-ℤ◌, length}
use Rattle.integers.proofs.Prelude.{get_or, drop, drop-drop}
use native.Mathlib.Nat.{zero-add}
use Rattle.lists.specs.Tabulated.{over, written}
use Rattle.lists.specs.Entries.{some}
use Rattle.lists.proofs.Tabulated.{over_same, over_map}
use Rattle.model.specs.Causes.{◌if◌, short}
use Rattle.model.specs.Records.{two_bytes, numbers}
use Rattle.model.specs.Calls.{forbidden}
use Rattle.program.specs.Frames.{frame_size, twos_complement, costs_of, judge_whole, judge_frame}
use Rattle.model.proofs.Accepted.{length_numbers}
use Rattle.model.proofs.Causes.{only, clear, unless}
use Rattle.records.proofs.Walk.{number_at}
use Rattle.model.proofs.Causes.{refused}

pub minus_one : (y : ℕ) → negsuc 0 -ℤ pos y ≡ negsuc y
minus_one zero = refl
minus_one (suc y) = ap (λ (n : ℕ). negsuc (suc n)) (zero-add y)

-- cost i
abbrev pub cost_at : List ℕ → ℕ → ℤ
cost_at s i = twos_complement (two_bytes (drop (2 + 2 * i) s))

pub costs_written : (n : ℕ) (s : List ℕ) (old : List ℤ) → over n (cost_at s) old ≡ written (costs_of n s) old
unfolding costs_of
costs_written n s old =
    let l = numbers n (drop 2 s) in
    over_same n (cost_at s) (λ i. twos_complement (get_or l i 0)) old
    (λ i h. ap twos_complement (ap two_bytes (sym (drop-drop (2 * i) 2 s)) ∙ sym (number_at n (drop 2 s) i h)))
    ∙ ap (λ (m : ℕ). over m (λ i. twos_complement (get_or l i 0)) old) (sym (length_numbers n (drop 2 s)))
    ∙ over_map twos_complement l 0 old

-- ---- what the causes of a frame come to
pub whole_refused : (n : ℕ) (s : List ℕ) (c : ℕ) → c ≡ judge_whole n s → 0 < c → c ≡ judge_frame n s
unfolding judge_frame
whole_refused n s c e h = e ∙ sym (refused (judge_whole n s) (13 if some forbidden (costs_of n s) ∷ []) (λ z. omega (arith, h, e, z)))

pub whole : (n : ℕ) (s : List ℕ) → judge_whole n s ≡ 0 → frame_size n ≤ length s
unfolding judge_whole
whole n s h =
    ltb-false (length s) (frame_size n) (unless 0 _ (clear (1 if short 2 s ∷ 2 if not (eqb (two_bytes s) 0x4C46) ∷ 1 if short (frame_size n) s ∷ []) h).1.1.0)

pub frame_judged : (n : ℕ) (s : List ℕ) → judge_whole n s ≡ 0 → judge_frame n s ≡ 13 if some forbidden (costs_of n s)
unfolding judge_frame
frame_judged n s h = rw h (only (13 if some forbidden (costs_of n s)))
