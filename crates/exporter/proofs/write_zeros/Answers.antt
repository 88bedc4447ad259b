-- `exporter::write_zeros` meets its contract: the zeros so far. Assumes nothing.
use Rattle.integers.proofs.Prelude.{◌≡◌, subst, List, [], ◌∷◌, ℕ, ◌+◌, ◌≤◌, arith, length, set, length-set}
use Rattle.text.specs.Appended.{Appended}
use Rattle.text.proofs.Appended.{none, one, long, then}
use Rattle.exporter.specs.Lines.{spaced}
use Rattle.exporter.proofs.Lines.{length_zeros, zeros_next}
use Rattle.exporter.proofs.write_zeros.Goals as goal
use Rattle.exporter.proofs.write_zeros.Goals.{In-loop}

pub loop-init : goal.loop-init
unfolding spaced
loop-init c = none c.args.text.now.written c.args.text.now.bytes.now c.args.text.now.inside

-- there is room for one more
room : (c : In-loop) → c.loop.next + 2 ≤ length c.loop.bytes
room c = let p = c.loop.invariant in omega (arith, p.ends, length_zeros c.loop.counter, long p, c.requires, c.loop-test.true)

pub bounds-bytes-next : goal.bounds-bytes-next
bounds-bytes-next c = omega (arith, room (goal.at.bounds-bytes-next c).In-loop)

pub bounds-bytes-next-in-loop : goal.bounds-bytes-next-in-loop
bounds-bytes-next-in-loop c = omega (arith, room (goal.at.bounds-bytes-next-in-loop c).In-loop, length-set c.loop.bytes c.loop.next 48)

pair : (next : ℕ) (a : List ℕ) → next + 2 ≤ length a → Appended next (48 ∷ 32 ∷ []) a (set (set a next 48) (next + 1) 32) (next + 2)
pair next a room =
    let zero = one next 48 a (omega arith) in
    let space = one (next + 1) 32 (set a next 48) (omega (arith, length-set a next 48)) in
    let ends : next + 1 + 1 ≡ next + 2 = omega arith in
    subst (λ (n : ℕ). Appended next (48 ∷ 32 ∷ []) a (set (set a next 48) (next + 1) 32) n) ends (then zero space)

pub loop-preserved : goal.loop-preserved
loop-preserved c =
    let l = c.loop in
    rw (zeros_next l.counter) (then l.invariant (pair l.next l.bytes (room (goal.at.loop-preserved c).In-loop)))
