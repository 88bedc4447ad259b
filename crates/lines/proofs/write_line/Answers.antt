-- `lines::write_line` meets its contract: each case has its letter, and a refusal's number is none of an outcome. Assumes nothing.
use Rattle.integers.proofs.Prelude.{◌≡◌, List, ℕ, arith, ne_eqb}
use Rattle.model.specs.declared.Cause.{Cause}
use Rattle.model.specs.Causes.{number}
use Rattle.model.proofs.Told.{determined}
use Rattle.program.specs.Frames.{refusal, spaced, line}
use Rattle.lines.proofs.write_line.Goals as goal

pub returns-in-Word : goal.returns-in-Word
unfolding line spaced
returns-in-Word c = rw (c.in-Ok.is, c.in-Word.is) c.write_word.ensures

pub returns-in-Undecided : goal.returns-in-Undecided
unfolding line spaced
returns-in-Undecided c = rw (c.in-Ok.is, c.in-Undecided.is) c.write_place.ensures

pub returns-in-Odd : goal.returns-in-Odd
unfolding line spaced
returns-in-Odd c = rw (c.in-Ok.is, c.in-Odd.is) c.write_place-in-Odd.ensures

refused : (c : Cause) (w : List ℕ) → line (record { number = number c; place = 0; k = 0; settled = 0 }) w ≡ refusal (number c)
unfolding line
refused c w =
    let h = determined.refuses c in
    rw (ne_eqb (number c) 0 (λ e. omega (arith, h.0)), ne_eqb (number c) 16 h.1, ne_eqb (number c) 17 h.2)

pub returns-in-Err : goal.returns-in-Err
returns-in-Err c = rw (c.in-Err.is, refused c.in-Err.cause c.args.word.now, ← c.number.ensures) c.write_refusal.ensures
