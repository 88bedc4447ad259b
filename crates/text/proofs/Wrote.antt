-- What a writer wrote: nothing, one piece after another, and the room that is left. Assumes nothing.
use Rattle.integers.proofs.Prelude.{◌≡◌, refl, ◌∙◌, List, [], ◌++◌, ℕ, ◌+◌, arith, length, drop, length-append}
use Rattle.text.specs.declared.Writer.{Writer}
use Rattle.text.specs.Wrote.{Room, Wrote}
use Rattle.text.proofs.Appended as pieces

pub nothing : (w : Writer) → Wrote [] w w
nothing w = record { bytes = pieces.none w.written w.bytes.now w.inside; same = refl }

pub then : {t u : List ℕ} {a b c : Writer} → Wrote t a b → Wrote u b c → Wrote (t ++ u) a c
then p q = record { bytes = pieces.then p.bytes q.bytes; same = q.same ∙ p.same }

pub room_after : {t : List ℕ} {a b : Writer} (n : ℕ) → Wrote t a b → Room (length t + n) a → Room n b
room_after n p r = omega (arith, p.bytes.ends, pieces.long p.bytes, r)

-- of a text of two parts: there is room for the first, and for the second once the first is written
pub room_here : (w : Writer) (t rest : List ℕ) → Room (length (t ++ rest)) w → Room (length t) w
room_here w t rest r = omega (arith, length-append t rest, r)

pub room_next : {t : List ℕ} {a b : Writer} (rest : List ℕ) → Wrote t a b → Room (length (t ++ rest)) a → Room (length rest) b
room_next {t} rest p r = room_after (length rest) p (omega (arith, length-append t rest, r))

-- of a writer that began at the front: the text, and behind it what was there
pub front : {t : List ℕ} {a b : Writer} → Wrote t a b → a.written ≡ 0 → b.bytes.now ≡ t ++ drop (length t) a.bytes.now
front {t} {a} {b} p start = pieces.front (rw start at p.bytes)
