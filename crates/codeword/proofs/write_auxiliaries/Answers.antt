-- `codeword::write_auxiliaries` meets its contract: the auxiliaries so far. Assumes nothing.
use Rattle.integers.proofs.Prelude.{◌≡◌, ap, ◌∙◌, List, ℕ, ◌+◌, ◌-◌, ◌*◌, ◌<◌, arith, length, get_or, take, length-take-le}
use Rattle.lists.specs.Tabulated.{written}
use Rattle.lists.proofs.Tabulated.{length_written}
use Rattle.model.specs.Code.{turns}
use Rattle.model.specs.Splitting.{waiting}
use Rattle.model.specs.TripleRule.{items}
use Rattle.triples.proofs.Items.{length_waiting}
use Rattle.codeword.proofs.Extending.{made, item_below, made_long, made_set, made_all, made_none}
use Rattle.codeword.proofs.write_auxiliaries.Goals as goal
use Rattle.codeword.proofs.write_auxiliaries.Goals.{Start, At-loop-t}

begun : (s : Start) → length (take s.args.next s.args.point.now) ≡ s.args.next
begun s = length-take-le s.args.next s.args.point.now (omega arith)

-- the items that wait, and turns for them
waits : (s : Start) → let c = s.args.check.now in length (waiting c) ≡ length c + (3 - length c)
waits s = length_waiting s.args.check.now

pub loop-t-init : goal.loop-t-init
loop-t-init c = (omega arith, made_none c.args.check.now c.args.next c.args.point.now (begun (goal.at.loop-t-init c).Start))

-- ---- after t auxiliaries
module _ (l : At-loop-t) where
  abbrev s : Start
  s = (goal.at.At-loop-t l).Start

  long : length l.loop-t.point ≡ length s.args.point.now
  long =
      let n = made_long _ _ s.requires.sound.0 s.requires.sound.1 (take s.args.next s.args.point.now) (begun s) l.loop-t.t (omega arith) in
      ap length l.loop-t.invariant.1 ∙ length_written (made s.args.check.now s.args.next (take s.args.next s.args.point.now) l.loop-t.t) s.args.point.now (omega arith)

  -- an item that waits stands in the point
  there : (i : ℕ) → i < length s.args.check.now + l.loop-t.t → get_or (items s.args.check.now s.args.next) i 0 < length l.loop-t.point
  there i h = omega (arith, long, item_below _ _ s.requires.sound.0 s.requires.sound.1 i l.loop-t.t h (omega arith))

pub bounds-point-first : goal.bounds-point-first
bounds-point-first c = omega (arith, c.item.ensures, there (goal.at.bounds-point-first c).At-loop-t (2 * c.loop-t.t) (omega arith))

pub bounds-point-second : goal.bounds-point-second
bounds-point-second c =
    omega (arith, c.item-in-loop-t.ensures, there (goal.at.bounds-point-second c).At-loop-t (2 * c.loop-t.t + 1) (omega arith))

pub bounds-point-next : goal.bounds-point-next
bounds-point-next c = omega (arith, long (goal.at.bounds-point-next c).At-loop-t)

pub loop-t-preserved : goal.loop-t-preserved
loop-t-preserved c =
    (omega arith, made_set _ _ (s (goal.at.loop-t-preserved c).At-loop-t).requires.sound.0 (s (goal.at.loop-t-preserved c).At-loop-t).requires.sound.1 _ (begun (s (goal.at.loop-t-preserved c).At-loop-t)) _ _ _ _ _ _ (s (goal.at.loop-t-preserved c).At-loop-t).requires.room (omega arith) c.loop-t.invariant.1 (omega (arith, c.item.ensures, c.from-first.ensures)) (omega (arith, c.item-in-loop-t.ensures, c.from-second.ensures)) c.parity.ensures)

pub returns : goal.returns
returns c =
    let e : c.loop-t.t ≡ turns (s (goal.at.returns c).At-loop-t).args.check.now = omega arith in
    c.loop-t.invariant.1 ∙ ap (λ (q : List ℕ). written q (s (goal.at.returns c).At-loop-t).args.point.now) (ap (made (s (goal.at.returns c).At-loop-t).args.check.now (s (goal.at.returns c).At-loop-t).args.next (take (s (goal.at.returns c).At-loop-t).args.next (s (goal.at.returns c).At-loop-t).args.point.now)) e ∙ made_all _ _ (s (goal.at.returns c).At-loop-t).requires.sound.0 (s (goal.at.returns c).At-loop-t).requires.sound.1 _ (begun (s (goal.at.returns c).At-loop-t)))

pub item-requires : goal.item-requires
item-requires c = omega (arith, waits (s (goal.at.item-requires c).At-loop-t))

pub item-requires-in-loop-t : goal.item-requires-in-loop-t
item-requires-in-loop-t c = omega (arith, waits (s (goal.at.item-requires-in-loop-t c).At-loop-t))

pub shape_of-point : goal.shape_of-point
shape_of-point c = long (goal.at.shape_of-point c).At-loop-t
