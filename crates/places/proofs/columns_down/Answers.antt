-- The first numbers of the columns are counted down, block by block.
use Rattle.integers.proofs.Prelude.{◌≡◌, refl, ◌∙◌, ℕ, ◌+◌, ◌*◌, arith, min, take, drop}
use lib.Seq.{length_front}
use Rattle.lists.specs.Entries.{sum}
use Rattle.places.specs.Counters.{in_columns, More}
use Rattle.places.proofs.Counters.{more_none, above_tells, end_tells, end_zeros}
use Rattle.places.proofs.Blocks.{block_small, Next, next_block, down_block, above_block}
use Rattle.places.proofs.columns_down.Goals as goal
use Rattle.places.proofs.columns_down.Goals.{After-read, Left-loop-done, else-loop-done-test, then-loop-done-test+in-Some+else-total-done-gt64}

pub loop-done-init : goal.loop-done-init
loop-done-init c =
    let none : min 0 (c.args.window.width * c.args.most) ≡ 0 = omega arith in
    (rw none (more_none _ _ (λ p h. refl)), c.requires.inside.1, rw none, refl)

pub read-requires : goal.read-requires
read-requires c = block_small c.loop-done.values c.loop-done.invariant.3 c.min.ensures c.requires.numbers_small.0 c.loop-done.invariant.2 c.loop-done-test.true

-- the block that was read
next : (y : After-read) → Next y.args.numbers.now y.args.window.width y.args.most y.loop-done.done y.read.new.values y.read.new.self
next y =
    next_block y.loop-done.values y.requires.numbers_small.0 y.requires.numbers_small.1 y.loop-done-test.true y.loop-done.invariant.2 y.loop-done.invariant.3 y.min.ensures
    y.read.ensures.list y.read.ensures.rest

pub returns-in-None-clause-tells : goal.returns-in-None-clause-tells
returns-in-None-clause-tells c =
    above_tells _ c.args.counters.now
    (above_block (next (goal.at.returns-in-None-clause-tells c).After-read) c.args.window c.loop-done.invariant.0 c.in-None.ensures.above)

pub loop-done-preserved : goal.loop-done-preserved
loop-done-preserved c =
    let n = next (goal.at.loop-done-preserved c).After-read in
    let k = c.in-Some.ensures.more in (
      down_block n c.args.window c.loop-done.invariant.0 k.0,
      k.1,
      n.reached,
      length_front c.loop-done.values c.read.new.values c.min.result c.read.auto.values ∙ c.loop-done.invariant.3,
    )

-- ---- all of them are counted
module _ (c : Left-loop-done) where
  abbrev total : ℕ
  total = c.args.window.width * c.args.most

  ended : More (in_columns c.args.window c.args.most 0 (take total c.args.numbers.now)) c.loop-done-test.counters c.args.counters.now
      × (c.loop-done-test.left ≡ sum c.loop-done-test.counters) × (c.loop-done-test.numbers ≡ drop total c.args.numbers.now)
  ended =
      let l = c.loop-done in
      elim c.loop-done-test.branch [
        | else-loop-done-test w ↦ let e : min l.done total ≡ total = omega arith in
            rw (w.numbers-is, w.counters-is, w.left-is) (rw e at l.invariant.0, l.invariant.1, rw e at l.invariant.2)
        | then-loop-done-test+in-Some+else-total-done-gt64 w ↦ let n = next_block l.values c.requires.numbers_small.0 c.requires.numbers_small.1 w.loop-done-test.true
            l.invariant.2 l.invariant.3 w.min.ensures w.read.ensures.list w.read.ensures.rest in
            let k = w.in-Some.ensures.more in
            let e : min (l.done + 64) total ≡ total = omega arith in
            rw (w.numbers-is, w.counters-is, w.left-is) (rw e at (down_block n c.args.window l.invariant.0 k.0), k.1, rw e at n.reached)
      ]

pub returns-clause-tells : goal.returns-clause-tells
returns-clause-tells c = end_tells _ _ c.loop-done-test.counters c.loop-done-test.left (ended c).0 (ended c).1

pub returns-clause-zeros : goal.returns-clause-zeros
returns-clause-zeros c = end_zeros _ _ c.loop-done-test.counters c.loop-done-test.left (ended c).0 (ended c).1

pub returns-clause-rest : goal.returns-clause-rest
returns-clause-rest c = λ t. (ended c).2
