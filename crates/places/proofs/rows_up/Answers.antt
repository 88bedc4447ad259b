-- The first numbers of the rows are counted, block by block.
use Rattle.integers.proofs.Prelude.{◌≡◌, refl, ◌∙◌, ◌+◌, ◌*◌, arith, min}
use lib.Seq.{length_front}
use Rattle.places.proofs.Counters.{zeros_sum, more_none}
use Rattle.places.proofs.Blocks.{block_small, Next, next_block, room_rows, up_block}
use Rattle.places.proofs.rows_up.Goals as goal
use Rattle.places.proofs.rows_up.Goals.{After-read}

pub loop-done-init : goal.loop-done-init
loop-done-init c =
    let none : min 0 (c.args.window.height * c.args.most) ≡ 0 = omega arith in
    (rw none (more_none _ _ (λ p h. refl)), zeros_sum c.args.counters.now c.requires.inside.1, omega arith, rw none c.again-rest.ensures, refl)

pub read-requires : goal.read-requires
read-requires c = block_small c.loop-done.values c.loop-done.invariant.4 c.min.ensures c.requires.numbers_small.0 c.loop-done.invariant.3 c.loop-done-test.true

-- the block that was read
next : (y : After-read) → Next y.args.rows.now y.args.window.height y.args.most y.loop-done.done y.read.new.values y.read.new.self
next y =
    next_block y.loop-done.values y.requires.numbers_small.0 y.requires.numbers_small.1 y.loop-done-test.true y.loop-done.invariant.3 y.loop-done.invariant.4 y.min.ensures
    y.read.ensures.list y.read.ensures.rest

pub count_up-open-requires : goal.count_up-open-requires
count_up-open-requires c =
    let n = next (goal.at.count_up-open-requires c).After-read in
    let v = c.loop-done.invariant in (
      rw v.0.long c.requires.inside.0,
      n.inside,
      room_rows c.args.window c.args.most c.loop-done.done c.args.rows.now c.args.counters.now c.loop-done.counters c.requires.inside.1 (omega (arith, n.enough))
          (rw n.here at v.0),
    )

pub loop-done-preserved : goal.loop-done-preserved
loop-done-preserved c =
    let n = next (goal.at.loop-done-preserved c).After-read in
    let v = c.loop-done.invariant in (
      up_block n c.args.window v.0 c.count_up-open.ensures.more,
      omega (arith, c.count_up-open.ensures.counted, v.1),
      omega (arith, c.count_up-open.ensures.bound, v.2, n.here, n.past),
      n.reached,
      length_front c.loop-done.values c.read.new.values c.min.result c.read.auto.values ∙ v.4,
    )

pub returns-2-clause-more : goal.returns-2-clause-more
returns-2-clause-more c =
    let n = next (goal.at.returns-2-clause-more c).After-read in
    let e : min (c.loop-done.done + 64) (c.args.window.height * c.args.most) ≡ c.args.window.height * c.args.most = omega arith in
    (rw e at (up_block n c.args.window c.loop-done.invariant.0 c.count_up-open.ensures.more))
