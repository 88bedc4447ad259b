-- `lane_values::same_until` meets its contract: the variables below u are in as many triples as v. Assumes nothing.
use Rattle.integers.proofs.Prelude.{◌≡◌, ◌≤◌, ◌<◌, arith, rules, length, get_or}
use Rattle.lists.proofs.Entries.{below_next}
use Rattle.lane_values.proofs.same_until.Goals as goal

pub loop-u-init : goal.loop-u-init
loop-u-init c = (c.same_blocks-u.ensures.0, c.same_blocks-u.ensures.1, λ k h l. c.same_blocks-u.ensures.2 k l h)

pub offset_bounds-counts-u : goal.offset_bounds-counts-u
offset_bounds-counts-u c = let h : c.loop-u.u < length c.args.counts.now = omega arith in search rules

pub offset_bounds-counts-v : goal.offset_bounds-counts-v
offset_bounds-counts-v c = let h : c.args.v < length c.args.counts.now = omega arith in search rules

pub loop-u-preserved : goal.loop-u-preserved
loop-u-preserved c =
    let s = c.args in
    let counts = s.counts.now in
    (omega arith, omega arith, below_next (λ k. s.v ≤ k → get_or counts k 0 ≡ get_or counts s.v 0) c.loop-u.u c.loop-u.invariant.2 (λ _. c.if-counts-u.false))

pub returns : goal.returns
returns c = (omega arith, omega arith, λ k h m. c.loop-u.invariant.2 k (omega arith) h)

pub same_blocks-u-requires : goal.same_blocks-u-requires
same_blocks-u-requires c = c.requires

pub returns-then-counts-u : goal.returns-then-counts-u
returns-then-counts-u c = (c.loop-u.invariant.0, c.loop-u.invariant.1, λ k h m. c.loop-u.invariant.2 k m h)
