-- `lane_values::write_bits` meets its contract: what is handed on are the parts of the bits. Assumes nothing.
use Rattle.integers.proofs.Prelude.{refl, ◌*◌, ◌≤◌, arith, rules, ltb-true, leb-true, ltb, leb}
use native.Mathlib.Nat.{mul-le-mul_left}
use Rattle.lists.proofs.Tests.{and_left, and_right}
use Rattle.lanes.specs.Lanes.{most_narrow}
use Rattle.lane_values.proofs.Tables.{entry_is}
use Rattle.lane_values.proofs.Bits.{whole_within, narrow_parts}
use Rattle.lane_values.proofs.Bits.{Handed, few_count, handed_parts, handed_entry, wide_bits, narrow_bits}
use Rattle.lane_values.proofs.write_bits.Goals as goal
use Rattle.lane_values.proofs.write_bits.Goals.{After-sums_at-next}

-- what is handed on, by the places at which the parts begin
module _ (c : After-sums_at-next) where
  handed : let s = c.args in
      Handed s.p s.counts.now s.i s.v s.end s.work.now c.values_at-values.result c.sums_at-next.result
      c.sums_at-sums.result c.weighed_at-weighed.result c.from-count.result
  handed =
      record {
        fits = c.requires.fits.0;
        list = c.requires.fits.1;
        counted = c.requires.fits.2;
        some = c.requires.v_lt_end.0;
        last = c.requires.v_lt_end.1;
        same = c.requires.v_lt_end.2;
        entries = c.requires.entries;
        values_is = c.values_at-values.ensures;
        next_is = c.sums_at-next.ensures;
        sums_is = c.sums_at-sums.ensures;
        weighed_is = c.weighed_at-weighed.ensures;
        count_is = c.from-count.ensures;
      }

  from_to : c.args.p.lanes * c.args.v ≤ c.args.p.lanes * c.args.end
  from_to = mul-le-mul_left c.args.p.lanes (omega (arith, handed.some))

-- ---- 2 to 8 triples
pub write_narrow-requires-clause-from_le_to : goal.write_narrow-requires-clause-from_le_to
write_narrow-requires-clause-from_le_to c =
    let k = (goal.at.write_narrow-requires-clause-from_le_to c).After-sums_at-next in
    (from_to k, narrow_parts (c.args.p.lanes * c.args.p.variables) (handed_parts (handed k)))

pub returns-then-count : goal.returns-then-count
returns-then-count c =
    let k = (goal.at.returns-then-count c).After-sums_at-next in
    let n = c.from-count.result in
    let least : 2 ≤ n = ltb-true 1 n (and_left (ltb 1 n) (leb n most_narrow) c.if-count.true) in
    let most : n ≤ most_narrow = leb-true n most_narrow (and_right (ltb 1 n) (leb n most_narrow) c.if-count.true) in
    let d = entry_is c.args.divisors.now.any c.args.divisors.now.narrow n n c.index-divisors-count.result (search rules) refl least most c.args.divisors.now.narrow_for in
    narrow_bits (handed k) c.args.divisors.now.any most (rw d at c.write_narrow.ensures)

-- ---- any number of triples
pub write_wide-requires-clause-from_le_to : goal.write_wide-requires-clause-from_le_to
write_wide-requires-clause-from_le_to c =
    let k = (goal.at.write_wide-requires-clause-from_le_to c).After-sums_at-next in (from_to k, handed_parts (handed k))

pub write_wide-requires-clause-in_range : goal.write_wide-requires-clause-in_range
write_wide-requires-clause-in_range c j l m =
    let h = handed (goal.at.write_wide-requires-clause-in_range c).After-sums_at-next in whole_within (handed_entry h j l m) (few_count h)

pub returns-else-count : goal.returns-else-count
returns-else-count c = wide_bits (handed (goal.at.returns-else-count c).After-sums_at-next) c.args.divisors.now.any c.write_wide.ensures
